-- `auction::best_line` meets its contract: the turns keep what `Laws` says, and each way out leaves what it says there.
use Rattle.std.proofs.Common.{◌≡◌, length, sym, arith}
use Rattle.auction.proofs.Laws.{Orders, bad-met, candidates-end, candidates-next, candidates-start, line-whole, nothing-stored, orders-end, orders-next, orders-start, stored-end, stored-next, stored-start, volume-small}
use Rattle.auction.proofs.best_line.Goals as goal

pub loop-place-init : goal.loop-place-init
loop-place-init g c = (
  rw c.empty_line-best.ensures (candidates-start c.args.orders.now c.args.reference),
  stored-start g.S.Scratch.stored g.S.Scratch.places c.args.orders.now c.args.scratch.now,
)

pub loop-order-init : goal.loop-order-init
loop-order-init g c = rw c.empty_line-line.ensures (orders-start c.args.orders.now c.loop-place.place c.loop-place-test.true)

pub loop-order-preserved : goal.loop-order-preserved
loop-order-preserved g c =
    rw c.with_order-line.ensures (orders-next c.args.orders.now c.loop-order.invariant c.loop-order-test.true (volume-small c.args.orders.now c.loop-place.invariant.0.none-bad c.loop-order-test.true (sym c.if-bad_at_first.ensures)) (sym c.if-bad_at_first.ensures))

pub loop-place-preserved : goal.loop-place-preserved
loop-place-preserved g c =
    let done : Orders c.args.orders.now c.loop-place.place (length c.args.orders.now) c.loop-order.line = orders-end c.args.orders.now c.loop-order-test.false c.loop-order.invariant in (
      rw c.better-best.ensures (candidates-next c.args.orders.now c.args.reference c.loop-place.invariant.0 c.loop-place-test.true done),
      stored-next g.S.Scratch.stored g.S.Scratch.places c.args.orders.now c.args.scratch.now c.loop-place.invariant.1 (line-whole c.args.orders.now done) c.store.ensures g.met.S.Scratch.as_long,
    )

pub returns-then-bad_at_first : goal.returns-then-bad_at_first
returns-then-bad_at_first g c =
    let met = bad-met c.loop-order.invariant c.loop-order-test.true (sym c.if-bad_at_first.ensures) in
    (met.1, nothing-stored g.S.Scratch.stored g.S.Scratch.places c.args.orders.now c.args.scratch.now met.0 c.loop-place.invariant.1)

pub returns-after-loop-place : goal.returns-after-loop-place
returns-after-loop-place g c =
    let last : c.loop-place.place ≡ length c.args.orders.now = omega (arith, c.loop-place.invariant.0.within) in
    let whole = candidates-end c.args.orders.now c.args.reference last c.loop-place.invariant.0 in
    (whole.0, whole.1, stored-end g.S.Scratch.stored g.S.Scratch.places c.args.orders.now c.args.scratch.now last c.loop-place.invariant.1)

-- `auction::volumes::price_and_volumes` meets its contract: what the loops leave is what `Promised` says.
use Rattle.std.proofs.Common.{◌∙◌, length, sym, refl, arith, rules}
use Rattle.auction_definitions.proofs.Accepted.{sizes}
use Rattle.auction.specs.Scratch.{with_volume}
use Rattle.auction.proofs.Promised.{given-cleared, given-kept, passed-in-one, promised-unfit-in-one, same-part}
use Rattle.auction.proofs.volumes.price_and_volumes.Goals as goal
use Rattle.auction.proofs.volumes.price_and_volumes.Goals.{else-is_some, then-is_some}

pub returns-then-not-lists_fit : goal.returns-then-not-lists_fit
returns-then-not-lists_fit c = promised-unfit-in-one c.args.orders.now c.args.reference c.args.volumes.now (sym c.if-not-lists_fit.ensures)

pub returns : goal.returns
returns c =
    let same = same-part with_volume (λ s. s.0.ghost_name) (λ s i l. refl) c.args.orders.now c.args.reference _ c.best_line-best.new.scratch c.best_line-best.result c.best_line-best.ensures in
    let long = sizes (length c.args.orders.now) (length c.args.volumes.now) (length c.args.volumes.now) (sym c.if-not-lists_fit.ensures) in
    let left = passed-in-one c.args.orders.now c.args.reference c.args.volumes.now with_volume (λ s. s.0.now) (λ s i l. refl) _ c.best_line-best.new.scratch refl (sym c.if-not-lists_fit.ensures) c.best_line-best.result c.best_line-best.ensures {vs = c.if-is_some.volumes} (
    elim c.if-is_some.branch [
      | then-is_some w ↦ given-cleared same (search rules) (length c.args.orders.now) w.if-is_some.ensures w.volumes-is (w.fill.ensures.after (λ y h. h)) (omega (arith, long))
      | else-is_some w ↦ given-kept same (search rules) _ w.if-is_some.ensures w.volumes-is
    ]) in
    (c.answer_of.ensures ∙ left.0, left.1)

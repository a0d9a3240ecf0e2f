-- `day::list` meets its contract: each turn hands one event to the gate, and the events that are left do the rest.
use mathlib.Core.Logic.{inl}
use mathlib.Core.Path.{◌≡◌, ap, ◌∙◌}
use Prim.Native.Nat.{◌≤◌}
use native.Mathlib.Omega.{arith}
use lib.ListN.{length}
use Rattle.std.specs.Iterator.Adapters.{enumerate_source, enumerate_count}
use Rattle.reader.specs.Places.{events_of}
use Rattle.reader.proofs.Laws.{split-most, split-some}
use Rattle.day.proofs.Laws.{event-more, no-more}
use Rattle.day.proofs.list.Goals as goal

pub loop-index-init-derived : goal.loop-index-init-derived
loop-index-init-derived g c =
    let all = c.into_iter-index-iterator.result in
    let from = c.enumerate-index-items.ensures in
    let none : enumerate_count all ≡ 0 = ap enumerate_count c.into_iter-index-iterator.ensures.into_iter_gives ∙ from.count in
    let reader : enumerate_source all ≡ c.reader_at.result = ap enumerate_source c.into_iter-index-iterator.ensures.into_iter_gives ∙ from.source in
    let fewer : length (events_of c.args.bytes.now) ≤ length c.args.bytes.now = split-most (length c.args.bytes.now) c.args.bytes.now in
    rw (none, reader, c.reader_at.ensures.0, c.reader_at.ensures.1) ((tt, tt, inl (omega (arith, fewer))), tt)

pub bounds-event-0 : goal.bounds-event-0
bounds-event-0 g c = split-some _ _ c.in-Some.ensures.steps.0

pub loop-index-preserved : goal.loop-index-preserved
loop-index-preserved g c = event-more _ c.in-Some.ensures.steps.0 c.handle-answer.ensures c.loop-index.invariant

pub returns : goal.returns
returns g c = no-more c.in-None.ensures.steps.0.0 c.loop-index.invariant

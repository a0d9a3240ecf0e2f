-- The reader's `next`: the event that is found, and the reader behind it.
use mathlib.Core.Path.{sym, ap}
use Prim.Native.Nat.{◌<◌}
use native.Mathlib.Nat.{le_of_lt}
use native.Mathlib.Omega.{arith}
use lib.ListN.{length}
use Rattle.std.proofs.Common.{rules}
use Rattle.reader.specs.Places.{events_from}
use Rattle.reader.proofs.Laws.{event-at, next-from, none-from}
use Rattle.reader.proofs.EventReaderIterator.next.Goals as goal

pub returns-in_err-end-clause-steps : goal.returns-in_err-end-clause-steps
returns-in_err-end-clause-steps c =
    let none = none-from _ _ (sym c.in_err-end.ensures) in
    rw c.from_residual.ensures (none, none)

pub slice_bounds-event-count : goal.slice_bounds-event-count
slice_bounds-event-count c = le_of_lt (event-at _ _ _ (sym c.in_ok-end.ensures)).grows

pub slice_bounds-event-start : goal.slice_bounds-event-start
slice_bounds-event-start c = le_of_lt (event-at _ _ _ (sym c.in_ok-end.ensures)).grows

pub slice_bounds-event-end : goal.slice_bounds-event-end
slice_bounds-event-end c = (event-at _ _ _ (sym c.in_ok-end.ensures)).within

pub returns-clause-steps : goal.returns-clause-steps
returns-clause-steps c = rw (c.moved.ensures.0, c.moved.ensures.1) (next-from _ _ _ (sym c.in_ok-end.ensures))

pub returns-clause-goes : goal.returns-clause-goes
returns-clause-goes c =
    let bytes = c.args.self.now.bytes.now in
    let fewer : length (events_from bytes c.in_ok-end.end) < length (events_from bytes c.args.self.now.at) =
    omega (arith, ap length (next-from bytes c.args.self.now.at c.in_ok-end.end (sym c.in_ok-end.ensures))) in
    rw (c.moved.ensures.0, c.moved.ensures.1) (search rules)

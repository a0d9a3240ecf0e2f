-- `desks::added` meets its contract: where a row has gone, the others close up first; else the order takes the first free row.
use mathlib.Core.Path.{◌≡◌}
use Rattle.desks.proofs.ClosedUp.{Placing}
use Rattle.desks.proofs.added.Given as goal

abbrev pub invariant-loop-place : goal.invariant-loop-place
invariant-loop-place l = Placing l.clock l.after.rows l.place × (l.after ≡ l.initial.after)

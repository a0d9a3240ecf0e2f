-- `desks::removed` meets its contract: each row from the place on is the next one, and the last is free.
use Rattle.desks.proofs.ClosedUp.{Removing}
use Rattle.desks.proofs.removed.Given as goal

abbrev pub invariant-loop-i : goal.invariant-loop-i
invariant-loop-i l = Removing l.place l.initial.after l.after l.i

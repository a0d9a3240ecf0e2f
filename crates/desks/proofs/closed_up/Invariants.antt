-- `desks::closed_up` meets its contract: each row that is not free is put, as the closure leaves it, behind those before it.
use Rattle.definitions.specs.declared.Row.{Row}
use Rattle.desks.proofs.Laws.{Putting, Closing, Computes}
use Rattle.desks.proofs.closed_up.Given as goal

abbrev pub invariant-loop-row : goal.invariant-loop-row
invariant-loop-row g l =
    Putting l.fn.d.rows l.closed l.n l.row-index
    × ((f : Row → Row) → Computes (goal.F-post g l.becomes) f → Closing f l.fn.d l.closed l.n l.row-index)

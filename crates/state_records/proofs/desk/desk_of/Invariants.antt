-- `state_records::desk::desk_of` meets its contract: the counters are the first three words, and after i turns the first i rows are those of the rest.
use Rattle.state_records.proofs.Laws.{Read}
use Rattle.state_records.proofs.desk.desk_of.Given as goal

abbrev pub invariant-loop-i : goal.invariant-loop-i
invariant-loop-i l = Read l.words l.row-items l.i

-- `state_records::search::row_in` meets its contract: each turn passes a marked row with another number.
use Rattle.state_records.proofs.SearchLaws.{Sought}
use Rattle.state_records.proofs.search.row_in.Given as goal

abbrev pub invariant-loop-i : goal.invariant-loop-i
invariant-loop-i l = Sought l.number l.rows l.i

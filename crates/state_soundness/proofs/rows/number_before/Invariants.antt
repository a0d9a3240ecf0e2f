-- `state_soundness::rows::number_before` meets its contract: each turn passes a row with another number.
use Rattle.state_soundness.proofs.RowLaws.{NoneSoFar}
use Rattle.state_soundness.proofs.rows.number_before.Given as goal

abbrev pub invariant-loop-i : goal.invariant-loop-i
invariant-loop-i l = NoneSoFar l.rows l.count l.number l.i

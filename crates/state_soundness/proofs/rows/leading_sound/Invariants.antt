-- `state_soundness::rows::leading_sound` meets its contract: each turn passes a row that may follow those before it.
use Rattle.state_soundness.proofs.RowLaws.{Led}
use Rattle.state_soundness.proofs.rows.leading_sound.Given as goal

abbrev pub invariant-loop-i : goal.invariant-loop-i
invariant-loop-i l = Led l.securities l.clock l.rows l.largest l.i

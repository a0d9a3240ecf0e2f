-- `state_soundness::rows::number_before` meets its contract: each turn passes a row with another number.
use native.Mathlib.Omega.{arith}
use Rattle.state_soundness.proofs.RowLaws.{none-start, none-next, none_found}
use Rattle.state_soundness.proofs.rows.number_before.Goals as goal

pub loop-i-init : goal.loop-i-init
loop-i-init c = none-start

pub returns-then-rows-i : goal.returns-then-rows-i
returns-then-rows-i c = none_found c.loop-i.invariant (omega arith) c.if-rows-i.true

pub loop-i-preserved : goal.loop-i-preserved
loop-i-preserved c = none-next c.loop-i.invariant (omega arith) c.if-rows-i.false

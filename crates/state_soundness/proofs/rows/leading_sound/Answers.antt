-- `state_soundness::rows::leading_sound` meets its contract: each turn passes a row that may follow those before it.
use mathlib.Core.Bool.{and-false}
use native.Mathlib.Omega.{arith}
use Rattle.definitions.proofs.Tests.{known}
use Rattle.state_soundness.proofs.RowLaws.{led-none, led-new, led-next, led-stop}
use Rattle.state_soundness.proofs.rows.leading_sound.Goals as goal
use Rattle.state_soundness.proofs.rows.leading_sound.Goals.{then-largest-row, else-largest-row+else-number_before}

pub loop-i-init : goal.loop-i-init
loop-i-init c = led-none

pub returns-then-not-sound_marked : goal.returns-then-not-sound_marked
returns-then-not-sound_marked c =
    led-stop c.loop-i.invariant c.row_of-row.ensures (rw (known c.sound_marked.ensures c.if-not-sound_marked.true))

pub returns-then-number_before : goal.returns-then-number_before
returns-then-number_before c =
    led-stop c.loop-i.invariant c.row_of-row.ensures (rw (known c.number_before.ensures c.if-number_before.true, and-false))

pub loop-i-preserved : goal.loop-i-preserved
loop-i-preserved c =
    let inv = c.loop-i.invariant in
    let sound = known c.sound_marked.ensures c.if-not-sound_marked.false in
    elim c.if-largest-row.branch [
      | then-largest-row w ↦ led-next inv c.loop-i-test.true c.row_of-row.ensures sound (led-new inv _ w.if-largest-row.true) (omega arith) (omega arith)
      | else-largest-row+else-number_before w ↦ led-next inv c.loop-i-test.true c.row_of-row.ensures sound (known w.number_before.ensures w.if-number_before.false) (omega arith) (omega arith)
    ]

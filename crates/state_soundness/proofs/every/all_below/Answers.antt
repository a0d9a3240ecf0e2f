-- `state_soundness::every::all_below` meets its contract: whether the records so far are sound.
use mathlib.Core.Path.{refl, sym}
use Rattle.definitions.specs.Lists.{all_below}
use Rattle.definitions.proofs.Lists.{all_below-next}
use Rattle.state_soundness.proofs.every.all_below.Goals as goal

pub loop-i-init : goal.loop-i-init
unfolding all_below
loop-i-init g c = λ p by. refl

pub loop-i-preserved : goal.loop-i-preserved
loop-i-preserved g c = λ p by.
    rw (c.loop-i.invariant p by, by _ _ c.loop-i-test.true c.sound-all.ensures) (sym (all_below-next p c.loop-i.i))

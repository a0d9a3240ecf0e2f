-- `state_soundness::every::all_below` meets its contract: whether the records so far are sound.
use mathlib.Core.Bool.{Bool}
use mathlib.Core.Path.{◌≡◌}
use Prim.Native.Nat.{ℕ, ◌<◌}
use Rattle.definitions.specs.Lists.{all_below}
use Rattle.state_soundness.proofs.every.all_below.Given as goal

abbrev pub invariant-loop-i : goal.invariant-loop-i
invariant-loop-i g l =
    (p : ℕ → Bool) → ((i : ℕ) (met : Bool) → i < l.count → goal.F-post g l.sound i met → met ≡ p i) → l.all ≡ all_below l.i p

-- The exits of `range::daily_range`, over plain variables: what is passed, and what is met.
-- Assumes nothing.
use Rattle.std.specs.Prelude.{Some, None}
use mathlib.Core.Bool.{true, false}
use mathlib.Core.List.{List}
use mathlib.Core.Path.{◌≡◌, ap, ◌∙◌}
use Prim.Native.Nat.{ℕ, ◌≤◌, ◌<◌}
use borrow.Author.Tests.{lt-ltb, le-ltb}
use Rattle.definitions.specs.declared.Security.{Security}
use Rattle.definitions.specs.declared.Range.{Range}
use Rattle.definitions.specs.State.{header_of, security_at, state_fits}
use Rattle.definitions.specs.Ranges.{has_range, range_of}
use Rattle.definitions.specs.Gate.{daily_range, sound_security_at}

module _ (w : List ℕ) (s : ℕ) where
  pub unfit : state_fits w ≡ false → None ≡ daily_range w s
  unfolding daily_range
  unfit misfit = rw misfit

  module _ (fits : state_fits w ≡ true) where
    pub beyond : (header_of w).securities ≤ s → None ≡ daily_range w s
    unfolding daily_range
    beyond past = rw (fits, le-ltb s (header_of w).securities past)

    module _ (below : s < (header_of w).securities) where
      pub unsound : sound_security_at w s ≡ false → None ≡ daily_range w s
      unfolding daily_range
      unsound damaged = rw (fits, lt-ltb s (header_of w).securities below, damaged)

      module _ (sound : sound_security_at w s ≡ true) where
        pub without : has_range (security_at w s) ≡ false → None ≡ daily_range w s
        unfolding daily_range
        without none = rw (fits, lt-ltb s (header_of w).securities below, sound, none)

        pub given : has_range (security_at w s) ≡ true → {x : Security} {r : Range} → x ≡ security_at w s → r ≡ range_of x.prior.close x.figures
            → Some r ≡ daily_range w s
        unfolding daily_range
        given ranged ex er =
            rw (fits, lt-ltb s (header_of w).securities below, sound, ranged) (ap Some (er ∙ ap (λ (y : Security). range_of y.prior.close y.figures) ex))

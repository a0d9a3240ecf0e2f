-- The laws that the proofs of this crate cite: what bounds the numbers of a sound security's base, and why the floor needs no least price.
-- Assumes nothing.
use mathlib.Core.Bool.{true}
use mathlib.Core.Path.{◌≡◌}
use Prim.Native.Nat.{ℕ, ◌+◌, ◌*◌, ◌≤◌, ◌<◌}
use native.Mathlib.Nat.{lt_of_mul-lt-mul_right, mul-le-mul_right}
use native.Mathlib.Omega.{arith}
use Rattle.std.specs.Int.{div_ceil}
use Rattle.std.proofs.lemmas.Grind.{div_ceil_times}
use Rattle.ladder.specs.Bands.{last_price}
use Rattle.ladder.specs.Ladder.{legal_up}
use Rattle.ladder.proofs.Laws.{legal-true}
use Rattle.ladder.proofs.LegalLaws.{up_least}
use Rattle.definitions.specs.declared.Figures.{Figures}
use Rattle.definitions.specs.declared.Base.{Base}
use Rattle.definitions.specs.Sound.{sound_figures}
use Rattle.definitions.specs.Ranges.{base_of, whole_up, floor_of}
use Rattle.definitions.proofs.RangeLaws.{base-is, up-reaches, up-most}
use Rattle.ranges.specs.Bounds.{Bounded}

pub base_bounded : (close : ℕ) (f : Figures) → sound_figures close f ≡ true → 0 < close → close ≤ last_price → Bounded (base_of close f)
base_bounded close f sound present last =
    let h = base-is close f sound present in
    record {
      numerator_some = h.numerator_some;
      denominator_some = h.denominator_some;
      denominator_most = h.denominator_most;
      not_above_last = omega (arith, h.not-above-close, mul-le-mul_right {m = close} {n = last_price} (base_of close f).denominator last);
    }

-- a fraction rounded up, as the library has it and as the definition does
whole-up-is : (n d : ℕ) → 0 < d → div_ceil n d ≡ whole_up n d
whole-up-is n d some =
    let times = div_ceil_times n d some in
    let least : whole_up n d ≤ div_ceil n d = up-most n d some (div_ceil n d) times.0 in
    let less : div_ceil n d * d < (whole_up n d + 1) * d = omega (arith, times.1, up-reaches n d some (whole_up n d) (omega arith)) in
    let most : div_ceil n d < whole_up n d + 1 = lt_of_mul-lt-mul_right d less in
    omega (arith, least, most)

module _ (b : Base) (bounded : Bounded b) where
  abbrev hundred : ℕ
  hundred = 100 * b.denominator

  some-hundred : 0 < hundred
  some-hundred = omega (arith, bounded.denominator_some)

  pub floor-reached : 70 * b.numerator ≤ last_price * hundred
  floor-reached = omega (arith, bounded.not_above_last)

  floor-last : div_ceil (70 * b.numerator) hundred ≤ last_price
  floor-last = rw (whole-up-is (70 * b.numerator) hundred some-hundred) (up-most (70 * b.numerator) hundred some-hundred last_price floor-reached)

  pub floor_found : legal_up (div_ceil (70 * b.numerator) hundred) ≡ floor_of b
  unfolding floor_of
  floor_found =
      let found = up_least (div_ceil (70 * b.numerator) hundred) floor-last in
      rw (← whole-up-is (70 * b.numerator) hundred some-hundred) (omega (arith, (legal-true _ found.is-legal).above))

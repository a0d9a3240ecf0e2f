-- Paper 02, 3: the floor is at most the ceiling but for one small stretch of bases, for which no legal price is within both.
-- Assumes nothing.
use Rattle.std.specs.Prelude.{Option, Some}
use mathlib.Core.Bool.{Bool, true, false, ◌||◌}
use mathlib.Core.Logic.{◌⊎◌, inl, inr, ⊎_elim, ◌↔◌}
use mathlib.Core.Path.{◌≡◌, refl, ap, sym, ◌∙◌}
use Prim.Native.Nat.{ℕ, zero, suc, ◌+◌, ◌*◌, ◌≤◌, ◌<◌}
use native.Mathlib.Nat.{add-mul, eq-or-lt_of_le, le_refl, mul_assoc, mul-le-mul_right}
use native.Mathlib.Omega.{arith}
use lib.Dec.{leb, ltb, lit≤}
use borrow.Author.Tests.{leb-true, ltb-true, ltb-false}
use Rattle.ladder.specs.declared.NearestPositions.{NearestPositions}
use Rattle.ladder.specs.Bands.{last_price, positions}
use Rattle.ladder.specs.Ladder.{band_of_position, band_of_price, last_band, legal, legal_up, nearest_in, nearest_to, price_at, upper_number}
use Rattle.ladder.proofs.Laws.{legal-true, legal-within, lowest-on-step, price-last-band}
use Rattle.ladder.proofs.NearestLaws as nearest
use Rattle.ladder.proofs.LegalLaws as legal_prices
use Rattle.definitions.specs.declared.Base.{Base}
use Rattle.definitions.specs.Lists.{all_below}
use Rattle.definitions.specs.Ranges.{whole_up, ceiling_of, floor_of}
use Rattle.definitions.proofs.Tests.{and_parts, or_cases}
use Rattle.definitions.proofs.RangeLaws.{IsCeiling, IsFloor, by-contra-lt, up-reaches, up-most, ceiling-is, floor-is}

-- the one place where no legal price is both at or above 70% and at or below 130%, the base between 10/7 and 20/13 satang
abbrev pub NoneWithin : Base → Type 0
NoneWithin b = (100 * b.denominator < 70 * b.numerator) × (130 * b.numerator < 200 * b.denominator)

less-or-not : (a b : ℕ) → (a < b) ⊎ (b ≤ a)
less-or-not a b = go (ltb a b) refl
  where
    go : (t : Bool) → ltb a b ≡ t → (a < b) ⊎ (b ≤ a)
    go true less = inl (ltb-true a b less)
    go false more = inr (ltb-false a b more)

by-contra-le : {m n : ℕ} → (m < n → ⊥) → n ≤ m
by-contra-le never = omega (arith, never)

-- from 2.00 baht on no two neighbours are farther apart than half the lower
abbrev close_by : ℕ → Bool
close_by j = ltb j 200 || leb (2 * price_at (j + 1)) (3 * price_at j)

tabled : all_below 1300 close_by ≡ true
unfolding all_below price_at band_of_position last_band
tabled = refl

below_all : (n : ℕ) (p : ℕ → Bool) → all_below n p ≡ true → (i : ℕ) → i < n → p i ≡ true
unfolding all_below
below_all zero p all i below = absurd (omega (arith, below))
below_all (suc n) p all i below =
    let parts = and_parts (all_below n p) (p n) all in
    ⊎_elim (λ same. rw same parts.1) (λ less. below_all n p parts.0 i less) (eq-or-lt_of_le {n = i} {m = n} (omega (arith, below)))

neighbours : (j : ℕ) → 200 ≤ j → j < positions → 2 * price_at (j + 1) ≤ 3 * price_at j
neighbours j from before = go (ltb j 1300) refl
  where
    go : (t : Bool) → ltb j 1300 ≡ t → 2 * price_at (j + 1) ≤ 3 * price_at j
    go true low =
        ⊎_elim (λ early. absurd (omega (arith, from, ltb-true j 200 early))) (leb-true (2 * price_at (j + 1)) (3 * price_at j))
        (or_cases (ltb j 200) (leb (2 * price_at (j + 1)) (3 * price_at j)) (below_all 1300 close_by tabled j (ltb-true j 1300 low)))
    go false high =
        let more = ltb-false j 1300 high in
        omega (arith, price-last-band j more (omega (arith, before)), price-last-band (j + 1) (omega (arith, more)) (omega (arith, before)))

second-legal : legal 2 ≡ true
unfolding legal band_of_price last_band
second-legal = refl

small-legal : (p : ℕ) → 1 ≤ p → p < 200 → legal p ≡ true
small-legal p first small = sym (lowest-on-step p small ∙ legal-within p first (omega (arith, small)))

at-200 : price_at 200 ≡ 200
unfolding price_at band_of_position last_band
at-200 = refl

-- so that the least legal price from such a number on is at most half as much again
up-close : (q : ℕ) → 200 ≤ q → q ≤ last_price → 2 * legal_up q ≤ 3 * q
up-close q from last = go (legal q) refl
  where
    go : (t : Bool) → legal q ≡ t → 2 * legal_up q ≤ 3 * q
    go true on = omega (arith, (legal_prices.up_least q last).none-less q on (le_refl q))
    go false off =
        let n = nearest_in (band_of_price q) q in
        let e : nearest_to q ≡ Some n = nearest.answered q (omega (arith, from)) last in
        let h = nearest.nearest-at q n e in
        let b = nearest.between q n e off in
        let there : 200 ≤ n.lower = h.none-nearer-below 200 (lit≤ tt) (omega (arith, at-200, from)) in
        let found : legal_up q ≡ price_at (n.lower + 1) = legal_prices.up_at q (omega (arith, from)) last ∙ ap (λ (x : Option NearestPositions). price_at (upper_number x)) e ∙ ap price_at b.neighbours in
        omega (arith, found, neighbours n.lower there (omega (arith, b.neighbours, h.upper-there.to_last)), b.above)

module _ (b : Base) (some : 0 < b.denominator) (least : 70 * b.numerator ≤ last_price * (100 * b.denominator)) where
  abbrev hundred : ℕ
  hundred = 100 * b.denominator

  abbrev n : ℕ
  n = b.numerator

  some-hundred : 0 < hundred
  some-hundred = omega (arith, some)

  f : IsFloor b (floor_of b)
  f = floor-is b some least

  c : IsCeiling b (ceiling_of b)
  c = ceiling-is b some

  ceiling-some : 1 ≤ ceiling_of b
  ceiling-some = (legal-true (ceiling_of b) c.on-ladder).above

  none_within : NoneWithin b → ceiling_of b < floor_of b
  none_within h = omega (arith, one_only, two-least)
    where
      one_only : ceiling_of b ≤ 1
      one_only =
          ⊎_elim
          (λ inside. by-contra-le (λ two. omega (arith, inside, h.1, mul-le-mul_right {m = 2} {n = ceiling_of b} hundred two)))
          (λ one. omega (arith, one))
          c.within

      two-least : 2 ≤ floor_of b
      two-least = by-contra-le (λ one. omega (arith, h.0, f.within, mul-le-mul_right {m = floor_of b} {n = 1} hundred (omega (arith, one))))

  -- 70% in whole satang, rounded up
  abbrev whole : ℕ
  whole = whole_up (70 * n) hundred

  floor-most : (p : ℕ) → legal p ≡ true → whole ≤ p → floor_of b ≤ p
  floor-most p on reaches = f.none-less p on (up-reaches (70 * n) hundred some-hundred p reaches)

  -- one satang less does not reach 70%
  short : (p : ℕ) → whole ≡ p + 1 → p * hundred < 70 * n
  short p same = by-contra-lt (λ reaches. omega (arith, same, up-most (70 * n) hundred some-hundred p reaches))

  within-two : 200 * b.denominator ≤ 130 * n → whole ≤ 2 → floor_of b * hundred ≤ 130 * n
  within-two enough few = omega (arith, enough, mul-le-mul_right {m = floor_of b} {n = 2} hundred (floor-most 2 second-legal few))

  within-small : (p : ℕ) → whole ≡ p + 1 → 2 ≤ p → p < 199 → floor_of b * hundred ≤ 130 * n
  within-small p same two small =
      let most = floor-most (p + 1) (small-legal (p + 1) (omega (arith, two)) (omega (arith, small))) (omega (arith, same)) in
      omega (arith, short p same, add-mul p 1 hundred, mul-le-mul_right {m = 2} {n = p} hundred two, mul-le-mul_right {m = floor_of b} {n = p + 1} hundred most)

  within-large : (p : ℕ) → whole ≡ p + 1 → 199 ≤ p → floor_of b * hundred ≤ 130 * n
  within-large p same large =
      let last : whole ≤ last_price = up-most (70 * n) hundred some-hundred last_price least in
      let up = legal_prices.up_least whole last in
      let most = floor-most (legal_up whole) up.is-legal up.at-or-above in
      let half : 2 * floor_of b ≤ 3 * (p + 1) = omega (arith, most, up-close whole (omega (arith, same, large)) last, same) in
      let twice : 2 * floor_of b * hundred ≡ 2 * (floor_of b * hundred) = mul_assoc 2 (floor_of b) hundred in
      let thrice : 3 * (p + 1) * hundred ≡ 3 * ((p + 1) * hundred) = mul_assoc 3 (p + 1) hundred in
      omega (arith, short p same, add-mul p 1 hundred, mul-le-mul_right {m = 199} {n = p} hundred large, mul-le-mul_right {m = 2 * floor_of b} {n = 3 * (p + 1)} hundred half, twice, thrice)

  -- the floor is within 130% where two satang are
  reached : 200 * b.denominator ≤ 130 * n → floor_of b * hundred ≤ 130 * n
  reached enough = by_size whole refl
    where
      by_size : (q : ℕ) → whole ≡ q → floor_of b * hundred ≤ 130 * n
      by_size zero same = within-two enough (omega (arith, same))
      by_size (suc p) same =
          ⊎_elim
          (λ few. within-two enough (omega (arith, same, few)))
          (λ more. ⊎_elim (within-small p (same ∙ omega arith) more) (within-large p (same ∙ omega arith)) (less-or-not p 199))
          (less-or-not p 2)

  -- the floor is at most the ceiling everywhere else
  pub floor-at-most-ceiling : (floor_of b ≤ ceiling_of b) ↔ (NoneWithin b → ⊥)
  floor-at-most-ceiling = (
    λ most none. omega (arith, most, none_within none),
    λ some-within.
        ⊎_elim
        (λ high.
        ⊎_elim
        (λ empty. absurd (some-within (high, empty)))
        (λ enough. c.none-greater (floor_of b) f.on-ladder (reached enough))
        (less-or-not (130 * n) (200 * b.denominator)))
        (λ low. omega (arith, f.none-less 1 legal_prices.first-legal (omega (arith, low)), ceiling-some))
        (less-or-not hundred (70 * n)),
  )

-- Paper 02, 3, "Daily ceiling and floor": what the ceiling and the floor of a base are, in the paper's words and by no other number, and how a legal price is
-- held against them without looking for them.
-- Assumes nothing.
use mathlib.Core.Bool.{Bool, true, false, ◌&&◌, ◌||◌, not, or-false}
use mathlib.Core.List.{[], ◌∷◌}
use mathlib.Core.Logic.{◌⊎◌, inl, inr, ⊎_elim, ◌↔◌}
use mathlib.Core.Path.{◌≡◌, refl, ap₂, sym, ◌∙◌}
use Prim.Native.Nat.{ℕ, zero, suc, ◌+◌, ◌-◌, ◌*◌, ◌/◌, ◌≤◌, ◌<◌, min, max}
use native.Mathlib.Nat.{add-mul, le-div_iff_mul-le, div-lt_iff_lt-mul, mul-le-mul_right, mul-pos}
use native.Mathlib.Omega.{arith}
use lib.Dec.{leb, ltb, eqb, lit≤, lit<}
use borrow.Author.Tests.{not-true, eqb-false, leb-true, ltb-true, lt-ltb}
use Rattle.ladder.specs.Bands.{last_price}
use Rattle.ladder.specs.Ladder.{legal, legal_down, legal_up}
use Rattle.ladder.proofs.Laws.{legal-true}
use Rattle.ladder.proofs.LegalLaws as ladder
use Rattle.definitions.specs.declared.Figures.{Figures}
use Rattle.definitions.specs.declared.Security.{Security}
use Rattle.definitions.specs.declared.Base.{Base}
use Rattle.definitions.specs.declared.Order.{Order}
use Rattle.definitions.specs.Codes.{main_board, is_limit, max_shares}
use Rattle.definitions.specs.Sound.{settable, zero_figures, sound_figures, sound_security, priced_as}
use Rattle.definitions.specs.Ranges.{base, adjusted, not_above, has_figures, base_of, whole_up, ceiling_of, floor_of, range, has_range}
use Rattle.definitions.specs.Rules.{outside_range, covered_by_c}
use Rattle.definitions.proofs.Tests.{never, either, and_parts, and-whole, or_cases, joined-parts}
use Rattle.definitions.proofs.SoundSecurity.{security-true}

-- "130% of the base, down to a legal price": the greatest legal price that is not above it; "at least 1" where there is none. A legal price is at most 10,000,000.
pub record IsCeiling (b : Base) (c : ℕ) : Type 0 where
  pub on-ladder : legal c ≡ true
  pub within : (c * (100 * b.denominator) ≤ 130 * b.numerator) ⊎ (c ≡ 1)
  pub none-greater : (p : ℕ) → legal p ≡ true → p * (100 * b.denominator) ≤ 130 * b.numerator → p ≤ c

-- "70%, up to one": the least legal price that is not below it
pub record IsFloor (b : Base) (f : ℕ) : Type 0 where
  pub on-ladder : legal f ≡ true
  pub within : 70 * b.numerator ≤ f * (100 * b.denominator)
  pub none-less : (p : ℕ) → legal p ≡ true → 70 * b.numerator ≤ p * (100 * b.denominator) → f ≤ p

at_least_one : (p : ℕ) → legal p ≡ true → 1 ≤ p
at_least_one p on = (legal-true p on).above

-- no other number is the ceiling, and none is the floor
pub one-ceiling : (b : Base) (c e : ℕ) → IsCeiling b c → IsCeiling b e → c ≡ e
one-ceiling b c e x y = omega (arith, most c e x y, most e c y x)
  where
    most : (c e : ℕ) → IsCeiling b c → IsCeiling b e → c ≤ e
    most c e x y = ⊎_elim (y.none-greater c x.on-ladder) (λ least. omega (arith, least, at_least_one e y.on-ladder)) x.within

pub one-floor : (b : Base) (f e : ℕ) → IsFloor b f → IsFloor b e → f ≡ e
one-floor b f e x y = omega (arith, x.none-less e y.on-ladder y.within, y.none-less f x.on-ladder x.within)

-- a whole number is not below a fraction exactly where it is not below the fraction rounded up
module _ (n d : ℕ) (some : 0 < d) where
  next : (p : ℕ) → (p + 1) * d ≡ p * d + d
  next p = add-mul p 1 d ∙ omega arith

  pub up-reaches : (p : ℕ) → whole_up n d ≤ p → n ≤ p * d
  up-reaches p most =
      let below : n + (d - 1) < (p + 1) * d = (div-lt_iff_lt-mul {k = d} {x = n + (d - 1)} {y = p + 1} some).0 (omega arith) in
      omega (arith, next p, some)

  pub up-most : (p : ℕ) → n ≤ p * d → whole_up n d ≤ p
  up-most p reaches =
      let below : whole_up n d < p + 1 = (div-lt_iff_lt-mul {k = d} {x = n + (d - 1)} {y = p + 1} some).1 (omega (arith, next p, some)) in
      omega arith

pub by-contra-lt : {m n : ℕ} → (n ≤ m → ⊥) → m < n
by-contra-lt never = omega (arith, never)

-- two tests that say the same
same_test : (t u : Bool) → (t ≡ true → u ≡ true) → (u ≡ true → t ≡ true) → t ≡ u
same_test true u to from = sym (to refl)
same_test false true to from = from refl
same_test false false to from = refl

module _ (b : Base) (some : 0 < b.denominator) where
  abbrev hundred : ℕ
  hundred = 100 * b.denominator

  hundred-some : 0 < hundred
  hundred-some = omega (arith, some)

  pub ceiling-is : IsCeiling b (ceiling_of b)
  unfolding ceiling_of legal_down
  ceiling-is = go (130 * b.numerator / hundred) (λ p. le-div_iff_mul-le {k = hundred} {x = p} {y = 130 * b.numerator} hundred-some)
    where
      -- q is the whole part of 130%
      go : (q : ℕ) → ((p : ℕ) → (p ≤ q) ↔ (p * hundred ≤ 130 * b.numerator)) → IsCeiling b (max 1 (legal_down (min last_price q)))
      go zero means =
          record {
            on-ladder = ladder.first-legal;
            within = inr refl;
            none-greater = λ p on inside. omega (arith, (means p).1 inside);
          }
      go (suc q) means =
          let most = min last_price (suc q) in
          let h = ladder.down-greatest most (omega arith) in
          let same : max 1 (legal_down most) ≡ legal_down most = omega (arith, at_least_one (legal_down most) h.is-legal) in
          rw same
          (record {
            on-ladder = h.is-legal;
            within = inl ((means (legal_down most)).0 (omega (arith, h.at-or-below)));
            none-greater = λ p on inside. h.none-greater p on (omega (arith, (means p).1 inside, (legal-true p on).below));
          })

  module _ (least : 70 * b.numerator ≤ last_price * hundred) where
    pub floor-is : IsFloor b (floor_of b)
    unfolding floor_of
    floor-is =
        let q = whole_up (70 * b.numerator) hundred in
        let h = ladder.up_least q (up-most (70 * b.numerator) hundred hundred-some last_price least) in
        let same : max 1 (legal_up q) ≡ legal_up q = omega (arith, at_least_one (legal_up q) h.is-legal) in
        rw same
        (record {
          on-ladder = h.is-legal;
          within = up-reaches (70 * b.numerator) hundred hundred-some (legal_up q) h.at-or-above;
          none-less = λ p on reaches. h.none-less p on (up-most (70 * b.numerator) hundred hundred-some p reaches);
        })

    -- a legal price is outside the range where it is above 130% of the base, but for the least price, or below 70%: by products, with no price looked for
    pub outside-is : (p : ℕ) → legal p ≡ true
        → outside_range (range (floor_of b) (ceiling_of b)) p ≡ (ltb (p * hundred) (70 * b.numerator) || (ltb 1 p && ltb (130 * b.numerator) (p * hundred)))
    outside-is p on = ap₂ ◌||◌ below above
      where
        f : IsFloor b (floor_of b)
        f = floor-is

        c : IsCeiling b (ceiling_of b)
        c = ceiling-is

        below : ltb p (floor_of b) ≡ ltb (p * hundred) (70 * b.numerator)
        below =
            same_test _ _
            (λ less. lt-ltb _ _ (by-contra-lt (λ reaches. omega (arith, ltb-true p (floor_of b) less, f.none-less p on reaches))))
            (λ less.
            lt-ltb _ _ (by-contra-lt (λ reaches. omega (arith, ltb-true (p * hundred) (70 * b.numerator) less, f.within, mul-le-mul_right {m = floor_of b} {n = p} hundred reaches))))

        over : p * hundred ≤ 130 * b.numerator → ltb (ceiling_of b) p ≡ true → ⊥
        over inside past = omega (arith, ltb-true (ceiling_of b) p past, c.none-greater p on inside)

        under : ltb 1 p ≡ true → 130 * b.numerator < p * hundred → p ≤ ceiling_of b → ⊥
        under more past most =
            ⊎_elim
            (λ inside. omega (arith, past, inside, mul-le-mul_right {m = p} {n = ceiling_of b} hundred most))
            (λ least. omega (arith, ltb-true 1 p more, least, most))
            c.within

        above : ltb (ceiling_of b) p ≡ (ltb 1 p && ltb (130 * b.numerator) (p * hundred))
        above =
            same_test _ _
            (λ past.
            and-whole
            (lt-ltb 1 p (omega (arith, ltb-true (ceiling_of b) p past, at_least_one (ceiling_of b) c.on-ladder)))
            (lt-ltb _ _ (by-contra-lt (λ inside. over inside past))))
            (λ both.
            let parts = and_parts (ltb 1 p) (ltb (130 * b.numerator) (p * hundred)) both in
            lt-ltb _ _ (by-contra-lt (under parts.0 (ltb-true _ _ parts.1))))

-- figures that kind 9 could have set, with a name for each part of the test
pub record Settable (close : ℕ) (f : Figures) : Type 0 where
  pub some : 1 ≤ f.old_shares
  pub old : f.old_shares ≤ max_shares
  pub new : f.new_shares ≤ max_shares
  pub dividend : f.dividend < close

pub settable-true : (close : ℕ) (f : Figures) → settable close f ≡ true → Settable close f
settable-true close f e =
    let p = joined-parts (leb 1 f.old_shares) (leb f.old_shares max_shares ∷ leb f.new_shares max_shares ∷ ltb f.dividend close ∷ []) e in
    record {
      some = leb-true 1 f.old_shares p.0;
      old = leb-true f.old_shares max_shares p.1.0;
      new = leb-true f.new_shares max_shares p.1.1.0;
      dividend = ltb-true f.dividend close p.1.1.1.0;
    }

-- figures that are there are such
pub sound-settable : (close : ℕ) (f : Figures) → sound_figures close f ≡ true → eqb f.old_shares 0 ≡ false → settable close f ≡ true
sound-settable close f sound some =
    ⊎_elim
    (λ none. never (joined-parts (eqb f.dividend 0) (eqb f.subscription 0 ∷ eqb f.old_shares 0 ∷ eqb f.new_shares 0 ∷ []) none).1.1.0 some)
    (λ set. set)
    (or_cases (zero_figures f) (settable close f) sound)

-- the base of sound figures: above 0, at most the prior close, and over the shares or over 1
pub record BaseBounds (close : ℕ) (b : Base) : Type 0 where
  pub numerator_some : 0 < b.numerator
  pub denominator_some : 0 < b.denominator
  pub denominator_most : b.denominator ≤ 131_070
  pub not-above-close : b.numerator ≤ close * b.denominator

whole-base : (close : ℕ) → 0 < close → BaseBounds close (base close 1)
whole-base close present = record { numerator_some = present; denominator_some = lit< tt; denominator_most = lit≤ tt; not-above-close = omega arith }

adjusted-base : (close : ℕ) (f : Figures) → Settable close f → not_above (adjusted close f) close ≡ true → BaseBounds close (adjusted close f)
adjusted-base close f set smaller =
    record {
      numerator_some =
          let left : 0 < (close - f.dividend) * f.old_shares = mul-pos (omega (arith, set.dividend)) set.some in
          omega arith;
      denominator_some = omega (arith, set.some);
      denominator_most = omega (arith, set.old, set.new);
      not-above-close = leb-true (adjusted close f).numerator (close * (adjusted close f).denominator) smaller;
    }

pub base-is : (close : ℕ) (f : Figures) → sound_figures close f ≡ true → 0 < close → BaseBounds close (base_of close f)
unfolding base_of
base-is close f sound present =
    either (BaseBounds close) (has_figures f && not_above (adjusted close f) close) (adjusted close f) (base close 1)
    (λ both.
    let parts = and_parts (has_figures f) (not_above (adjusted close f) close) both in
    adjusted-base close f (settable-true close f (sound-settable close f sound (not-true (eqb f.old_shares 0) parts.0))) parts.1)
    (λ _. whole-base close present)

-- what the range of a sound security asks of it
pub sound-range : (s : Security) → sound_security s ≡ true → (sound_figures s.prior.close s.figures ≡ true) × (s.prior.close ≤ last_price)
sound-range s sound =
    let h = security-true s sound in
    (h.figures, leb-true s.prior.close last_price (and_parts (leb s.prior.close last_price) (leb s.prior.ipo last_price) h.prior).0)

-- and with it a legal price, of an order that C covers
pub record RangeAsked (s : Security) (o : Order) : Type 0 where
  pub figures : sound_figures s.prior.close s.figures ≡ true
  pub present : 0 < s.prior.close
  pub close : s.prior.close ≤ last_price
  pub price : legal o.price ≡ true

pub range-asked : (s : Security) (o : Order) → covered_by_c s o ≡ true → sound_security s ≡ true → priced_as o.order_type o.price ≡ true → RangeAsked s o
range-asked s o covered sound priced =
    let h = sound-range s sound in
    let parts = joined-parts (is_limit o.order_type) (eqb o.board main_board ∷ has_range s ∷ []) covered in
    let set = and_parts (not (eqb s.terms.free 1)) (not (eqb s.prior.close 0)) parts.1.1.0 in
    let absent : ¬ (s.prior.close ≡ 0) = eqb-false s.prior.close 0 (not-true _ set.1) in
    record {
      figures = h.0;
      present = omega arith;
      close = h.1;
      price = sym (or-false (legal o.price)) ∙ (rw parts.0 at priced);
    }

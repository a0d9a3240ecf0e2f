-- Paper 02, 3, "Daily ceiling and floor": the base is the smaller of two, the range is what the paper says of it, and C is told by the base alone.
-- Assumes nothing.
use Rattle.std.specs.Prelude.{Some, None}
use mathlib.Core.Bool.{Bool, true, false, cond, ◌&&◌, ◌||◌, not}
use mathlib.Core.List.{List, [], ◌∷◌}
use mathlib.Core.Logic.{◌⊎◌, inl, inr, ◌↔◌}
use mathlib.Core.Path.{◌≡◌, refl, sym, ◌∙◌}
use Prim.Native.Nat.{ℕ, zero, suc, ◌*◌, ◌≤◌, ◌<◌}
use native.Mathlib.Nat.{le_refl, mul-le-mul_right}
use native.Mathlib.Omega.{arith}
use lib.Dec.{leb, ltb, eqb}
use borrow.Author.Tests.{ne_eqb, leb-true, leb-false, ltb-true, lt-ltb, le-ltb}
use Rattle.ladder.specs.Bands.{last_price}
use Rattle.ladder.specs.Ladder.{legal}
use Rattle.ladder.proofs.Laws.{legal-true}
use Rattle.definitions.specs.declared.Figures.{Figures}
use Rattle.definitions.specs.declared.Security.{Security}
use Rattle.definitions.specs.declared.Base.{Base}
use Rattle.definitions.specs.declared.Range.{Range}
use Rattle.definitions.specs.declared.MarketView.{MarketView}
use Rattle.definitions.specs.declared.Order.{Order}
use Rattle.definitions.specs.Codes.{main_board, limit}
use Rattle.definitions.specs.State.{no_figures, header_of, security_at}
use Rattle.definitions.specs.Sound.{sound_security, priced_as}
use Rattle.definitions.specs.Ranges.{base, adjusted, not_above, base_of, ceiling_of, floor_of, range, range_of, has_range}
use Rattle.definitions.specs.Rules.{outside_range, covered_by_c, rule_c}
use Rattle.definitions.specs.Gate.{daily_range, market_view_at}
use Rattle.definitions.proofs.Tests.{and_parts, joined-parts, and_same}
use Rattle.definitions.proofs.SoundSecurity.{security-true}
use Rattle.definitions.proofs.WellFormed.{Good, fits}
use Rattle.definitions.proofs.RangeLaws.{IsCeiling, IsFloor, BaseBounds, ceiling-is, floor-is, outside-is, base-is, range-asked, sound-range}
use Rattle.definitions.proofs.RangeEmpty.{NoneWithin, floor-at-most-ceiling}

-- C once more, without a ceiling or a floor: a price above 130% of the base, or below 70%, as products; the least price is never above
abbrev pub c_by_base : ℕ → Base → ℕ → Bool
c_by_base close b p =
    cond (ltb close 100) (ltb (2 * close) p)
    (ltb (p * (100 * b.denominator)) (70 * b.numerator) || (ltb 1 p && ltb (130 * b.numerator) (p * (100 * b.denominator))))

abbrev pub rule_c_by_base : MarketView → Order → Bool
rule_c_by_base m o =
    eqb o.order_type limit
    && eqb o.board main_board
    && (eqb m.security.terms.free 0 && ltb 0 m.security.prior.close)
    && c_by_base m.security.prior.close (base_of m.security.prior.close m.security.figures) o.price

-- "the smaller of the prior close and ..": one of the two, and above neither, as fractions
pub record Smaller (close : ℕ) (f : Figures) (b : Base) : Type 0 where
  pub one_of : (b ≡ adjusted close f) ⊎ (b ≡ base close 1)
  pub not-above-close : b.numerator ≤ close * b.denominator
  pub not-above-adjusted : b.numerator * (adjusted close f).denominator ≤ (adjusted close f).numerator * b.denominator

pub base-smaller : (close : ℕ) (f : Figures) → 1 ≤ f.old_shares → Smaller close f (base_of close f)
unfolding base_of
base-smaller close f some = rw (ne_eqb f.old_shares 0 (λ none. omega (arith, some, none))) (go (not_above a close) refl)
  where
    a : Base
    a = adjusted close f

    go : (t : Bool) → not_above a close ≡ t → Smaller close f (cond t a (base close 1))
    go true below =
        record { one_of = inl refl; not-above-close = leb-true a.numerator (close * a.denominator) below; not-above-adjusted = le_refl (a.numerator * a.denominator) }
    go false above =
        record { one_of = inr refl; not-above-close = omega arith; not-above-adjusted = omega (arith, leb-false a.numerator (close * a.denominator) above) }

-- "without kind 9 figures it is the prior close"
pub base-without-figures : (close : ℕ) → base_of close no_figures ≡ base close 1
unfolding base_of
base-without-figures close = refl

-- the range, in the paper's words
pub record RangeInWords (close : ℕ) (b : Base) (r : Range) : Type 0 where
  pub small-floor : close < 100 → r.floor ≡ 1
  pub small-ceiling : close < 100 → r.ceiling ≡ 2 * close
  pub floor : 100 ≤ close → IsFloor b r.floor
  pub ceiling : 100 ≤ close → IsCeiling b r.ceiling

-- of a sound security that has one
module _ (s : Security) (sound : sound_security s ≡ true) (present : 0 < s.prior.close) where
  abbrev close : ℕ
  close = s.prior.close

  abbrev of_base : Base
  of_base = base_of close s.figures

  bounds : BaseBounds close of_base
  bounds = base-is close s.figures (sound-range s sound).0 present

  reaches : 70 * of_base.numerator ≤ last_price * (100 * of_base.denominator)
  reaches = omega (arith, bounds.not-above-close, mul-le-mul_right {m = close} {n = last_price} of_base.denominator (sound-range s sound).1)

  pub range-is : RangeInWords close of_base (range_of close s.figures)
  unfolding range_of
  range-is =
      record {
        small-floor = λ small. rw (lt-ltb close 100 small);
        small-ceiling = λ small. rw (lt-ltb close 100 small);
        floor = λ large. rw (le-ltb close 100 large) (floor-is of_base bounds.denominator_some reaches);
        ceiling = λ large. rw (le-ltb close 100 large) (ceiling-is of_base bounds.denominator_some);
      }

  pub range-not-empty : 100 ≤ close → ((range_of close s.figures).floor ≤ (range_of close s.figures).ceiling) ↔ (NoneWithin of_base → ⊥)
  unfolding range_of
  range-not-empty large = rw (le-ltb close 100 large) (floor-at-most-ceiling of_base bounds.denominator_some reaches)

  outside-by-base : (p : ℕ) → legal p ≡ true → outside_range (range_of close s.figures) p ≡ c_by_base close of_base p
  unfolding range_of
  outside-by-base p on = go (ltb close 100)
    where
      go : (t : Bool) → outside_range (cond t (range 1 (2 * close)) (range (floor_of of_base) (ceiling_of of_base))) p
          ≡ cond t (ltb (2 * close) p) (ltb (p * (100 * of_base.denominator)) (70 * of_base.numerator) || (ltb 1 p && ltb (130 * of_base.numerator) (p * (100 * of_base.denominator))))
      go true = rw (le-ltb p 1 (legal-true p on).above)
      go false = outside-is of_base bounds.denominator_some reaches p on

-- "not free", of a flag that is 0 or 1, and "have a prior close"
not_free : (n : ℕ) → n ≤ 1 → not (eqb n 1) ≡ eqb n 0
not_free zero listed = refl
not_free (suc zero) listed = refl
not_free (suc (suc n)) listed = absurd (omega (arith, listed))

some-close : (n : ℕ) → not (eqb n 0) ≡ ltb 0 n
some-close zero = refl
some-close (suc n) = rw (ne_eqb (suc n) 0 (λ e. omega (arith, e)), lt-ltb 0 (suc n) (omega arith))

-- an order that passed conditions 6 and 8 is rejected with C where its price is outside of 70% and 130% of the base, and nowhere else
pub c-by-base : (m : MarketView) (o : Order) → sound_security m.security ≡ true → priced_as o.order_type o.price ≡ true → rule_c m o ≡ rule_c_by_base m o
unfolding rule_c
c-by-base m o sound priced =
    let s = m.security in
    let flag = leb-true s.terms.free 1 (joined-parts (eqb s.terms.lot 1 || eqb s.terms.lot 50 || eqb s.terms.lot 100) (leb s.terms.free 1 ∷ leb s.terms.first_day 1 ∷ []) (security-true s sound).terms).1.0 in
    and_same (covered_by_c s o) _ (eqb o.order_type limit && eqb o.board main_board && (eqb s.terms.free 0 && ltb 0 s.prior.close)) _
    (rw (not_free s.terms.free flag, some-close s.prior.close))
    (λ covered. let asked = range-asked s o covered sound priced in outside-by-base s sound asked.present o.price asked.price)

module _ {customers securities : ℕ} (w : List ℕ) (good : Good customers securities w) where
  module _ (s : ℕ) (below : s < securities) where
    abbrev here : Security
    here = security_at w s

    counted : s < (header_of w).securities
    counted = rw good.sized.counted below

    pub range-given : has_range here ≡ true → daily_range w s ≡ Some (range_of here.prior.close here.figures)
    unfolding daily_range
    range-given ranged = rw (fits w good, lt-ltb s (header_of w).securities counted, good.securities-sound s below, ranged)

    has-close : has_range here ≡ true → 0 < here.prior.close
    has-close ranged = ltb-true 0 _ (sym (some-close here.prior.close) ∙ (and_parts (not (eqb here.terms.free 1)) (not (eqb here.prior.close 0)) ranged).1)

    pub range-in-words : has_range here ≡ true → RangeInWords here.prior.close (base_of here.prior.close here.figures) (range_of here.prior.close here.figures)
    range-in-words ranged = range-is here (good.securities-sound s below) (has-close ranged)

    pub not-empty : has_range here ≡ true → 100 ≤ here.prior.close
        → ((range_of here.prior.close here.figures).floor ≤ (range_of here.prior.close here.figures).ceiling) ↔ (NoneWithin (base_of here.prior.close here.figures) → ⊥)
    not-empty ranged = range-not-empty here (good.securities-sound s below) (has-close ranged)

    pub range_none : has_range here ≡ false → daily_range w s ≡ None
    unfolding daily_range
    range_none none = rw (fits w good, lt-ltb s (header_of w).securities counted, good.securities-sound s below, none)

    pub c-in-state : (o : Order) → priced_as o.order_type o.price ≡ true → rule_c (market_view_at w s) o ≡ rule_c_by_base (market_view_at w s) o
    c-in-state o = c-by-base (market_view_at w s) o (good.securities-sound s below)

  pub range-beyond : (s : ℕ) → securities ≤ s → daily_range w s ≡ None
  unfolding daily_range
  range-beyond s past = rw (fits w good, le-ltb s (header_of w).securities (omega (arith, past, good.sized.counted)))

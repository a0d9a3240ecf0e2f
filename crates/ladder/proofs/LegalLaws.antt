-- Paper 02, 3: "down to a legal price" and "up to one" are the greatest legal price that is not above and the least that is not below, and stand at the
-- nearest positions.
-- Assumes nothing.
use mathlib.Core.Bool.{Bool, true, false, cond, true≢false}
use mathlib.Core.Logic.{⊎_elim}
use mathlib.Core.Path.{◌≡◌, refl, ap, subst, sym, ◌∙◌}
use Prim.Native.Nat.{ℕ, zero, suc, ◌+◌, ◌-◌, ◌≤◌, ◌<◌}
use native.Mathlib.Nat.{eq-or-lt_of_le}
use native.Mathlib.Omega.{arith}
use Rattle.ladder.specs.Bands.{first_price, last_price, positions}
use Rattle.ladder.specs.Ladder.{band_of_price, last_band, legal, legal_down, least_of_last, legal_up, lower_number, nearest_to, position_in, price_at, upper_number}
use Rattle.ladder.proofs.Laws.{Has, legal-price, legal-true, legal-has, price-grows}
use Rattle.ladder.proofs.NearestLaws.{NearestAt, numbers-nearest}

pub record GreatestLegal (p g : ℕ) : Type 0 where
  pub is-legal : legal g ≡ true
  pub at-or-below : g ≤ p
  pub none-greater : (k : ℕ) → legal k ≡ true → k ≤ p → k ≤ g

pub record LeastLegal (p g : ℕ) : Type 0 where
  pub is-legal : legal g ≡ true
  pub at-or-above : p ≤ g
  pub none-less : (k : ℕ) → legal k ≡ true → p ≤ k → g ≤ k

pub one-greatest : (p g h : ℕ) → GreatestLegal p g → GreatestLegal p h → g ≡ h
one-greatest p g h x y = omega (arith, x.none-greater h y.is-legal y.at-or-below, y.none-greater g x.is-legal x.at-or-below)

pub one-least : (p g h : ℕ) → LeastLegal p g → LeastLegal p h → g ≡ h
one-least p g h x y = omega (arith, x.none-less h y.is-legal y.at-or-above, y.none-less g x.is-legal x.at-or-above)

-- a legal price is not one that is not
differs : (p k : ℕ) → legal p ≡ false → legal k ≡ true → ¬ (k ≡ p)
differs p k off on same = true≢false (sym on ∙ ap legal same ∙ off)

pub first-legal : legal first_price ≡ true
unfolding legal band_of_price last_band
first-legal = refl

last-legal : legal last_price ≡ true
unfolding legal band_of_price last_band
last-legal = refl

pub down-greatest : (p : ℕ) → first_price ≤ p → GreatestLegal p (legal_down p)
unfolding legal_down
down-greatest zero none = absurd (omega (arith, none))
down-greatest (suc p) some = go (legal (suc p)) refl (down-greatest p)
  where
    go : (t : Bool) → legal (suc p) ≡ t → (first_price ≤ p → GreatestLegal p (legal_down p)) → GreatestLegal (suc p) (cond t (suc p) (legal_down p))
    go true on before = record { is-legal = on; at-or-below = omega arith; none-greater = λ k _ below. below }
    go false off before =
        let h = before (omega (arith, some, differs (suc p) first_price off first-legal)) in
        record {
          is-legal = h.is-legal;
          at-or-below = omega (arith, h.at-or-below);
          none-greater = λ k on most. h.none-greater k on (omega (arith, most, differs (suc p) k off on));
        }

or-less : (n : ℕ) (t : Bool) → legal (last_price - n) ≡ t → (legal (last_price - n) ≡ false → LeastLegal (last_price - n) (least_of_last n))
    → LeastLegal (last_price - n) (cond t (last_price - n) (least_of_last n))
or-less n true on less = record { is-legal = on; at-or-above = omega arith; none-less = λ k _ above. above }
or-less n false off less = less off

-- of the last n + 1 prices
least-of-last : (n : ℕ) → n ≤ last_price → LeastLegal (last_price - n) (least_of_last (suc n))
unfolding least_of_last
least-of-last zero most = or-less zero (legal last_price) refl (λ off. absurd (true≢false (sym last-legal ∙ off)))
least-of-last (suc n) most =
    or-less (suc n) (legal (last_price - suc n)) refl
    (λ off.
    let h = least-of-last n (omega (arith, most)) in
    record {
      is-legal = h.is-legal;
      at-or-above = omega (arith, h.at-or-above);
      none-less = λ k on least. h.none-less k on (omega (arith, most, least, differs (last_price - suc n) k off on));
    })

pub up_least : (p : ℕ) → p ≤ last_price → LeastLegal p (legal_up p)
up_least p most =
    let same : last_price - (last_price - p) ≡ p = omega (arith, most) in
    let next : last_price + 1 - p ≡ suc (last_price - p) = omega (arith, most) in
    rw next (subst (λ (q : ℕ). LeastLegal q (least_of_last (suc (last_price - p)))) same (least-of-last (last_price - p) (omega arith)))

pub up_none : (p : ℕ) → last_price < p → legal_up p ≡ 0
unfolding least_of_last
up_none p past =
    let none : last_price + 1 - p ≡ 0 = omega (arith, past) in
    rw none refl

-- a legal price and its position
there : (k : ℕ) → legal k ≡ true → Has k (position_in (band_of_price k) k)
there k on = legal-has k (legal-true k on)

-- prices grow with their positions
in_order : (j k : ℕ) → j ≤ k → k ≤ positions → price_at j ≤ price_at k
in_order j k at_most last =
    ⊎_elim (λ same. omega (arith, ap price_at same)) (λ less. omega (arith, price-grows j k less last)) (eq-or-lt_of_le at_most)

none_at_zero : legal_down 0 ≡ price_at (lower_number (nearest_to 0))
unfolding legal_down nearest_to price_at
none_at_zero = refl

-- where the code looks for them
pub down-at : (p : ℕ) → p ≤ last_price → legal_down p ≡ price_at (lower_number (nearest_to p))
down-at zero last = none_at_zero
down-at (suc p) last = one-greatest (suc p) _ _ (down-greatest (suc p) (omega arith)) found
  where
    h : NearestAt (suc p) (record { lower = lower_number (nearest_to (suc p)); upper = upper_number (nearest_to (suc p)); legal = legal (suc p) })
    h = numbers-nearest (suc p) (omega arith) last

    found : GreatestLegal (suc p) (price_at (lower_number (nearest_to (suc p))))
    found =
        record {
          is-legal = legal-price _ h.lower-there.from_first h.lower-there.to_last;
          at-or-below = h.at-or-below;
          none-greater =
              λ k on below.
              let at = there k on in
              omega (arith, at.price, in_order _ _ (h.none-nearer-below _ at.to_last (omega (arith, at.price))) h.lower-there.to_last);
        }

pub up_at : (p : ℕ) → first_price ≤ p → p ≤ last_price → legal_up p ≡ price_at (upper_number (nearest_to p))
up_at p first last = one-least p _ _ (up_least p last) found
  where
    h : NearestAt p (record { lower = lower_number (nearest_to p); upper = upper_number (nearest_to p); legal = legal p })
    h = numbers-nearest p first last

    found : LeastLegal p (price_at (upper_number (nearest_to p)))
    found =
        record {
          is-legal = legal-price _ h.upper-there.from_first h.upper-there.to_last;
          at-or-above = h.at-or-above;
          none-less =
              λ k on above.
              let at = there k on in
              omega (arith, at.price, in_order _ _ (h.none-nearer-above _ at.to_last (omega (arith, at.price))) at.to_last);
        }

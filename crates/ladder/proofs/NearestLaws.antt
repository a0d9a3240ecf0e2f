-- Paper 02, 2: the laws of the nearest positions. No other answer meets them (`one_answer`).
-- Assumes nothing.
use Rattle.std.specs.Prelude.{Some, None}
use mathlib.Core.Bool.{Bool, true, false, cond, true≢false, and-eq-true_iff}
use mathlib.Core.Logic.{◌↔◌, ⊎_elim}
use mathlib.Core.Path.{◌≡◌, refl, ap, subst, sym, ◌∙◌}
use Prim.Native.Nat.{ℕ, ◌+◌, ◌-◌, ◌%◌, ◌≤◌, ◌<◌}
use native.Mathlib.Nat.{eq-or-lt_of_le}
use native.Mathlib.Omega.{arith}
use lib.Dec.{leb}
use borrow.Author.Tests.{leb-true, le-leb, lt-leb, eq-eqb, ne_eqb}
use Rattle.ladder.specs.declared.Band.{Band}
use Rattle.ladder.specs.declared.NearestPositions.{NearestPositions}
use Rattle.ladder.specs.Bands.{first_price, last_price, positions}
use Rattle.ladder.specs.Ladder.{band_of_price, is_price, legal, lower_number, nearest_in, nearest_to, on_step, position_in, position_of, price_at, upper_number}
use Rattle.ladder.proofs.Laws.{Lower, lower, last-price, legal-price, legal-true, legal-has, legal-within, legal-position, price-grows, price-order}

pub record OnLadder (k : ℕ) : Type 0 where
  pub from_first : 1 ≤ k
  pub to_last : k ≤ positions

-- "the nearest position at or below, the nearest at or above, and whether the price is legal": nothing on the ladder is nearer
pub record NearestAt (p : ℕ) (n : NearestPositions) : Type 0 where
  pub lower-there : OnLadder n.lower
  pub upper-there : OnLadder n.upper
  pub at-or-below : price_at n.lower ≤ p
  pub none-nearer-below : (k : ℕ) → k ≤ positions → price_at k ≤ p → k ≤ n.lower
  pub at-or-above : p ≤ price_at n.upper
  pub none-nearer-above : (k : ℕ) → k ≤ positions → p ≤ price_at k → n.upper ≤ k
  pub legal : n.legal ≡ legal p

-- between two steps
pub record Between (p : ℕ) (n : NearestPositions) : Type 0 where
  pub neighbours : n.upper ≡ n.lower + 1
  pub above : price_at n.lower < p
  pub below : p < price_at n.upper

module _ (p : ℕ) (first : first_price ≤ p) (last : p ≤ last_price) where
  abbrev here : ℕ
  here = position_in (band_of_price p) p

  is-price : is_price p ≡ true
  is-price = rw (le-leb first_price p first, le-leb p last_price last)

  there : Lower p here
  there = lower p first last

  here-there : OnLadder here
  here-there = record { from_first = there.from_first; to_last = there.to_last }

  on-ladder : on_step (band_of_price p) p ≡ true → price_at here ≡ p
  on-ladder on = (legal-has p (legal-true p (sym (legal-within p first last) ∙ on))).price

  -- no legal price stands off the steps, so such a price is above that of the position below it, and that position is not the last
  off-step : on_step (band_of_price p) p ≡ false → price_at here < p
  off-step off =
      let differ : ¬ (price_at here ≡ p) = λ same.
      true≢false (sym (legal-price _ there.from_first there.to_last) ∙ ap legal same ∙ sym (legal-within p first last) ∙ off) in
      omega (arith, there.price)

  before_last : on_step (band_of_price p) p ≡ false → here < positions
  before_last off =
      let never : ¬ (here ≡ positions) = λ same.
      omega (arith, off-step off, ap price_at same, last-price, last) in
      omega (arith, there.to_last)

  below : (k : ℕ) → k ≤ positions → price_at k ≤ p → k ≤ here
  below k k-last at_most =
      ⊎_elim
      (λ same. omega (arith, same))
      (λ less. omega (arith, price-order k (here + 1) k-last (omega (arith, there.next less))))
      (eq-or-lt_of_le there.to_last)

  above_on : on_step (band_of_price p) p ≡ true → (k : ℕ) → k ≤ positions → p ≤ price_at k → here ≤ k
  above_on on k k-last at_least_lem =
      let never : ¬ (k < here) = λ less. omega (arith, on-ladder on, price-grows k _ less there.to_last) in
      omega arith

  above-off : on_step (band_of_price p) p ≡ false → (k : ℕ) → k ≤ positions → p ≤ price_at k → here + 1 ≤ k
  above-off off k k-last at_least_lem = omega (arith, price-order here k there.to_last (omega (arith, off-step off)))

  -- by whether the price is on a step of its band
  found : (t : Bool) → on_step (band_of_price p) p ≡ t
      → NearestAt p (record { lower = here; upper = cond t here (here + 1); legal = t })
  found true on =
      record {
        lower-there = here-there;
        upper-there = here-there;
        at-or-below = there.price;
        none-nearer-below = below;
        at-or-above = omega (arith, on-ladder on);
        none-nearer-above = above_on on;
        legal = sym on ∙ legal-within p first last;
      }
  found false off =
      record {
        lower-there = here-there;
        upper-there = record { from_first = omega arith; to_last = omega (arith, before_last off) };
        at-or-below = there.price;
        none-nearer-below = below;
        at-or-above = omega (arith, there.next (before_last off));
        none-nearer-above = above-off off;
        legal = sym off ∙ legal-within p first last;
      }

  on-steps : on_step (band_of_price p) p ≡ true → (nearest_in (band_of_price p) p).lower ≡ (nearest_in (band_of_price p) p).upper
  on-steps on = rw on

  off-steps : on_step (band_of_price p) p ≡ false → Between p (nearest_in (band_of_price p) p)
  off-steps off = record { neighbours = rw off; above = off-step off; below = rw off (there.next (before_last off)) }

-- an answer is for a price, and is what the price's band gives
record Given (p : ℕ) (n : NearestPositions) : Type 0 where
  first : first_price ≤ p
  last : p ≤ last_price
  is : nearest_in (band_of_price p) p ≡ n

positions-mean : (t : Bool) (x n : NearestPositions) → cond t (Some x) None ≡ Some n → (t ≡ true) × (x ≡ n)
positions-mean true x n e = (refl, cc)
positions-mean false x n e = let no_such : ◌≡◌ {A = ℕ} 0 1 = cc in absurd (omega arith)

given : (p : ℕ) (n : NearestPositions) → nearest_to p ≡ Some n → Given p n
unfolding nearest_to
given p n e =
    let parts = positions-mean (is_price p) (nearest_in (band_of_price p) p) n e in
    let ends = (and-eq-true_iff (leb first_price p) (leb p last_price)).0 parts.0 in
    record { first = leb-true first_price p ends.0; last = leb-true p last_price ends.1; is = parts.1 }

-- "for each price from 1 to 10,000,000"
pub answered : (p : ℕ) → first_price ≤ p → p ≤ last_price → nearest_to p ≡ Some (nearest_in (band_of_price p) p)
unfolding nearest_to
answered p first last = rw (is-price p first last)

-- "for others, none"
pub none_below : (p : ℕ) → p < first_price → nearest_to p ≡ None
unfolding nearest_to
none_below p h = rw (lt-leb first_price p h)

pub none_above : (p : ℕ) → last_price < p → nearest_to p ≡ None
unfolding nearest_to
none_above p h = rw (le-leb first_price p (omega arith), lt-leb p last_price h)

pub nearest-at : (p : ℕ) (n : NearestPositions) → nearest_to p ≡ Some n → NearestAt p n
nearest-at p n e =
    let g = given p n e in
    subst (NearestAt p) g.is (found p g.first g.last (on_step (band_of_price p) p) refl)

pub one_answer : (p : ℕ) (m n : NearestPositions) → NearestAt p m → NearestAt p n → m ≡ n
one_answer p m n hm hn i = record { lower = lower-same i; upper = upper-same i; legal = (hm.legal ∙ sym hn.legal) i }
  where
    lower-same : m.lower ≡ n.lower
    lower-same =
        let up = hn.none-nearer-below m.lower hm.lower-there.to_last hm.at-or-below in
        let down = hm.none-nearer-below n.lower hn.lower-there.to_last hn.at-or-below in
        omega arith

    upper-same : m.upper ≡ n.upper
    upper-same =
        let down = hn.none-nearer-above m.upper hm.upper-there.to_last hm.at-or-above in
        let up = hm.none-nearer-above n.upper hn.upper-there.to_last hn.at-or-above in
        omega arith

-- a legal price has one position, and that is both
pub at_position : (p : ℕ) (n : NearestPositions) → nearest_to p ≡ Some n → legal p ≡ true → position_of p ≡ Some n.lower
at_position p n e t = sym (legal-position p refl t) ∙ ap (λ (m : NearestPositions). Some m.lower) (given p n e).is

pub both_equal : (p : ℕ) (n : NearestPositions) → nearest_to p ≡ Some n → legal p ≡ true → n.lower ≡ n.upper
both_equal p n e t =
    let g = given p n e in
    subst (λ (m : NearestPositions). m.lower ≡ m.upper) g.is (on-steps p g.first g.last (legal-within p g.first g.last ∙ t))

-- any other price lies strictly between the prices of two neighbours
pub between : (p : ℕ) (n : NearestPositions) → nearest_to p ≡ Some n → legal p ≡ false → Between p n
between p n e t =
    let g = given p n e in
    subst (Between p) g.is (off-steps p g.first g.last (legal-within p g.first g.last ∙ t))

-- so that the two are equal exactly where the price is legal
pub equal-where-legal : (p : ℕ) (n : NearestPositions) → nearest_to p ≡ Some n → (n.lower ≡ n.upper) ↔ (legal p ≡ true)
equal-where-legal p n e = (λ same. go same (legal p) refl, both_equal p n e)
  where
    go : n.lower ≡ n.upper → (t : Bool) → legal p ≡ t → legal p ≡ true
    go same true t = t
    go same false t = absurd (omega (arith, (between p n e t).neighbours, same))

-- and the other way round: between the prices of two neighbours these are the answer
pub lies-between : (p j : ℕ) → 1 ≤ j → j < positions → price_at j < p → p < price_at (j + 1)
    → nearest_to p ≡ Some (record { lower = j; upper = j + 1; legal = false })
lies-between p j one before above below = e ∙ ap Some (λ i. record { lower = lower-is i; upper = upper_is i; legal = legal-is i })
  where
    to_last : p ≤ last_price
    to_last = omega (arith, (legal-true (price_at (j + 1)) (legal-price (j + 1) (omega arith) (omega arith))).below)

    n : NearestPositions
    n = nearest_in (band_of_price p) p

    e : nearest_to p ≡ Some n
    e = answered p (omega arith) to_last

    h : NearestAt p n
    h = nearest-at p n e

    lower-is : n.lower ≡ j
    lower-is =
        let up = h.none-nearer-below j (omega arith) (omega arith) in
        let down = price-order n.lower (j + 1) h.lower-there.to_last (omega (arith, h.at-or-below)) in
        omega arith

    upper_is : n.upper ≡ j + 1
    upper_is =
        let down = h.none-nearer-above (j + 1) (omega arith) (omega arith) in
        let up = price-order j n.upper (omega arith) (omega (arith, h.at-or-above)) in
        omega arith

    legal-is : n.legal ≡ false
    legal-is = go (legal p) refl
      where
        go : (t : Bool) → legal p ≡ t → n.legal ≡ false
        go true t = absurd (omega (arith, both_equal p n e t, lower-is, upper_is))
        go false t = h.legal ∙ t

-- the numbers that a caller is given are the nearest positions, and 0 where there is none
pub numbers-nearest : (p : ℕ) → first_price ≤ p → p ≤ last_price
    → NearestAt p (record { lower = lower_number (nearest_to p); upper = upper_number (nearest_to p); legal = legal p })
numbers-nearest p first last =
    let n = nearest_in (band_of_price p) p in
    let e : nearest_to p ≡ Some n = answered p first last in
    let h = nearest-at p n e in
    rw e (subst (λ (t : Bool). NearestAt p (record { lower = n.lower; upper = n.upper; legal = t })) h.legal h)

pub numbers-none : (p : ℕ) → nearest_to p ≡ None → (lower_number (nearest_to p) ≡ 0) × (upper_number (nearest_to p) ≡ 0)
numbers-none p e = (rw e, rw e)

-- the answer by the band of the price and what is left over its steps, as the code finds it
pub on-step-nearest : (p : ℕ) {b : Band} → b ≡ band_of_price p → first_price ≤ p → p ≤ last_price → (p - b.from) % b.step ≡ 0
    → Some (record { lower = position_in b p; upper = position_in b p; legal = true }) ≡ nearest_to p
on-step-nearest p e first last none = rw (answered p first last, ← e, eq-eqb _ 0 none)

pub off-step-nearest : (p : ℕ) {b : Band} → b ≡ band_of_price p → first_price ≤ p → p ≤ last_price → ¬ ((p - b.from) % b.step ≡ 0)
    → Some (record { lower = position_in b p; upper = position_in b p + 1; legal = false }) ≡ nearest_to p
off-step-nearest p e first last some = rw (answered p first last, ← e, ne_eqb _ 0 some)

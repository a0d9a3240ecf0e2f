-- The laws of the ladder that later proofs cite. The table of bands is a chain, and each law is one of every chain.
-- Assumes nothing.
use Rattle.std.specs.Prelude.{Some, None}
use mathlib.Core.Bool.{Bool, true, false, cond, ◌&&◌, and-eq-true_iff}
use mathlib.Core.List.{◌∷◌}
use mathlib.Core.Logic.{⊎_elim}
use mathlib.Core.Path.{◌≡◌, refl, ap, subst, sym, ◌∙◌}
use Prim.Native.Nat.{ℕ, zero, suc, ◌+◌, ◌-◌, ◌*◌, ◌≤◌, ◌<◌}
use native.Mathlib.Nat.{eq-or-lt_of_le, mod-one}
use native.Mathlib.Omega.{arith}
use lib.Dec.{leb, ltb, lit≤}
use lib.ListN.{length, get_or, drop}
use borrow.Author.Tests.{leb-true, le-leb, lt-leb, ltb-true, ltb-false, lt-ltb, le-ltb, eq-eqb}
use Rattle.ladder.specs.declared.Band.{Band}
use Rattle.ladder.specs.Bands.{lowest, higher, first_price, last_price, positions}
use Rattle.ladder.specs.Ladder.{last_band, band_of_price, band_of_position, on_step, position_in, price_in, legal, position_of, position_number, price_at}
use Rattle.ladder.proofs.Step as step
use Rattle.ladder.proofs.Chain as chain
use Rattle.ladder.proofs.Chain.{Chained, begun, ended}

chained : Chained lowest higher
chained = chain.tested lowest higher tt

-- what a legal price is, with a name for each part of the test
pub record Legal (p : ℕ) : Type 0 where
  pub above : first_price ≤ p
  pub below : p ≤ last_price
  pub on : on_step (band_of_price p) p ≡ true

pub legal-true : (p : ℕ) → legal p ≡ true → Legal p
unfolding legal
legal-true p t =
    let parts = (and-eq-true_iff (leb first_price p && leb p last_price) (on_step (band_of_price p) p)).0 t in
    let ends = (and-eq-true_iff (leb first_price p) (leb p last_price)).0 parts.0 in
    record { above = leb-true first_price p ends.0; below = leb-true p last_price ends.1; on = parts.1 }

pub true-legal : (p : ℕ) → Legal p → legal p ≡ true
unfolding legal
true-legal p h = rw (le-leb first_price p h.above, le-leb p last_price h.below) h.on

pub legal-below : (p : ℕ) → p < first_price → legal p ≡ false
unfolding legal
legal-below p h = rw (lt-leb first_price p h)

pub legal-above : (p : ℕ) → first_price ≤ p → last_price < p → legal p ≡ false
unfolding legal
legal-above p low h = rw (le-leb first_price p low, lt-leb p last_price h)

pub legal-within : (p : ℕ) → first_price ≤ p → p ≤ last_price → on_step (band_of_price p) p ≡ legal p
unfolding legal
legal-within p low high = rw (le-leb first_price p low, le-leb p last_price high)

-- the band of a price is the i-th of the table if that begins at the price or below, and the next above it
pub band-is : (p i : ℕ) → i ≤ length higher → begun (λ b. b.from) p (lowest ∷ higher) i lowest → ended (λ b. b.from) p (drop i higher)
    → band_of_price p ≡ get_or (lowest ∷ higher) i lowest
unfolding band_of_price
band-is p i = chain.stops_at (λ b. b.from) chain.from-grows p lowest chained i

pub on-step-is : (p i : ℕ) → i ≤ length higher → begun (λ b. b.from) p (lowest ∷ higher) i lowest → ended (λ b. b.from) p (drop i higher)
    → on_step (get_or (lowest ∷ higher) i lowest) p ≡ on_step (band_of_price p) p
on-step-is p i there from below = ap (λ b. on_step b p) (sym (band-is p i there from below))

-- the lowest band's step is 1, and any number is on it
pub lowest-on-step : (p : ℕ) → p < 200 → true ≡ on_step (band_of_price p) p
lowest-on-step p below = sym (eq-eqb _ 0 (mod-one (p - 1))) ∙ on-step-is p 0 (lit≤ tt) tt (omega arith)

-- the band of a price begins at it or below, and has a step
pub band-from : (p : ℕ) → first_price ≤ p → (band_of_price p).from ≤ p
unfolding band_of_price
band-from p h = chain.begins-by (λ b. b.from) p lowest higher h

pub band-step : (p : ℕ) → 0 < (band_of_price p).step
unfolding band_of_price
band-step p = chain.has-step (λ b. b.from) p chained

position-band-first : (k : ℕ) → 1 ≤ k → (band_of_position k).first ≤ k
unfolding band_of_position
position-band-first k one = chain.begins-by (λ b. b.first) k lowest higher one

position-band-step : (k : ℕ) → 0 < (band_of_position k).step
unfolding band_of_position
position-band-step k = chain.has-step (λ b. b.first) k chained

-- the price that the steps give, at any number from 1 on
step_price : ℕ → ℕ
step_price k = price_in (band_of_position k) k

price-at : (k : ℕ) → 1 ≤ k → k ≤ positions → price_at k ≡ step_price k
unfolding price_at step_price
price-at k one last = rw (le-leb 1 k one, le-leb k positions last)

step-grows : (j k : ℕ) → 1 ≤ j → j < k → step_price j < step_price k
unfolding step_price band_of_position
step-grows j k one less = chain.price-grows j k chained one less

step-last : step_price positions ≡ last_price
unfolding step_price band_of_position last_band
step-last = refl

pub last-price : price_at positions ≡ last_price
last-price = price-at positions (lit≤ tt) (lit≤ tt) ∙ step-last

step-band : (k : ℕ) → 1 ≤ k → band_of_price (step_price k) ≡ band_of_position k
unfolding step_price band_of_price band_of_position
step-band k one = chain.band-of-price k chained one

band-position : (p : ℕ) → first_price ≤ p → band_of_position (position_in (band_of_price p) p) ≡ band_of_price p
unfolding band_of_price band_of_position
band-position p h = chain.band-of-position p chained h

step-position : (k : ℕ) → 1 ≤ k → position_in (band_of_price (step_price k)) (step_price k) ≡ k
unfolding step_price
step-position k one =
    ap (λ b. position_in b (step_price k)) (step-band k one) ∙ step.position-price (band_of_position k) (position-band-step k) k (position-band-first k one)

step-first : (k : ℕ) → 1 ≤ k → first_price ≤ step_price k
unfolding step_price band_of_position
step-first k one = chain.starts k chained one

step-to-last : (k : ℕ) → 1 ≤ k → k ≤ positions → step_price k ≤ last_price
step-to-last k one last =
    ⊎_elim (λ e. omega (arith, step-last, ap step_price e)) (λ less. omega (arith, step-last, step-grows k positions one less)) (eq-or-lt_of_le last)

step-on : (k : ℕ) → 1 ≤ k → on_step (band_of_price (step_price k)) (step_price k) ≡ true
unfolding step_price
step-on k one = ap (λ b. on_step b (step_price k)) (step-band k one) ∙ step.price-on-step (band_of_position k) (position-band-step k) k

step-legal : (k : ℕ) → 1 ≤ k → k ≤ positions → Legal (step_price k)
step-legal k one last = record { above = step-first k one; below = step-to-last k one last; on = step-on k one }

pub legal-price : (k : ℕ) → 1 ≤ k → k ≤ positions → legal (price_at k) ≡ true
legal-price k one last = rw (price-at k one last) (true-legal (step_price k) (step-legal k one last))

pub position-of-price : (k : ℕ) → 1 ≤ k → k ≤ positions → position_of (price_at k) ≡ Some k
unfolding position_of
position-of-price k one last =
    rw (legal-price k one last, price-at k one last) (ap Some (step-position k one))

pub price-none-below : (k : ℕ) → k < 1 → price_at k ≡ 0
unfolding price_at
price-none-below k h = rw (lt-leb 1 k h)

pub price-none-above : (k : ℕ) → 1 ≤ k → positions < k → price_at k ≡ 0
unfolding price_at
price-none-above k one h = rw (le-leb 1 k one, lt-leb k positions h)

-- from the first position of the last band on, the price follows by that band's step
pub price-last-band : (k : ℕ) → 1300 ≤ k → k ≤ positions → price_at k ≡ 40_000 + 200 * (k - 1300)
unfolding step_price band_of_position
price-last-band k from last =
    price-at k (omega arith) last ∙ ap (λ b. price_in b k) (chain.stops_at (λ b. b.first) chain.first-grows k lowest chained 7 (lit≤ tt) from tt)

-- what it means that a price has the position k
pub record Has (p k : ℕ) : Type 0 where
  pub legal : Legal p
  pub from_first : 1 ≤ k
  pub to_last : k ≤ positions
  pub price : price_at k ≡ p

at-means : (t : Bool) (n k : ℕ) → cond t (Some n) None ≡ Some k → (t ≡ true) × (n ≡ k)
at-means true n k e = (refl, cc)
at-means false n k e = let no_such : ◌≡◌ {A = ℕ} 0 1 = cc in absurd (omega arith)

-- the position that its band gives to a price, legal or not: one of the ladder, whose price is at or below and the next one's above
pub record Lower (p k : ℕ) : Type 0 where
  pub from_first : 1 ≤ k
  pub to_last : k ≤ positions
  pub price : price_at k ≤ p
  pub next : k < positions → p < price_at (k + 1)

lower-from-first : (p : ℕ) → first_price ≤ p → 1 ≤ position_in (band_of_price p) p
unfolding band_of_price
lower-from-first p above = chain.position-starts p chained above

lower-price : (p : ℕ) → first_price ≤ p → step_price (position_in (band_of_price p) p) ≤ p
unfolding step_price
lower-price p above = rw (band-position p above) (step.price-at-or-below (band_of_price p) (band-step p) p (band-from p above))

lower-to-last : (p : ℕ) → first_price ≤ p → p ≤ last_price → position_in (band_of_price p) p ≤ positions
lower-to-last p above below =
    let never : ¬ (positions < position_in (band_of_price p) p) = λ past. omega (arith, step-last, step-grows positions (position_in (band_of_price p) p) (lit≤ tt) past, lower-price p above) in
    omega arith

lower-next : (p : ℕ) → first_price ≤ p → p < step_price (position_in (band_of_price p) p + 1)
unfolding step_price band_of_price band_of_position
lower-next p above = chain.below_next p chained above

pub lower : (p : ℕ) → first_price ≤ p → p ≤ last_price → Lower p (position_in (band_of_price p) p)
lower p above below =
    let first = lower-from-first p above in
    let last = lower-to-last p above below in
    record {
      from_first = first;
      to_last = last;
      price = rw (price-at _ first last) (lower-price p above);
      next = λ more. rw (price-at (position_in (band_of_price p) p + 1) (omega arith) (omega arith)) (lower-next p above);
    }

legal-step : (p : ℕ) → Legal p → step_price (position_in (band_of_price p) p) ≡ p
unfolding step_price
legal-step p h =
    ap (λ b. price_in b (position_in (band_of_price p) p)) (band-position p h.above)
    ∙ step.price-position (band_of_price p) (band-step p) p (band-from p h.above) h.on

pub legal-has : (p : ℕ) → Legal p → Has p (position_in (band_of_price p) p)
legal-has p h =
    let there = lower p h.above h.below in
    record { legal = h; from_first = there.from_first; to_last = there.to_last; price = price-at _ there.from_first there.to_last ∙ legal-step p h }

pub legal-position : (p : ℕ) {b : Band} → b ≡ band_of_price p → legal p ≡ true → Some (position_in b p) ≡ position_of p
unfolding position_of
legal-position p e t = rw (t, e)

pub off-ladder : (p : ℕ) → legal p ≡ false → position_of p ≡ None
unfolding position_of
off-ladder p t = rw t

pub position_at : (p k : ℕ) → position_of p ≡ Some k → Has p k
unfolding position_of
position_at p k e =
    let parts = at-means (legal p) (position_in (band_of_price p) p) k e in
    subst (Has p) parts.1 (legal-has p (legal-true p parts.0))

-- from the absent price on, which is before the first position
pub price-grows : (j k : ℕ) → j < k → k ≤ positions → price_at j < price_at k
price-grows zero k less last = rw (price-none-below 0 (lit≤ tt), price-at k less last) (step-first k less)
price-grows (suc j) k less last =
    rw (price-at (suc j) (omega arith) (omega arith), price-at k (omega arith) last) (step-grows (suc j) k (omega arith) less)

pub price-order : (j k : ℕ) → j ≤ positions → price_at j < price_at k → j < k
price-order j k last less =
    let differ : ¬ (j ≡ k) = λ same. omega (arith, ap price_at same) in
    let never : ¬ (k < j) = λ more. omega (arith, price-grows k j more last) in
    omega arith

-- prices stand in the order of their positions, so that a rule may compare either
pub price-less : (j k : ℕ) → j ≤ positions → k ≤ positions → ltb (price_at j) (price_at k) ≡ ltb j k
price-less j k last last-k = go (ltb j k) refl
  where
    go : (t : Bool) → ltb j k ≡ t → ltb (price_at j) (price_at k) ≡ ltb j k
    go true e = lt-ltb _ _ (price-grows j k (ltb-true j k e) last-k) ∙ sym e
    go false e =
        let never : ¬ (price_at j < price_at k) = λ less. omega (arith, price-order j k last less, ltb-false j k e) in
        le-ltb (price_at j) (price_at k) (omega arith) ∙ sym e

pub position-grows : (p q j k : ℕ) → position_of p ≡ Some j → position_of q ≡ Some k → p < q → j < k
position-grows p q j k ep eq less =
    let hp = position_at p j ep in
    let hq = position_at q k eq in
    price-order j k hp.to_last (omega (arith, hp.price, hq.price))

pub off-between : (k p : ℕ) → 1 ≤ k → k < positions → price_at k < p → p < price_at (k + 1) → position_of p ≡ None
unfolding position_of
off-between k p one last above below = go (legal p) refl
  where
    go : (t : Bool) → legal p ≡ t → cond (legal p) (Some (position_in (band_of_price p) p)) None ≡ None
    go true e =
        let h = legal-has p (legal-true p e) in
        let more = price-order k (position_in (band_of_price p) p) (omega arith) (omega (arith, h.price)) in
        let less = price-order (position_in (band_of_price p) p) (k + 1) h.to_last (omega (arith, h.price)) in
        absurd (omega arith)
    go false e = rw e

-- the number of a price's position, with 0 for none, and the price there, with 0 for absent
pub number-legal : (p : ℕ) → legal p ≡ true → Has p (position_number (position_of p))
unfolding position_of
number-legal p t = rw t (legal-has p (legal-true p t))

pub number-off : (p : ℕ) → legal p ≡ false → position_number (position_of p) ≡ 0
number-off p t = rw (off-ladder p t)

pub number-to-last : (p : ℕ) → position_number (position_of p) ≤ positions
number-to-last p = go (legal p) refl
  where
    go : (t : Bool) → legal p ≡ t → position_number (position_of p) ≤ positions
    go true e = (number-legal p e).to_last
    go false e = rw (number-off p e) (lit≤ tt)

pub price-off : (p : ℕ) → legal p ≡ false → price_at (position_number (position_of p)) ≡ 0
price-off p t = rw (number-off p t) (price-none-below 0 (lit≤ tt))

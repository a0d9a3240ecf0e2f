-- Laws of one band: prices and positions by its step.
-- Assumes nothing.
use mathlib.Core.Bool.{true}
use mathlib.Core.Path.{◌≡◌, ap, ◌∙◌}
use Prim.Native.Nat.{ℕ, suc, ◌+◌, ◌-◌, ◌*◌, ◌/◌, ◌%◌, ◌≤◌, ◌<◌}
use native.Mathlib.Nat.{mul_comm, mul-lt-mul_of_pos_left, div-lt_iff_lt-mul, mul-div_cancel_left, mul-mod_right, div-add-mod, mod-lt, mul-suc}
use native.Mathlib.Omega.{arith}
use borrow.Author.Tests.{eq-eqb, eqb-true}
use Rattle.ladder.specs.declared.Band.{Band}
use Rattle.ladder.specs.Ladder.{on_step, position_in, price_in}

module _ (b : Band) (steps : 0 < b.step) where
  pub price-grows : (j k : ℕ) → b.first ≤ j → j < k → price_in b j < price_in b k
  price-grows j k starts later =
      omega (arith, mul-lt-mul_of_pos_left {m = j - b.first} {n = k - b.first} {k = b.step} (omega arith) steps)

  pub position-below : (p k : ℕ) → b.from ≤ p → b.first ≤ k → p < price_in b k → position_in b p < k
  position-below p k from first below =
      let scaled : p - b.from < (k - b.first) * b.step = omega (arith, mul_comm (k - b.first) b.step) in
      omega (arith, (div-lt_iff_lt-mul {k = b.step} {x = p - b.from} {y = k - b.first} steps).1 scaled)

  above-first : (k : ℕ) → price_in b k - b.from ≡ b.step * (k - b.first)
  above-first k = omega arith

  pub position-price : (k : ℕ) → b.first ≤ k → position_in b (price_in b k) ≡ k
  position-price k first =
      let quotient : (price_in b k - b.from) / b.step ≡ k - b.first = ap (λ (n : ℕ). n / b.step) (above-first k) ∙ mul-div_cancel_left (k - b.first) steps in
      omega arith

  pub price-on-step : (k : ℕ) → on_step b (price_in b k) ≡ true
  price-on-step k = eq-eqb _ 0 (ap (λ (n : ℕ). n % b.step) (above-first k) ∙ mul-mod_right b.step (k - b.first))

  -- a price is that of its position and what is left over the steps
  price-and-rest : (p : ℕ) → b.from ≤ p → price_in b (position_in b p) + (p - b.from) % b.step ≡ p
  price-and-rest p from =
      let above : position_in b p - b.first ≡ (p - b.from) / b.step = omega arith in
      let same : b.step * (position_in b p - b.first) ≡ b.step * ((p - b.from) / b.step) = ap (λ (n : ℕ). b.step * n) above in
      omega (arith, div-add-mod (p - b.from) b.step)

  pub price-position : (p : ℕ) → b.from ≤ p → on_step b p ≡ true → price_in b (position_in b p) ≡ p
  price-position p from on =
      omega (arith, price-and-rest p from, eqb-true ((p - b.from) % b.step) 0 on)

  -- a price between two steps stands at or above the one's price and below the other's
  pub price-at-or-below : (p : ℕ) → b.from ≤ p → price_in b (position_in b p) ≤ p
  price-at-or-below p from = omega (arith, price-and-rest p from)

  pub below_next : (p : ℕ) → b.from ≤ p → p < price_in b (position_in b p + 1)
  below_next p from =
      let quotient = (p - b.from) / b.step in
      let above : position_in b p + 1 - b.first ≡ suc quotient = omega arith in
      let one_more : b.step * (position_in b p + 1 - b.first) ≡ b.step * quotient + b.step = ap (λ (n : ℕ). b.step * n) above ∙ mul-suc b.step quotient in
      omega (arith, div-add-mod (p - b.from) b.step, mod-lt (p - b.from) steps)

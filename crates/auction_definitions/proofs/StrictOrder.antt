-- `beats` is a strict total order on lines of different prices. One law for a step of an order in steps, cited at the first three; the last is an order of prices.
-- Assumes nothing.
use mathlib.Core.Bool.{Bool, true, false, ◌&&◌, ◌||◌}
use mathlib.Core.Path.{◌≡◌, refl, sym, ◌∙◌, subst}
use mathlib.Core.Logic.{◌⊎◌, inl, inr}
use Prim.Native.Nat.{ℕ, ◌<◌}
use lib.Dec.{eqb}
use borrow.Author.Tests.{eq-eqb, eqb-true, le-ltb, lt-ltb, ltb-false, ltb-true, ne_eqb}
use native.Mathlib.Omega.{arith}
use Rattle.definitions.proofs.Tests.{and_parts, and_second, and-whole, never, or_cases, or_parts}
use Rattle.auction_definitions.specs.declared.Line.{Line}
use Rattle.auction_definitions.specs.Auction.{ahead_by, beats, difference_of, distance_to, higher, less, more, volume_of}

-- an order of numbers: of two that differ one is ahead, and never both
pub record Numbers (ahead : ℕ → ℕ → Bool) : Type 0 where
  pub one_way : (a b : ℕ) → ahead a b ≡ true → ahead b a ≡ false
  pub not_through : (a b c : ℕ) → ahead a b ≡ false → ahead b c ≡ false → ahead a c ≡ false
  pub equal : (a b : ℕ) → ahead a b ≡ false → ahead b a ≡ false → a ≡ b

pub less-numbers : Numbers less
less-numbers = record {
  one_way = λ a b t. le-ltb b a (omega (arith, ltb-true a b t));
  not_through = λ a b c t u. le-ltb a c (omega (arith, ltb-false a b t, ltb-false b c u));
  equal = λ a b t u. omega (arith, ltb-false a b t, ltb-false b a u);
}

pub more_numbers : Numbers more
more_numbers = record {
  one_way = λ a b t. le-ltb a b (omega (arith, ltb-true b a t));
  not_through = λ a b c t u. le-ltb c a (omega (arith, ltb-false b a t, ltb-false c b u));
  equal = λ a b t u. omega (arith, ltb-false b a t, ltb-false a b u);
}

-- an order of lines: never both ways; what is not behind stays so through a third; of two prices that differ one is ahead
pub record Strict (ahead : Line → Line → Bool) : Type 0 where
  pub one_way : (l m : Line) → ahead l m ≡ true → ahead m l ≡ false
  pub not_through : (l m n : Line) → ahead l m ≡ false → ahead m n ≡ false → ahead l n ≡ false
  pub total : (l m : Line) → (l.price ≡ m.price → ⊥) → ahead l m ≡ false → ahead m l ≡ true

higher-strict : Strict higher
higher-strict = record {
  one_way = λ l m. more_numbers.one_way l.price m.price;
  not_through = λ l m n. more_numbers.not_through l.price m.price n.price;
  total = λ l m differ t. lt-ltb l.price m.price (omega (arith, ltb-false m.price l.price t, differ));
}

neither : {t u : Bool} → t ≡ false → u ≡ false → (t || u) ≡ false
neither {t} {u} e f = rw (e, f)

-- one step keeps it
module _ (ahead : ℕ → ℕ → Bool) (numbers : Numbers ahead) (number : Line → ℕ) (next : Line → Line → Bool) (strict : Strict next) where
  never-itself : {a b : ℕ} → a ≡ b → ahead a b ≡ false
  never-itself {a} e = subst (λ (k : ℕ). ahead a k ≡ false) e (go (ahead a a) refl)
    where
      go : (t : Bool) → ahead a a ≡ t → ahead a a ≡ false
      go true e = numbers.one_way a a e
      go false e = e

  abbrev step : Line → Line → Bool
  step = ahead_by ahead number next

  step-one-way : (l m : Line) → step l m ≡ true → step m l ≡ false
  step-one-way l m t = go (or_cases (ahead (number l) (number m)) (eqb (number l) (number m) && next l m) t)
    where
      go : (ahead (number l) (number m) ≡ true) ⊎ ((eqb (number l) (number m) && next l m) ≡ true) → step m l ≡ false
      go (inl before) =
          neither (numbers.one_way (number l) (number m) before)
          (rw (ne_eqb (number m) (number l) (λ e. never before (never-itself (sym e)))))
      go (inr tied) =
          let parts : (eqb (number l) (number m) ≡ true) × (next l m ≡ true) = and_parts (eqb (number l) (number m)) (next l m) tied in
          let e : number m ≡ number l = sym (eqb-true (number l) (number m) parts.0) in
          neither (never-itself e) (rw (eq-eqb (number m) (number l) e, strict.one_way l m parts.1))

  step-not-through : (l m n : Line) → step l m ≡ false → step m n ≡ false → step l n ≡ false
  step-not-through l m n t u =
      let first : (ahead (number l) (number m) ≡ false) × ((eqb (number l) (number m) && next l m) ≡ false) = or_parts (ahead (number l) (number m)) (eqb (number l) (number m) && next l m) t in
      let second : (ahead (number m) (number n) ≡ false) × ((eqb (number m) (number n) && next m n) ≡ false) = or_parts (ahead (number m) (number n)) (eqb (number m) (number n) && next m n) u in
      neither (numbers.not_through (number l) (number m) (number n) first.0 second.0) (go first second (eqb (number l) (number n)) refl)
    where
      go : (ahead (number l) (number m) ≡ false) × ((eqb (number l) (number m) && next l m) ≡ false)
          → (ahead (number m) (number n) ≡ false) × ((eqb (number m) (number n) && next m n) ≡ false)
          → (t : Bool) → eqb (number l) (number n) ≡ t → (t && next l n) ≡ false
      go first second true e =
          let ends : number n ≡ number l = sym (eqb-true (number l) (number n) e) in
          let with_first : number l ≡ number m = numbers.equal (number l) (number m) first.0 (subst (λ (k : ℕ). ahead (number m) k ≡ false) ends second.0) in
          strict.not_through l m n (and_second (eqb (number l) (number m)) (next l m) first.1 (eq-eqb (number l) (number m) with_first))
          (and_second (eqb (number m) (number n)) (next m n) second.1 (eq-eqb (number m) (number n) (sym with_first ∙ sym ends)))
      go first second false e = refl

  step-total : (l m : Line) → (l.price ≡ m.price → ⊥) → step l m ≡ false → step m l ≡ true
  step-total l m differ t = go (or_parts (ahead (number l) (number m)) (eqb (number l) (number m) && next l m) t) (ahead (number m) (number l)) refl
    where
      go : (ahead (number l) (number m) ≡ false) × ((eqb (number l) (number m) && next l m) ≡ false)
          → (t : Bool) → ahead (number m) (number l) ≡ t → (t || (eqb (number m) (number l) && next m l)) ≡ true
      go parts true e = refl
      go parts false e =
          let tied : number l ≡ number m = numbers.equal (number l) (number m) parts.0 e in
          and-whole (eq-eqb (number m) (number l) (sym tied))
          (strict.total l m differ (and_second (eqb (number l) (number m)) (next l m) parts.1 (eq-eqb (number l) (number m) tied)))

  step-strict : Strict (ahead_by ahead number next)
  step-strict = record { one_way = step-one-way; not_through = step-not-through; total = step-total }

pub beats-strict : (reference : ℕ) → Strict (beats reference)
unfolding beats
beats-strict reference =
    step-strict more more_numbers volume_of (ahead_by less difference_of (ahead_by less (distance_to reference) higher))
    (step-strict less less-numbers difference_of (ahead_by less (distance_to reference) higher) (step-strict less less-numbers (distance_to reference) higher higher-strict))

module _ (reference : ℕ) where
  pub irreflexive : (l : Line) → beats reference l l ≡ false
  irreflexive l = go (beats reference l l) refl
    where
      go : (t : Bool) → beats reference l l ≡ t → beats reference l l ≡ false
      go true e = (beats-strict reference).one_way l l e
      go false e = e

  pub transitive : (l m n : Line) → beats reference l m ≡ true → beats reference m n ≡ true → beats reference l n ≡ true
  transitive l m n first second = go (beats reference l n) refl
    where
      go : (t : Bool) → beats reference l n ≡ t → beats reference l n ≡ true
      go true e = e
      go false e = never first ((beats-strict reference).not_through l n m e ((beats-strict reference).one_way m n second))

  -- a line with less volume beats none with more, and one with more beats it
  pub behind : (l m : Line) → volume_of l < volume_of m → beats reference l m ≡ false
  unfolding beats
  behind l m small =
      rw (le-ltb (volume_of m) (volume_of l) (omega (arith, small)), ne_eqb (volume_of l) (volume_of m) (λ e. omega (arith, small, e)))

  pub ahead_of : (l m : Line) → volume_of m < volume_of l → beats reference l m ≡ true
  unfolding beats
  ahead_of l m small = rw (lt-ltb (volume_of m) (volume_of l) small)

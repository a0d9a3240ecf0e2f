-- The laws that the proofs of the day program cite: of a number in decimal, and of the words that are made and that events leave.
-- Assumes nothing.
use mathlib.Core.Bool.{Bool, true, false}
use mathlib.Core.List.{List, [], ◌∷◌, ◌++◌, append_assoc, append-nil}
use mathlib.Core.Path.{◌≡◌, refl, sym, ◌∙◌, ap}
use Prim.Native.Nat.{ℕ, zero, suc, ◌+◌, ◌*◌, ◌/◌, ◌%◌, ◌^◌, ◌≤◌, ◌<◌}
use native.Mathlib.Nat.{mod-eq_of_lt, pow-suc, div-lt_iff_lt-mul}
use native.Mathlib.Omega.{arith}
use lib.Dec.{ltb}
use borrow.Author.Tests.{lt-ltb, eq-eqb, ne_eqb, ltb-true, ltb-false}
use lib.ListN.{length}
use Rattle.std.specs.Prelude.{Option, Result, Ok, Err, is_ok}
use Rattle.definitions.specs.declared.Verdict.{Verdict}
use Rattle.definitions.specs.declared.Refusal.{Refusal}
use Rattle.definitions.specs.State.{state_size}
use Rattle.definitions.specs.Gate.{result_of, outcome, made, words_after}
use Rattle.definitions.specs.Answers as answer
use Rattle.gate.proofs.Outcomes.{Left}
use Rattle.std.specs.Fmt.{decimal, digits, digits_onto, digit_glyph}
use Rattle.definitions.specs.Answers.{Answer, answered, decimal_in}

-- the character of a digit
glyph : (d : ℕ) → d < 10 → digit_glyph false d ≡ 48 + d
glyph d h = rw (lt-ltb d 10 h)

-- one digit, before others
one-digit : (fuel n : ℕ) (rest : List ℕ) → n < 10 → digits_onto (suc fuel) 10 false n rest ≡ (48 + n) ∷ rest
one-digit fuel n rest h =
    let none : n / 10 ≡ 0 = omega arith in
    rw (eq-eqb (n / 10) 0 none, mod-eq_of_lt h, glyph n h)

-- the last digit of several, before others
last-digit : (fuel n : ℕ) (rest : List ℕ) → 10 ≤ n → digits_onto (suc fuel) 10 false n rest ≡ digits_onto fuel 10 false (n / 10) ((48 + n % 10) ∷ rest)
last-digit fuel n rest h =
    let some : n / 10 ≡ 0 → ⊥ = λ e. omega arith in
    rw (ne_eqb (n / 10) 0 some, glyph (n % 10) (omega arith))

-- a number of at most k + 1 digits, before others
onto : (fuel k n : ℕ) (rest : List ℕ) → k ≤ fuel → n < 10 ^ suc k → digits_onto (suc fuel) 10 false n rest ≡ decimal_in (suc k) n ++ rest
unfolding decimal_in
onto fuel zero n rest room small =
    let one : n < 10 = omega arith in
    one-digit fuel n rest one ∙ rw (lt-ltb n 10 one) refl
onto zero (suc k) n rest room small = absurd (omega arith)
onto (suc fuel) (suc k) n rest room small = go (ltb n 10) refl (onto fuel k (n / 10) ((48 + n % 10) ∷ rest) (omega arith) fewer)
  where
    fewer : n / 10 < 10 ^ suc k
    fewer = let wide : n < 10 ^ suc k * 10 = rw pow-suc at small in (div-lt_iff_lt-mul {k = 10} (omega arith)).1 wide

    go : (t : Bool) → ltb n 10 ≡ t → digits_onto (suc fuel) 10 false (n / 10) ((48 + n % 10) ∷ rest) ≡ decimal_in (suc k) (n / 10) ++ ((48 + n % 10) ∷ rest)
        → digits_onto (suc (suc fuel)) 10 false n rest ≡ decimal_in (suc (suc k)) n ++ rest
    go true e others = one-digit (suc fuel) n rest (ltb-true n 10 e) ∙ rw e refl
    go false e others = last-digit (suc fuel) n rest (ltb-false n 10 e) ∙ others ∙ rw e (sym (append_assoc (decimal_in (suc k) (n / 10)) ((48 + n % 10) ∷ []) rest))

-- what `{}` writes of a number of 32 bits
pub decimal-digits : (n : ℕ) → n < 2 ^ 32 → decimal n ≡ decimal_in 10 n
unfolding digits
decimal-digits n small = onto 63 9 n [] (omega arith) (omega arith) ∙ append-nil _

-- the words of 8 customers and 16 securities are made, where they are as many as those take
pub is_made : (w : List ℕ) → length w ≡ state_size 8 16 → (r : Result (Option Verdict) Refusal) {v : List ℕ} → ◌≡◌ {A = Left} (answered r, v) (result_of w (made w 8 16)) → is_ok r ≡ true
unfolding made
is_made w long r left = go r (ap (λ (x : Left). x.0) left ∙ rw long refl)
  where
    go : (r : Result (Option Verdict) Refusal) → answered r ≡ answer.Ok → is_ok r ≡ true
    go (Ok x) e = refl
    go (Err x) e = cc

-- the words that events leave: of the first and those behind it, and of none
pub event-more : (w : List ℕ) {v e others : List ℕ} {events rest : List (List ℕ)} {r : Answer} → events ≡ e ∷ rest → ◌≡◌ {A = Left} (r, v) (result_of w (outcome w e)) → words_after w events ≡ others → words_after v rest ≡ others
unfolding words_after
event-more w {rest = rest} first left same = ap (λ (x : Left). words_after x.1 rest) left ∙ ap (words_after w) (sym first) ∙ same

pub no-more : {w : List ℕ} {events : List (List ℕ)} {others : List ℕ} → events ≡ [] → words_after w events ≡ others → w ≡ others
unfolding words_after
no-more {w} none same = ap (words_after w) (sym none) ∙ same

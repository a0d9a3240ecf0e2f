-- A fresh state, as a loop writes it over words that are all 0: one lot after the other.
-- Assumes nothing.
use mathlib.Core.List.{List, ◌∷◌, ◌++◌, append_assoc, append-nil}
use mathlib.Core.Path.{◌≡◌, ap, sym, ◌∙◌}
use Prim.Native.Nat.{ℕ, zero, suc, ◌+◌, ◌-◌, ◌*◌, ◌≤◌, ◌<◌}
use native.Mathlib.Nat.{add_comm, mul-zero, mul-suc}
use native.Mathlib.Numerals.{add-one}
use native.Mathlib.Omega.{arith}
use lib.ListN.{length, set, replicate, length-append, replicate-append-replicate}
use lib.Seq.{set_at}
use Rattle.definitions.specs.Lists.{repeat}
use Rattle.definitions.specs.State.{security_size, desk_size, state_size, security_place, fresh_market, fresh}
use Rattle.definitions.proofs.Fresh.{fresh_security}

-- words repeated
length-repeat : (n : ℕ) (xs : List ℕ) → length (repeat n xs) ≡ length xs * n
unfolding repeat
length-repeat zero xs = sym (mul-zero (length xs))
length-repeat (suc n) xs = length-append xs (repeat n xs) ∙ rw (length-repeat n xs, mul-suc (length xs) n) (add_comm (length xs) (length xs * n))

repeat-last : (n : ℕ) (xs r : List ℕ) → repeat n xs ++ (xs ++ r) ≡ repeat (suc n) xs ++ r
unfolding repeat
repeat-last zero xs r = rw (append-nil xs)
repeat-last (suc n) xs r =
    append_assoc xs (repeat n xs) (xs ++ r) ∙ ap (λ (l : List ℕ). xs ++ l) (repeat-last n xs r) ∙ sym (append_assoc xs (xs ++ repeat n xs) r)

repeat-next : (n : ℕ) (xs r : List ℕ) → repeat n xs ++ (xs ++ r) ≡ repeat (n + 1) xs ++ r
repeat-next n xs r = rw (add-one n) (repeat-last n xs r)

-- a fresh state, one lot after the other
abbrev pub lots : ℕ → List ℕ
lots s = repeat s fresh_security

length-lots : (s : ℕ) → length (lots s) ≡ security_size * s
length-lots s = length-repeat s fresh_security

-- how many words are left behind the first s securities
abbrev left : ℕ → ℕ → ℕ → ℕ
left customers securities s = security_size * (securities - s) + desk_size * customers

pub record Listed (customers securities : ℕ) (w : List ℕ) (s : ℕ) : Type 0 where
  pub words : w ≡ customers ∷ securities ∷ 0 ∷ 0 ∷ (lots s ++ replicate (left customers securities s) 0)
  pub to : s ≤ securities

pub listed_none : {customers securities n : ℕ} {w : List ℕ} → w ≡ replicate n 0 → n ≡ state_size customers securities
    → Listed customers securities (set (set w 0 customers) 1 securities) 0
unfolding repeat
listed_none {customers} {securities} {n} e f =
    let size : n ≡ suc (suc (suc (suc (left customers securities 0)))) = omega arith in
    record { words = rw (e, size); to = omega arith }

pub listed_next : {customers securities : ℕ} {w : List ℕ} {s : ℕ} → s < securities → Listed customers securities w s
    → Listed customers securities (set w (security_place s) 100) (s + 1)
listed_next {customers} {securities} {w} {s} h inv =
    let after : ℕ = left customers securities (s + 1) in
    let size : left customers securities s ≡ security_size + after = omega arith in
    let rest : List ℕ = replicate (security_size - 1) 0 ++ replicate after 0 in
    let zeros : replicate (left customers securities s) 0 ≡ 0 ∷ rest =
    rw (size, ← replicate-append-replicate {A = ℕ} security_size after 0) in
    let head : List ℕ = customers ∷ securities ∷ 0 ∷ 0 ∷ lots s in
    let place : length head ≡ security_place s = omega (arith, length-lots s) in
    record {
      words =
          rw (inv.words, zeros)
          (set_at head 0 rest 100 (security_place s) place
          ∙ ap (λ (l : List ℕ). customers ∷ securities ∷ 0 ∷ 0 ∷ l) (repeat-next s fresh_security (replicate after 0)));
      to = omega arith;
    }

pub listed_end : {customers securities : ℕ} {w : List ℕ} {s : ℕ} → securities ≤ s → Listed customers securities w s → w ≡ fresh customers securities
unfolding fresh_market fresh
listed_end {customers} {securities} {w} {s} h inv =
    let end : s ≡ securities = omega (arith, inv.to) in
    let desks : left customers securities securities ≡ desk_size * customers = omega arith in
    inv.words ∙ rw (end, desks)

-- Laws of numbered tests: two lists of them one after the other, a test that is not met, and each test by its number where none is met.
-- Assumes nothing.
use mathlib.Core.Bool.{Bool, true, false, cond, ◌&&◌, and-eq-true_iff}
use mathlib.Core.List.{List, [], ◌∷◌, ◌++◌}
use mathlib.Core.Path.{◌≡◌, refl, ap}
use Prim.Native.Nat.{ℕ, ◌≤◌}
use native.Mathlib.Omega.{arith}
use lib.Dec.{leb, eqb}
use borrow.Author.Tests.{leb-true, ne_eqb}
use Rattle.definitions.specs.Lists.{all, first_met}

-- the numbers of the table: none is 0, which says that no test is met
abbrev pub last_number : ℕ
last_number = 13

abbrev pub in_table : ℕ × Bool → Bool
in_table c = leb 1 c.0 && leb c.0 last_number

abbrev pub Numbered : List (ℕ × Bool) → Type 0
Numbered cs = all in_table cs ≡ true

pub in-table : (c : ℕ × Bool) → in_table c ≡ true → (1 ≤ c.0) × (c.0 ≤ last_number)
in-table c e =
    let parts = (and-eq-true_iff (leb 1 c.0) (leb c.0 last_number)).0 e in
    (leb-true 1 c.0 parts.0, leb-true c.0 last_number parts.1)

-- the test with a number; false where there is none
abbrev pub met : ℕ → List (ℕ × Bool) → Bool
met n [] = false
met n (c ∷ cs) = cond (eqb n c.0) c.1 (met n cs)

-- a first test that is not met
pub none_rest : (n : ℕ) (t : Bool) (cs : List (ℕ × Bool)) → in_table (n, t) ≡ true → cond t n (first_met cs) ≡ 0 → (t ≡ false) × (first_met cs ≡ 0)
none_rest n true cs some e = absurd (omega (arith, (in-table (n, true) some).0))
none_rest n false cs some e = (refl, e)

-- where none is met, the test with a number is not
pub unmet : (n : ℕ) (cs : List (ℕ × Bool)) → Numbered cs → first_met cs ≡ 0 → met n cs ≡ false
unfolding all first_met
unmet n [] some e = refl
unmet n (c ∷ cs) some e = go (eqb n c.0) (unmet n cs parts.1 rest.1)
  where
    parts : (in_table c ≡ true) × (all in_table cs ≡ true)
    parts = (and-eq-true_iff (in_table c) (all in_table cs)).0 some

    rest : (c.1 ≡ false) × (first_met cs ≡ 0)
    rest = none_rest c.0 c.1 cs parts.0 e

    go : (t : Bool) → met n cs ≡ false → cond t c.1 (met n cs) ≡ false
    go true below = rest.0
    go false below = below

-- two lists, one after the other
pub first-append : (xs ys : List (ℕ × Bool)) → Numbered xs → first_met (xs ++ ys) ≡ cond (eqb (first_met xs) 0) (first_met ys) (first_met xs)
unfolding all first_met
first-append [] ys some = refl
first-append (c ∷ xs) ys some = go c.1 (first-append xs ys parts.1)
  where
    parts : (in_table c ≡ true) × (all in_table xs ≡ true)
    parts = (and-eq-true_iff (in_table c) (all in_table xs)).0 some

    go : (t : Bool) → first_met (xs ++ ys) ≡ cond (eqb (first_met xs) 0) (first_met ys) (first_met xs)
        → cond t c.0 (first_met (xs ++ ys)) ≡ cond (eqb (cond t c.0 (first_met xs)) 0) (first_met ys) (cond t c.0 (first_met xs))
    go true below = rw (ne_eqb c.0 0 (λ e. omega (arith, (in-table c parts.0).0)))
    go false below = below

pub none-append : (xs ys : List (ℕ × Bool)) → Numbered xs → first_met (xs ++ ys) ≡ 0 → (first_met xs ≡ 0) × (first_met ys ≡ 0)
unfolding all first_met
none-append [] ys some e = (refl, e)
none-append (c ∷ xs) ys some e =
    let parts = (and-eq-true_iff (in_table c) (all in_table xs)).0 some in
    let rest = none_rest c.0 c.1 (xs ++ ys) parts.0 e in
    let both = none-append xs ys parts.1 rest.1 in
    (rw rest.0 both.0, both.1)

pub numbered-first : (xs ys : List (ℕ × Bool)) → Numbered (xs ++ ys) → Numbered xs
unfolding all
numbered-first [] ys some = refl
numbered-first (c ∷ xs) ys some =
    let parts = (and-eq-true_iff (in_table c) (all in_table (xs ++ ys))).0 some in
    rw parts.0 (numbered-first xs ys parts.1)

-- a test that is not met may go
pub first-without : (xs ys : List (ℕ × Bool)) (n : ℕ) → first_met (xs ++ ((n, false) ∷ ys)) ≡ first_met (xs ++ ys)
unfolding first_met
first-without [] ys n = refl
first-without (c ∷ xs) ys n = ap (cond c.1 c.0) (first-without xs ys n)

-- what is found first is one of the numbers, or 0
pub first-most : (cs : List (ℕ × Bool)) → Numbered cs → first_met cs ≤ last_number
unfolding first_met all
first-most [] some = omega arith
first-most (c ∷ cs) some =
    let parts = (and-eq-true_iff (in_table c) (all in_table cs)).0 some in
    go c.1 (in-table c parts.0).1 (first-most cs parts.1)
  where
    go : (t : Bool) → c.0 ≤ last_number → first_met cs ≤ last_number → cond t c.0 (first_met cs) ≤ last_number
    go true here rest = here
    go false here rest = rest

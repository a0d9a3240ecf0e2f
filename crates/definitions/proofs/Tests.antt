-- Tests: what a call tells of one; of tests joined by `&&` and `||`, what their value tells of each part, and the way back.
-- Assumes nothing.
use mathlib.Core.Bool.{Bool, true, false, cond, ◌&&◌, ◌||◌, not, true≢false, false≢true}
use mathlib.Core.List.{List, [], ◌∷◌}
use mathlib.Core.Logic.{◌⊎◌, inl, inr}
use mathlib.Core.Path.{◌≡◌, refl, sym, ◌∙◌}
use borrow.Author.Tests.{not-true, not-false}

pub never : {A : Type 0} {t : Bool} → t ≡ true → t ≡ false → A
never yes-t no-t = absurd (true≢false (sym yes-t ∙ no-t))

-- what holds of both that a test chooses from, each under its outcome
pub either : {A : Type 0} (P : A → Type 0) (t : Bool) (a b : A) → (t ≡ true → P a) → (t ≡ false → P b) → P (cond t a b)
either P true a b p q = p refl
either P false a b p q = q refl

-- what a call ensures of a test, and what an `if` found of the test
pub known : {t u b : Bool} → t ≡ u → t ≡ b → u ≡ b
known e h = sym e ∙ h

pub refused : {t u : Bool} → t ≡ u → not t ≡ true → u ≡ false
refused {t} e n = known e (not-true t n)

pub passed : {t u : Bool} → t ≡ u → not t ≡ false → u ≡ true
passed {t} e n = known e (not-false t n)

pub and_parts : (a b : Bool) → (a && b) ≡ true → (a ≡ true) × (b ≡ true)
and_parts true b e = (refl, e)
and_parts false b e = absurd (false≢true e)

pub and-whole : {a b : Bool} → a ≡ true → b ≡ true → (a && b) ≡ true
and-whole p q = rw p q

-- a conjunction that fails where its first part holds
pub and_second : (a b : Bool) → (a && b) ≡ false → a ≡ true → b ≡ false
and_second true b e p = e
and_second false b e p = absurd (false≢true p)

pub or_parts : (a b : Bool) → (a || b) ≡ false → (a ≡ false) × (b ≡ false)
or_parts true b e = absurd (true≢false e)
or_parts false b e = (refl, e)

pub or-first : {a : Bool} (b : Bool) → a ≡ true → (a || b) ≡ true
or-first b p = rw p

pub or-second : (a : Bool) {b : Bool} → b ≡ true → (a || b) ≡ true
or-second true p = refl
or-second false p = p

-- a long conjunction, as `a && b && c` is read: from the left
abbrev pub joined : Bool → List Bool → Bool
joined a [] = a
joined a (b ∷ bs) = joined (a && b) bs

abbrev pub EachTrue : List Bool → Type 0
EachTrue [] = Unit
EachTrue (b ∷ bs) = (b ≡ true) × EachTrue bs

pub joined-parts : (a : Bool) (bs : List Bool) → joined a bs ≡ true → (a ≡ true) × EachTrue bs
joined-parts a [] e = (e, tt)
joined-parts a (b ∷ bs) e =
    let rest = joined-parts (a && b) bs e in
    let front = and_parts a b rest.0 in
    (front.0, (front.1, rest.1))

pub joined-whole : (a : Bool) (bs : List Bool) → (a ≡ true) × EachTrue bs → joined a bs ≡ true
joined-whole a [] h = h.0
joined-whole a (b ∷ bs) h = joined-whole (a && b) bs (and-whole h.0 h.1.0, h.1.1)

pub or_cases : (a b : Bool) → (a || b) ≡ true → (a ≡ true) ⊎ (b ≡ true)
or_cases true b e = inl refl
or_cases false b e = inr e

-- what a failed test rules out, where another test follows from it
pub not-grows : (a b : Bool) → (a ≡ true → b ≡ true) → not b ≡ true → not a ≡ true
not-grows true b h e = never (h refl) (not-true b e)
not-grows false b h e = refl

pub and_same : (a b c d : Bool) → a ≡ c → (a ≡ true → b ≡ d) → (a && b) ≡ (c && d)
and_same true b c d e h = rw (← e) (h refl)
and_same false b c d e h = rw (← e)

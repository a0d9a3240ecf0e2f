-- A loop over a desk's rows that looks for one: what it found so far, or what is among the rows that are left. A loop that stops at the first has found
-- none where it goes on; and since "marked rows stand first", one that looks for a marked row has found none where it meets a free one.
-- Assumes nothing.
use mathlib.Core.Bool.{Bool, true, false, cond, ◌||◌, not}
use mathlib.Core.List.{List, [], ◌∷◌}
use mathlib.Core.Path.{◌≡◌, refl, sym, ◌∙◌}
use Prim.Native.Nat.{ℕ, zero, suc, ◌+◌, ◌≤◌, ◌<◌}
use native.Mathlib.Omega.{arith}
use lib.ListN.{length, get_or, drop}
use borrow.Author.Tests.{eq-eqb, not-true}
use Rattle.definitions.specs.declared.Row.{Row}
use Rattle.definitions.specs.Codes.{desk_rows, free_mark}
use Rattle.definitions.specs.Lists.{any}
use Rattle.definitions.specs.Sound.{marked, marked_first}
use Rattle.definitions.proofs.Lists.{found-next, found-end}
use Rattle.definitions.proofs.Tests.{or_parts}

module _ {A : Type 0} where
  -- where no element meets a test, none meets one that asks more
  pub any_none : (p q : A → Bool) → ((x : A) → q x ≡ false → p x ≡ false) → (xs : List A) → any q xs ≡ false → any p xs ≡ false
  unfolding any
  any_none p q h [] e = refl
  any_none p q h (x ∷ xs) e =
      let parts = or_parts (q x) (any q xs) e in
      rw (h x parts.0) (any_none p q h xs parts.1)

  any-drop : (q : A → Bool) (xs : List A) (i : ℕ) → any q xs ≡ false → any q (drop i xs) ≡ false
  unfolding any
  any-drop q xs zero e = e
  any-drop q [] (suc i) e = e
  any-drop q (x ∷ xs) (suc i) e = any-drop q xs i (or_parts (q x) (any q xs) e).1

-- behind a free row no row is marked
pub free-behind : (r : Row) (rs : List Row) → marked_first (r ∷ rs) ≡ true → marked r ≡ false → any marked rs ≡ false
unfolding marked_first
free-behind r rs first free = not-true (any marked rs) (rw free at first)

free-from : (rows : List Row) (i : ℕ) (z : Row) → i < length rows → marked_first rows ≡ true → marked (get_or rows i z) ≡ false → any marked (drop i rows) ≡ false
unfolding any marked_first
free-from [] i z h first free = absurd (omega arith)
free-from (r ∷ rs) zero z h first free = rw free (free-behind r rs first free)
free-from (r ∷ rs) (suc i) z h first free = go (marked r) first (λ after. free-from rs i z (omega arith) after free)
  where
    go : (t : Bool) → cond t (marked_first rs) (not (any marked rs)) ≡ true → (marked_first rs ≡ true → any marked (drop i rs) ≡ false) → any marked (drop i rs) ≡ false
    go true after below = below after
    go false after below = any-drop marked rs i (not-true (any marked rs) after)

pub record Looking (p : Row → Bool) (rows : List Row) (found : Bool) (i : ℕ) : Type 0 where
  pub all : length rows ≡ desk_rows
  pub so_far : (found || any p (drop i rows)) ≡ any p rows

module _ {p : Row → Bool} {rows : List Row} where
  pub looking-start : length rows ≡ desk_rows → Looking p rows false 0
  looking-start all = record { all = all; so_far = refl }

  module _ {found : Bool} {i : ℕ} (c : Looking p rows found i) where
    pub looking-next : i < desk_rows → (z : Row) {now : Bool} → p (get_or rows i z) ≡ now → Looking p rows (found || now) (i + 1)
    looking-next h z {now} e = record { all = c.all; so_far = found-next p found rows i z now (omega (arith, c.all)) (sym e) c.so_far }

    pub looking-end : desk_rows ≤ i → found ≡ any p rows
    looking-end h = found-end p found rows i (omega (arith, c.all)) c.so_far

  pub looking-free : {i : ℕ} → Looking p rows false i → i < desk_rows → (z : Row) → (get_or rows i z).mark ≡ free_mark → marked_first rows ≡ true
      → ((r : Row) → marked r ≡ false → p r ≡ false) → any p rows ≡ false
  looking-free {i} c h z free first only =
      sym c.so_far ∙ any_none p marked only (drop i rows) (free-from rows i z (omega (arith, c.all)) first (rw (eq-eqb _ _ free)))

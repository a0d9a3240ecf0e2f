-- An event that changes one row of a desk that is closed up: the row changed at its place leaves what the definition leaves, which changes every row by
-- itself and closes up.
-- Assumes nothing.
use mathlib.Core.Bool.{true, false}
use mathlib.Core.List.{List, [], ◌∷◌, ◌++◌, map, append_assoc}
use mathlib.Core.Logic.{◌⊎◌, ⊎_elim}
use mathlib.Core.Path.{◌≡◌, refl, ap, sym, subst, ◌∙◌}
use Prim.Native.Nat.{ℕ, zero, suc, ◌+◌, ◌-◌, ◌<◌}
use native.Mathlib.Nat.{suc-sub-suc}
use native.Mathlib.Omega.{arith}
use lib.ListN.{length, get_or, set, replicate, get_or-replicate, replicate-append-replicate}
use lib.Seq.{set-append_left}
use borrow.Author.Tests.{eq-eqb, ne_eqb}
use Rattle.definitions.specs.declared.Row.{Row}
use Rattle.definitions.specs.declared.Desk.{Desk}
use Rattle.definitions.specs.Codes.{free_mark}
use Rattle.definitions.specs.Lists.{all, keep, count}
use Rattle.definitions.specs.Sound.{marked}
use Rattle.definitions.specs.Desks.{free_row, close_up, edited, with_rows, changed}
use Rattle.definitions.proofs.Tests.{never, and_parts, and-whole}
use Rattle.definitions.proofs.Rows.{all-kept, length-keep, count-le}
use Rattle.definitions.proofs.RestRows.{closed-free}
use Rattle.desks.specs.Place.{removed_at, changed_at}

close_up-marked : (r : Row) (rs : List Row) → marked r ≡ true → close_up (r ∷ rs) ≡ r ∷ close_up rs
unfolding close_up keep count
close_up-marked r rs m = rw (m, suc-sub-suc)

close_up-free : (r : Row) (rs : List Row) → marked r ≡ false → close_up (r ∷ rs) ≡ close_up rs ++ (free_row ∷ [])
unfolding close_up keep count
close_up-free r rs m =
    let n = length rs - count marked rs in
    let more : suc (length rs) - count marked rs ≡ n + 1 = omega (arith, count-le marked rs) in
    rw (m, more) (ap (λ l. keep marked rs ++ l) (sym (replicate-append-replicate n 1 free_row)) ∙ sym (append_assoc (keep marked rs) (replicate n free_row) (free_row ∷ [])))

-- marked rows and then free ones stay as they are
closed : (front : List Row) (n : ℕ) → all marked front ≡ true → close_up (front ++ replicate n free_row) ≡ front ++ replicate n free_row
unfolding all
closed [] n h = closed-free n
closed (r ∷ rs) n h =
    let parts = and_parts (marked r) (all marked rs) h in
    close_up-marked r (rs ++ replicate n free_row) parts.0 ∙ ap (λ l. r ∷ l) (closed rs n parts.1)

all_set : (xs : List Row) (i : ℕ) (r : Row) → all marked xs ≡ true → marked r ≡ true → all marked (set xs i r) ≡ true
unfolding all
all_set [] i r h m = refl
all_set (x ∷ xs) zero r h m = and-whole m (and_parts (marked x) (all marked xs) h).1
all_set (x ∷ xs) (suc i) r h m =
    let parts = and_parts (marked x) (all marked xs) h in
    and-whole parts.0 (all_set xs i r parts.1 m)

-- a free row put in the place of a marked one goes
goes : (front : List Row) (n place : ℕ) → all marked front ≡ true → place < length front
    → close_up (set front place free_row ++ replicate n free_row) ≡ removed_at place (front ++ replicate n free_row)
unfolding all removed_at
goes [] n place h below = absurd (omega (arith, below))
goes (r ∷ rs) n zero h below =
    close_up-free free_row (rs ++ replicate n free_row) refl ∙ ap (λ l. l ++ (free_row ∷ [])) (closed rs n (and_parts (marked r) (all marked rs) h).1)
goes (r ∷ rs) n (suc place) h below =
    let parts = and_parts (marked r) (all marked rs) h in
    close_up-marked r (set rs place free_row ++ replicate n free_row) parts.0 ∙ ap (λ l. r ∷ l) (goes rs n place parts.1 (omega (arith, below)))

-- a marked row of rows that are closed up stands among the marked ones
among : (front : List Row) (n place : ℕ) (z : Row) → place < length front + n → marked (get_or (front ++ replicate n free_row) place z) ≡ true → place < length front
among [] n place z below m = never m (ap marked (get_or-replicate n place free_row z (omega (arith, below))))
among (r ∷ rs) n zero z below m = omega arith
among (r ∷ rs) n (suc place) z below m =
    let inner : place < length rs = among rs n place z (omega (arith, below)) m in
    omega (arith, inner)

module _ (front : List Row) (n place : ℕ) (h : all marked front ≡ true) (below : place < length front) where
  at_place : (r : Row) → (marked r ≡ true) ⊎ (r ≡ free_row) → changed_at place r (front ++ replicate n free_row) ≡ close_up (set (front ++ replicate n free_row) place r)
  unfolding changed_at
  at_place r = ⊎_elim kept (λ gone. subst (λ (x : Row). changed_at place x (front ++ replicate n free_row) ≡ close_up (set (front ++ replicate n free_row) place x)) (sym gone) removed)
    where
      apart : (x : Row) → set (front ++ replicate n free_row) place x ≡ set front place x ++ replicate n free_row
      apart x = set-append_left front (replicate n free_row) place x below

      kept : marked r ≡ true → changed_at place r (front ++ replicate n free_row) ≡ close_up (set (front ++ replicate n free_row) place r)
      kept m = rw (m, apart r) (sym (closed (set front place r) n (all_set front place r h m)))

      removed : removed_at place (front ++ replicate n free_row) ≡ close_up (set (front ++ replicate n free_row) place free_row)
      removed = sym (ap close_up (apart free_row) ∙ goes front n place h below)

marked-first : (rows : List Row) → close_up rows ≡ rows → keep marked rows ++ replicate (length rows - count marked rows) free_row ≡ rows
unfolding close_up
marked-first rows whole = whole

-- the row that is left is free, or it is not
pub left-free : (place : ℕ) (r : Row) (rows : List Row) → r.mark ≡ free_mark → changed_at place r rows ≡ removed_at place rows
unfolding changed_at
left-free place r rows free = rw (eq-eqb r.mark free_mark free)

pub left-marked : (place : ℕ) (r : Row) (rows : List Row) → (r.mark ≡ free_mark → ⊥) → changed_at place r rows ≡ set rows place r
unfolding changed_at
left-marked place r rows some = rw (ne_eqb r.mark free_mark some)

-- f changes the row at a place and no other
module _ (f : Row → Row) (d : Desk) (place : ℕ) (z : Row) (whole : close_up d.rows ≡ d.rows) (below : place < length d.rows) (there : marked (get_or d.rows place z) ≡ true) where
  pub one-changed : {r : Row} → map f d.rows ≡ set d.rows place r → (marked r ≡ true) ⊎ (r ≡ free_row) → with_rows (changed_at place r d.rows) d ≡ changed f d
  unfolding changed edited
  one-changed {r} one left =
      let rows = d.rows in
      let front = keep marked rows in
      let n = length rows - count marked rows in
      let e = marked-first rows whole in
      let size : length front + n ≡ length rows = omega (arith, length-keep marked rows, count-le marked rows) in
      let inner : place < length front = among front n place z (omega (arith, size, below)) (subst (λ l. marked (get_or l place z) ≡ true) (sym e) there) in
      let same : changed_at place r rows ≡ close_up (set rows place r) = subst (λ l. changed_at place r l ≡ close_up (set l place r)) e (at_place front n place (all-kept marked rows) inner r left) in
      ap (λ l. with_rows l d) (same ∙ ap close_up (sym one))

-- Laws of the row that a look for a number ends at: for the callers, what it tells of all rows of a sound desk; for the loop, the rows looked at so far.
-- Assumes nothing.
use mathlib.Core.Bool.{Bool, true, false, cond, ◌&&◌, ◌||◌, not, not-not, or-true, or-false, and-false, false≢true}
use mathlib.Core.List.{List, [], ◌∷◌, map}
use mathlib.Core.Path.{◌≡◌, refl, ap, ap₂, sym, subst, ◌∙◌}
use Prim.Native.Nat.{ℕ, zero, suc, ◌+◌, ◌-◌, ◌*◌, ◌≤◌, ◌<◌}
use native.Mathlib.Nat.{add-sub_cancel_left}
use native.Mathlib.Omega.{arith}
use lib.Dec.{eqb}
use lib.ListN.{length, get_or, take, drop, set, drop_of_length-le, get_or-eq_default}
use lib.Seq.{get_or-take, get_or-drop}
use borrow.Author.Tests.{eqb-true, not-true, not-false}
use Rattle.definitions.specs.declared.Row.{Row}
use Rattle.definitions.specs.Codes.{desk_rows}
use Rattle.definitions.specs.Lists.{any}
use Rattle.definitions.specs.State.{row_size, row_of, rows_of}
use Rattle.definitions.specs.Sound.{marked, numbered, marked_first, numbers_differ}
use Rattle.definitions.specs.Desks.{free_row}
use Rattle.definitions.proofs.Records.{length-rows}
use Rattle.definitions.proofs.Tests.{and_parts, and-whole, or_parts}
use Rattle.desk_rows.proofs.Looking.{any_none, free-behind}
use Rattle.state_records.specs.declared.search.RowAt.{RowAt}
use Rattle.state_records.specs.Search.{ends_at, place_of, row_with}
use Rattle.state_records.proofs.Laws.{rows_next}

map-none : {A : Type 0} (q : A → Bool) (f : A → A) → ((x : A) → q x ≡ false → f x ≡ x) → (xs : List A) → any q xs ≡ false → map f xs ≡ xs
unfolding any
map-none q f h [] e = refl
map-none q f h (x ∷ xs) e =
    let parts = or_parts (q x) (any q xs) e in
    ap₂ (λ y ys. y ∷ ys) (h x parts.0) (map-none q f h xs parts.1)

module _ (number : ℕ) where
  -- a row that is passed over is not the number's, and one that the look ends at has no other row of the number behind it
  passed-by : (r : Row) → ends_at number r ≡ false → numbered number r ≡ false
  passed-by r e = rw (or_parts (eqb r.number number) (not (marked r)) e).0 (and-false (marked r))

  has-number : (r : Row) → ends_at number r ≡ true → marked r ≡ true → eqb r.number number ≡ true
  has-number r e m = sym (or-false (eqb r.number number)) ∙ rw m at e

  none-behind : (r : Row) (rs : List Row) → ends_at number r ≡ true → marked_first (r ∷ rs) ≡ true → numbers_differ (r ∷ rs) ≡ true → any (numbered number) rs ≡ false
  unfolding numbers_differ
  none-behind r rs e first differ = go (marked r) refl
    where
      alone : not (marked r && any (numbered r.number) rs) ≡ true
      alone = (and_parts (not (marked r && any (numbered r.number) rs)) (numbers_differ rs) differ).0

      go : (t : Bool) → marked r ≡ t → any (numbered number) rs ≡ false
      go true m = not-true (any (numbered number) rs) (subst (λ (n : ℕ). not (any (numbered n) rs) ≡ true) (eqb-true r.number number (has-number r e m)) (rw m at alone))
      go false m = any_none (numbered number) marked (λ x free. rw free) rs (free-behind r rs first m)

  -- what is left of a sound desk's rows behind one that is passed over
  first-left : (r : Row) (rs : List Row) → ends_at number r ≡ false → marked_first (r ∷ rs) ≡ true → marked_first rs ≡ true
  unfolding marked_first
  first-left r rs e first = rw (not-false (marked r) (or_parts (eqb r.number number) (not (marked r)) e).1) at first

  differ-left : (r : Row) (rs : List Row) → numbers_differ (r ∷ rs) ≡ true → numbers_differ rs ≡ true
  unfolding numbers_differ
  differ-left r rs differ = (and_parts (not (marked r && any (numbered r.number) rs)) (numbers_differ rs) differ).1

  abbrev found : List Row → Row
  found rows = get_or rows (place_of number rows) free_row

  any_found : (p : Row → Bool) → ((r : Row) → numbered number r ≡ false → p r ≡ false) → (rows : List Row) → marked_first rows ≡ true → numbers_differ rows ≡ true → any p rows ≡ p (found rows)
  unfolding any place_of
  any_found p h [] first differ = sym (h free_row refl)
  any_found p h (r ∷ rs) first differ = go (ends_at number r) refl (any_found p h rs)
    where
      go : (t : Bool) → ends_at number r ≡ t → (marked_first rs ≡ true → numbers_differ rs ≡ true → any p rs ≡ p (found rs)) → (p r || any p rs) ≡ p (get_or (r ∷ rs) (cond t 0 (suc (place_of number rs))) free_row)
      go true e below = rw (any_none p (numbered number) h rs (none-behind r rs e first differ)) (or-false (p r))
      go false e below = rw (h r (passed-by r e)) (below (first-left r rs e first) (differ-left r rs differ))

  map_found : (f : Row → Row) → ((r : Row) → numbered number r ≡ false → f r ≡ r) → (rows : List Row) → marked_first rows ≡ true → numbers_differ rows ≡ true
      → map f rows ≡ set rows (place_of number rows) (f (found rows))
  unfolding place_of
  map_found f h [] first differ = refl
  map_found f h (r ∷ rs) first differ = go (ends_at number r) refl (map_found f h rs)
    where
      go : (t : Bool) → ends_at number r ≡ t → (marked_first rs ≡ true → numbers_differ rs ≡ true → map f rs ≡ set rs (place_of number rs) (f (found rs)))
          → f r ∷ map f rs ≡ set (r ∷ rs) (cond t 0 (suc (place_of number rs))) (f (get_or (r ∷ rs) (cond t 0 (suc (place_of number rs))) free_row))
      go true e below = ap (λ l. f r ∷ l) (map-none (numbered number) f h rs (none-behind r rs e first differ))
      go false e below = ap₂ (λ x l. x ∷ l) (h r (passed-by r e)) (below (first-left r rs e first) (differ-left r rs differ))

  place-most : (rows : List Row) → place_of number rows ≤ length rows
  unfolding place_of
  place-most [] = omega arith
  place-most (r ∷ rs) = go (ends_at number r) (place-most rs)
    where
      go : (t : Bool) → place_of number rs ≤ length rs → cond t 0 (suc (place_of number rs)) ≤ suc (length rs)
      go true below = omega arith
      go false below = omega arith

  ends_there : (rows : List Row) → ends_at number (found rows) ≡ true
  unfolding place_of
  ends_there [] = or-true (eqb 0 number)
  ends_there (r ∷ rs) = go (ends_at number r) refl (ends_there rs)
    where
      go : (t : Bool) → ends_at number r ≡ t → ends_at number (found rs) ≡ true → ends_at number (get_or (r ∷ rs) (cond t 0 (suc (place_of number rs))) free_row) ≡ true
      go true e below = e
      go false e below = below

  within : (rows : List Row) → marked (found rows) ≡ true → place_of number rows < length rows
  unfolding place_of
  within [] m = absurd (false≢true m)
  within (r ∷ rs) m = go (ends_at number r) m (within rs)
    where
      go : (t : Bool) → marked (get_or (r ∷ rs) (cond t 0 (suc (place_of number rs))) free_row) ≡ true → (marked (found rs) ≡ true → place_of number rs < length rs) → cond t 0 (suc (place_of number rs)) < suc (length rs)
      go true m below = omega arith
      go false m below = omega (arith, below m)

get_d_default : {A : Type 0} (xs : List A) (i : ℕ) (a b : A) → i < length xs → get_or xs i a ≡ get_or xs i b
get_d_default [] i a b h = absurd (omega arith)
get_d_default (x ∷ xs) zero a b h = refl
get_d_default (x ∷ xs) (suc i) a b h = get_d_default xs i a b (omega arith)

-- What the row that is found, and its place, tell of all rows.
module _ (number : ℕ) (rows : List Row) {at : RowAt} (e : at ≡ row_with number rows) where
  pub found-most : at.place ≤ length rows
  unfolding row_with
  found-most = rw e (place-most number rows)

  pub found-there : at.place < length rows → (z : Row) → get_or rows at.place z ≡ at.row
  unfolding row_with
  found-there h z = get_d_default rows at.place z free_row h ∙ rw e

  -- a marked row is found where it stands, and it has the number
  pub found-place : marked at.row ≡ true → at.place < length rows
  unfolding row_with
  found-place m = rw e (within number rows (rw e at m))

  pub found-numbered : marked at.row ≡ true → numbered number at.row ≡ true
  unfolding row_with
  found-numbered m = and-whole m (has-number number at.row (rw e (ends_there number rows)) m)

  module _ (first : marked_first rows ≡ true) (differ : numbers_differ rows ≡ true) where
    -- what only a row with the number can meet, some row meets where that row does
    pub found-any : (p : Row → Bool) → ((r : Row) → numbered number r ≡ false → p r ≡ false) → any p rows ≡ p at.row
    unfolding row_with
    found-any p h = rw e (any_found number p h rows first differ)

    -- a change of no row but the one with the number
    pub changed-at-place : (f : Row → Row) → ((r : Row) → numbered number r ≡ false → f r ≡ r) → map f rows ≡ set rows at.place (f at.row)
    unfolding row_with
    changed-at-place f h = rw e (map_found number f h rows first differ)

-- a row's number and mark where they stand in the words
pub row_word : (w : List ℕ) (i n : ℕ) → n < row_size → get_or (take row_size (drop (row_size * i) w)) n 0 ≡ get_or w (row_size * i + n) 0
row_word w i n h = get_or-take row_size (drop (row_size * i) w) n 0 h ∙ get_or-drop (row_size * i) w n 0

row_ends : (number : ℕ) (w : List ℕ) (i : ℕ)
    → ends_at number (row_of (take row_size (drop (row_size * i) w))) ≡ (eqb (get_or w (row_size * i + 1) 0) number || eqb (get_or w (row_size * i) 0) 0)
unfolding row_of
row_ends number w i =
    let here : row_size * i + 0 ≡ row_size * i = omega arith in
    rw (row_word w i 1 (omega arith), row_word w i 0 (omega arith), here, not-not (eqb (get_or w (row_size * i) 0) 0))

-- A loop that looks for a number: i rows are passed.
pub record Sought (number : ℕ) (w : List ℕ) (i : ℕ) : Type 0 where
  pub so_far : place_of number (rows_of desk_rows w) ≡ i + place_of number (drop i (rows_of desk_rows w))
  pub to : i ≤ desk_rows

module _ {number : ℕ} {w : List ℕ} where
  module _ {i : ℕ} (c : Sought number w i) where
    ended : place_of number (drop i (rows_of desk_rows w)) ≡ 0 → {row : Row} → row ≡ get_or (rows_of desk_rows w) i free_row → record { place = i; row = row } ≡ row_with number (rows_of desk_rows w)
    unfolding row_with
    ended last same =
        let here : place_of number (rows_of desk_rows w) ≡ i = omega (arith, c.so_far) in
        rw (here, same)

    module _ (h : i < desk_rows) where
      pub sought_next : (eqb (get_or w (row_size * i + 1) 0) number || eqb (get_or w (row_size * i) 0) 0) ≡ false → Sought number w (i + 1)
      unfolding place_of
      sought_next other =
          let passed : place_of number (drop i (rows_of desk_rows w)) ≡ suc (place_of number (drop (i + 1) (rows_of desk_rows w))) = rw (rows_next i w h, row_ends number w i, other) in
          record { so_far = omega (arith, passed, c.so_far); to = omega arith }

      pub sought_here : (eqb (get_or w (row_size * i + 1) 0) number || eqb (get_or w (row_size * i) 0) 0) ≡ true
          → {row : Row} → row ≡ row_of (take (row_size * i + row_size - row_size * i) (drop (row_size * i) w)) → record { place = i; row = row } ≡ row_with number (rows_of desk_rows w)
      unfolding place_of
      sought_here it same =
          let next = rows_next i w h in
          let there : i + 0 ≡ i = omega arith in
          ended (rw (next, row_ends number w i, it))
          (same
          ∙ rw (add-sub_cancel_left (row_size * i) row_size)
          (ap (λ l. get_or l 0 free_row) (sym next) ∙ get_or-drop i (rows_of desk_rows w) 0 free_row ∙ ap (λ n. get_or (rows_of desk_rows w) n free_row) there))

    pub sought_end : desk_rows ≤ i → {row : Row} → row ≡ free_row → record { place = i; row = row } ≡ row_with number (rows_of desk_rows w)
    unfolding place_of
    sought_end h same =
        let past : length (rows_of desk_rows w) ≤ i = omega (arith, length-rows desk_rows w) in
        ended (ap (place_of number) (drop_of_length-le (rows_of desk_rows w) past)) (same ∙ sym (get_or-eq_default (rows_of desk_rows w) free_row past))

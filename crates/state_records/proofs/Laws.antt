-- Laws of the records in the words, that the functions' proofs cite.
-- Assumes nothing.
use mathlib.Core.List.{List, [], ◌∷◌, ◌++◌, append_assoc, append-nil}
use mathlib.Core.Path.{◌≡◌, refl, ap, sym, ◌∙◌}
use Prim.Native.Nat.{ℕ, zero, suc, ◌+◌, ◌-◌, ◌*◌, ◌≤◌, ◌<◌}
use native.Mathlib.Nat.{add-sub_cancel_left, add-zero, add_assoc, add_comm, mul-suc}
use native.Mathlib.Numerals.{add-one}
use native.Mathlib.Omega.{arith}
use lib.ListN.{length, get_or, take, drop, set, length-append, length-set, take-append-drop}
use lib.Seq.{length-take-le, drop-drop, take_at, drop_at, take-suc-set, take_all}
use Rattle.definitions.proofs.Lists.{take_next}
use Rattle.definitions.proofs.Words.{length-put, drop-take}
use Rattle.definitions.proofs.Records.{length-row, length-rows-words}
use Rattle.definitions.specs.Lists.{part, put}
use Rattle.definitions.specs.declared.Row.{Row}
use Rattle.definitions.specs.declared.Desk.{Desk}
use Rattle.definitions.specs.State.{row_size, counters_size, desk_size, header_of, row_of, row_words, rows_of, rows_words, desk_place, desk_of, desk_at, desk_words, put_desk}
use Rattle.definitions.specs.Codes.{desk_rows}

-- the code's part of a slice from a place on
pub part-is : (w : List ℕ) (place n : ℕ) {at : ℕ} → at ≡ place → take (at + n - at) (drop at w) ≡ part w place n
unfolding part
part-is w place n e = rw (e, add-sub_cancel_left place n)

-- no words put at a place
pub put-none : (w : List ℕ) (at : ℕ) → put w at [] ≡ w
unfolding put
put-none w at = rw (add-zero at) (take-append-drop at w)

-- what is put next to what was put is one putting
pub put-put : (w : List ℕ) (at : ℕ) (xs ys : List ℕ) → at + length xs ≤ length w
    → put (put w at xs) (at + length xs) ys ≡ put w at (xs ++ ys)
unfolding put
put-put w at xs ys h =
    let n : ℕ = at + length xs in
    let room : at ≤ length w = omega arith in
    let head : length (take at w ++ xs) ≡ n = simp (length-append, length-take-le) in
    rw (← append_assoc (take at w) xs (drop n w), take_at (take at w ++ xs) (drop n w) n head, ← drop-drop (length ys) n (take at w ++ xs ++ drop n w), drop_at (take at w ++ xs) (drop n w) n head, drop-drop (length ys) n w)
    (simp (length-append, append_assoc, ← add_assoc))

-- the rows of a desk, read one after the other
pub rows-suc : (i : ℕ) (w : List ℕ) → rows_of (suc i) w ≡ rows_of i w ++ (row_of (take row_size (drop (row_size * i) w)) ∷ [])
unfolding rows_of
rows-suc zero w = refl
rows-suc (suc i) w =
    ap (λ (rs : List Row). row_of (take row_size w) ∷ rs) (rows-suc i (drop row_size w) ∙ rw (drop-drop (row_size * i) row_size w, mul-suc row_size i, add_comm row_size (row_size * i)))

pub rows_drop : (i n : ℕ) (w : List ℕ) → i ≤ n → drop i (rows_of n w) ≡ rows_of (n - i) (drop (row_size * i) w)
unfolding rows_of
rows_drop zero n w h = let whole : n ≡ n - 0 = omega arith in ap (λ (k : ℕ). rows_of k w) whole
rows_drop (suc i) zero w h = absurd (omega arith)
rows_drop (suc i) (suc n) w h =
    let left : n - i ≡ suc n - suc i = omega arith in
    let further : row_size + row_size * i ≡ row_size * suc i = omega arith in
    rows_drop i n (drop row_size w) (omega arith)
    ∙ ap (rows_of (n - i)) (drop-drop (row_size * i) row_size w ∙ ap (λ (k : ℕ). drop k w) further)
    ∙ ap (λ (k : ℕ). rows_of k (drop (row_size * suc i) w)) left

pub rows_next : (i : ℕ) (w : List ℕ) → i < desk_rows → drop i (rows_of desk_rows w) ≡ row_of (take row_size (drop (row_size * i) w)) ∷ drop (i + 1) (rows_of desk_rows w)
unfolding rows_of
rows_next i w h =
    let left : desk_rows - i ≡ suc (desk_rows - (i + 1)) = omega arith in
    let further : row_size * i + row_size ≡ row_size * (i + 1) = omega arith in
    rows_drop i desk_rows w (omega arith)
    ∙ ap (λ (k : ℕ). rows_of k (drop (row_size * i) w)) left
    ∙ ap (λ (rs : List Row). row_of (take row_size (drop (row_size * i) w)) ∷ rs)
    (ap (rows_of (desk_rows - (i + 1))) (drop-drop row_size (row_size * i) w ∙ ap (λ (k : ℕ). drop k w) further) ∙ sym (rows_drop (i + 1) desk_rows w (omega arith)))

-- the rows of a desk in the words of the state, as the code takes their part
pub rows-part : (w : List ℕ) (k : ℕ) {at : ℕ} → at ≡ desk_place (header_of w).securities k
    → rows_of desk_rows (take (at + counters_size + row_size * desk_rows - (at + counters_size)) (drop (at + counters_size) w)) ≡ (desk_at w k).rows
unfolding desk_at desk_of part
rows-part w k {at} e =
    let place : ℕ = desk_place (header_of w).securities k in
    let size : at + counters_size + row_size * desk_rows - (at + counters_size) ≡ row_size * desk_rows = omega arith in
    let rows : drop counters_size (take desk_size (drop place w)) ≡ take (row_size * desk_rows) (drop (at + counters_size) w) =
    drop-take counters_size desk_size (drop place w) ∙ ap (take (row_size * desk_rows)) (drop-drop counters_size place w ∙ ap (λ (n : ℕ). drop (n + counters_size) w) (sym e)) in
    rw (size, rows)

-- the rows read so far are those that the definition reads first
pub record Read (w : List ℕ) (rows : List Row) (i : ℕ) : Type 0 where
  pub first : take i rows ≡ rows_of i (drop counters_size w)
  pub long : length rows ≡ desk_rows
  pub to : i ≤ desk_rows

pub read_none : (w : List ℕ) (rows : List Row) → length rows ≡ desk_rows → Read w rows 0
unfolding rows_of
read_none w rows all = record { first = refl; long = all; to = omega arith }

pub read_next : (w : List ℕ) (rows : List Row) (i : ℕ) (r : Row) → i < desk_rows → Read w rows i
    → r ≡ row_of (take (counters_size + row_size * i + row_size - (counters_size + row_size * i)) (drop (counters_size + row_size * i) w)) → Read w (set rows i r) (i + 1)
read_next w rows i r h inv e =
    let here : i < length rows = omega (arith, inv.long) in
    let row : r ≡ row_of (take row_size (drop (row_size * i) (drop counters_size w))) =
    e ∙ rw (add-sub_cancel_left (counters_size + row_size * i) row_size, drop-drop (row_size * i) counters_size w) in
    record {
      first =
          rw (add-one i, take-suc-set rows i r here, inv.first, row) (sym (rows-suc i (drop counters_size w)));
      long = length-set rows i r ∙ inv.long;
      to = omega arith;
    }

pub read_all : (w : List ℕ) (rows : List Row) (i : ℕ) → desk_rows ≤ i → Read w rows i → rows ≡ rows_of desk_rows (drop counters_size w)
read_all w rows i h inv =
    let end : i ≡ desk_rows = omega (arith, inv.to) in
    sym (take_all desk_rows rows (omega (arith, inv.long))) ∙ rw end at inv.first

-- the words of rows one after the other
rows-words-snoc : (rs : List Row) (r : Row) → rows_words (rs ++ (r ∷ [])) ≡ rows_words rs ++ row_words r
unfolding rows_words
rows-words-snoc [] r = append-nil (row_words r)
rows-words-snoc (x ∷ rs) r = rw (rows-words-snoc rs r, append_assoc)

-- the rows written so far
pub record Written (w₀ : List ℕ) (at : ℕ) (rows : List Row) (w : List ℕ) (i : ℕ) : Type 0 where
  pub words : w ≡ put w₀ at (rows_words (take i rows))
  pub long : length w ≡ length w₀
  pub to : i ≤ desk_rows

pub written_none : (w : List ℕ) (at : ℕ) (rows : List Row) → Written w at rows w 0
unfolding rows_words
written_none w at rows = record { words = sym (put-none w at); long = refl; to = omega arith }

pub written_next : (w₀ : List ℕ) (at : ℕ) (rows : List Row) (w : List ℕ) (i : ℕ) (d : Row) → length rows ≡ desk_rows → at + row_size * desk_rows ≤ length w₀ → i < desk_rows
    → Written w₀ at rows w i → Written w₀ at rows (put w (at + row_size * i) (row_words (get_or rows i d))) (i + 1)
written_next w₀ at rows w i d all room h inv =
    let done : List ℕ = rows_words (take i rows) in
    let next : List ℕ = row_words (get_or rows i d) in
    let size : length done ≡ row_size * i = length-rows-words (take i rows) ∙ ap (λ (n : ℕ). row_size * n) (length-take-le i rows (omega arith)) in
    record {
      words =
          rw (inv.words, ← size) (put-put w₀ at done next (omega arith))
          ∙ ap (put w₀ at) (sym (ap rows_words (take_next rows i d (omega arith)) ∙ rows-words-snoc (take i rows) (get_or rows i d)));
      long = length-put w (at + row_size * i) next (omega (arith, inv.long, length-row (get_or rows i d))) ∙ inv.long;
      to = omega arith;
    }

pub desk-written : (w₀ : List ℕ) (k : ℕ) (d : Desk) {at : ℕ} {w₁ w : List ℕ} {i : ℕ} → at ≡ desk_place (header_of w₀).securities k
    → w₁ ≡ put w₀ at (d.accepted ∷ d.warned ∷ d.rejected ∷ []) → length d.rows ≡ desk_rows → at + counters_size ≤ length w₀ → desk_rows ≤ i
    → Written w₁ (at + counters_size) d.rows w i → w ≡ put_desk w₀ k d
unfolding put_desk desk_words
desk-written w₀ k d {at} {i = i} place counters all room h inv =
    let end : i ≡ desk_rows = omega (arith, inv.to) in
    inv.words
    ∙ rw (end, take_all desk_rows d.rows (omega arith), counters, ← place)
    (put-put w₀ at (d.accepted ∷ d.warned ∷ d.rejected ∷ []) (rows_words d.rows) room)

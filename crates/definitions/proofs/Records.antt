-- A record and its words: what is put in is taken out again, and the other way round.
-- Assumes nothing.
use mathlib.Core.List.{List, [], ◌∷◌, ◌++◌}
use mathlib.Core.Path.{◌≡◌, refl, ap, ap₂, sym, ◌∙◌}
use Prim.Native.Nat.{ℕ, zero, suc, ◌+◌, ◌*◌, ◌≤◌}
use native.Mathlib.Nat.{suc-add, add-suc, add-zero}
use native.Mathlib.Omega.{arith}
use lib.ListN.{length, get_or, take, drop, length-append, length-drop, length-take, drop_of_length-le, take-append-drop}
use lib.Seq.{drop-cons, take_at, drop_at}
use Rattle.definitions.specs.declared.Security.{Security}
use Rattle.definitions.specs.declared.Row.{Row}
use Rattle.definitions.specs.declared.Desk.{Desk}
use Rattle.definitions.specs.State.{row_size, security_of, security_words, row_of, row_words, rows_of, rows_words, desk_of, desk_words, security_size, desk_size, counters_size}
use Rattle.definitions.specs.Codes.{desk_rows}

pub length-security : (s : Security) → length (security_words s) ≡ security_size
unfolding security_words
length-security s = refl

pub security-read : (s : Security) → security_of (security_words s) ≡ s
unfolding security_of security_words
security-read s = refl

pub length-row : (r : Row) → length (row_words r) ≡ row_size
unfolding row_words
length-row r = refl

pub row_read : (r : Row) → row_of (row_words r) ≡ r
unfolding row_of row_words
row_read r = refl

pub length-rows-words : (rs : List Row) → length (rows_words rs) ≡ row_size * length rs
unfolding rows_words
length-rows-words [] = refl
length-rows-words (r ∷ rs) = length-append (row_words r) (rows_words rs) ∙ omega (arith, length-row r, length-rows-words rs)

pub rows-read : (rs : List Row) → rows_of (length rs) (rows_words rs) ≡ rs
unfolding rows_of rows_words
rows-read [] = refl
rows-read (r ∷ rs) =
    ap₂ (λ (x : Row) (xs : List Row). x ∷ xs)
    (ap row_of (take_at (row_words r) (rows_words rs) row_size (length-row r)) ∙ row_read r)
    (ap (rows_of (length rs)) (drop_at (row_words r) (rows_words rs) row_size (length-row r)) ∙ rows-read rs)

pub length-rows : (n : ℕ) (w : List ℕ) → length (rows_of n w) ≡ n
unfolding rows_of
length-rows zero w = refl
length-rows (suc n) w = ap suc (length-rows n (drop row_size w))

pub length-desk : (d : Desk) → length d.rows ≡ desk_rows → length (desk_words d) ≡ desk_size
unfolding desk_words
length-desk d h = omega (arith, length-rows-words d.rows)

pub desk-read : (d : Desk) → length d.rows ≡ desk_rows → desk_of (desk_words d) ≡ d
unfolding desk_of desk_words
desk-read d h =
    ap {B = Desk} (λ (rs : List Row). record { accepted = d.accepted; warned = d.warned; rejected = d.rejected; rows = rs })
    (ap (λ (n : ℕ). rows_of n (rows_words d.rows)) (sym h) ∙ rows-read d.rows)

-- the n words from i on, one by one
abbrev spelled : ℕ → ℕ → List ℕ → List ℕ
spelled i zero w = []
spelled i (suc n) w = get_or w i 0 ∷ spelled (suc i) n w

spelled_out : (i n : ℕ) (w : List ℕ) → i + n ≤ length w → spelled i n w ++ drop (i + n) w ≡ drop i w
spelled_out i zero w h = rw add-zero
spelled_out i (suc n) w h =
    rw (drop-cons w i 0 (omega arith), add-suc i n, ← (suc-add i n))
    (ap (λ (v : List ℕ). get_or w i 0 ∷ v) (spelled_out (suc i) n w (omega arith)))

pub row_write : (w : List ℕ) → length w ≡ row_size → row_words (row_of w) ≡ w
unfolding row_words row_of
row_write w h =
    ap (λ (v : List ℕ). spelled 0 row_size w ++ v) (sym (drop_of_length-le w {i = row_size} (omega arith))) ∙ spelled_out 0 row_size w (omega arith)

pub rows_write : (n : ℕ) (w : List ℕ) → length w ≡ row_size * n → rows_words (rows_of n w) ≡ w
unfolding rows_words rows_of
rows_write zero [] h = refl
rows_write zero (x ∷ w) h = absurd (omega arith)
rows_write (suc n) w h =
    ap₂ (λ (a b : List ℕ). a ++ b)
    (row_write (take row_size w) (length-take row_size w ∙ omega arith))
    (rows_write n (drop row_size w) (length-drop row_size w ∙ omega arith))
    ∙ take-append-drop row_size w

pub desk-write : (w : List ℕ) → length w ≡ desk_size → desk_words (desk_of w) ≡ w
unfolding desk_words desk_of
desk-write w h =
    ap (λ (v : List ℕ). spelled 0 counters_size w ++ v) (rows_write desk_rows (drop counters_size w) (length-drop counters_size w ∙ omega arith)) ∙ spelled_out 0 counters_size w (omega arith)

-- The laws of a desk: the loops that change its rows, stated once over what becomes of one row, and when 32 rows are of a kind.
-- Assumes nothing.
use mathlib.Core.Bool.{Bool, true, false, cond, ◌&&◌}
use mathlib.Core.List.{List, [], ◌∷◌, ◌++◌, map, map-append, append-nil}
use mathlib.Core.Path.{◌≡◌, refl, ap, sym, ◌∙◌}
use Prim.Native.Nat.{ℕ, suc, ◌+◌, ◌-◌, ◌≤◌, ◌<◌}
use native.Mathlib.Omega.{arith}
use lib.Dec.{eqb, eqb-suc-suc}
use lib.ListN.{length, get_or, take, set, replicate, length-map, length-append, length-replicate, length-set}
use lib.Seq.{take_all, set_at, set_out, append_snoc}
use borrow.Author.Tests.{eq-eqb, ne_eqb}
use Rattle.std.specs.List.{list_all}
use Rattle.definitions.specs.declared.Row.{Row}
use Rattle.definitions.specs.declared.Desk.{Desk}
use Rattle.definitions.specs.Codes.{desk_rows, free_mark}
use Rattle.definitions.specs.Lists.{keep, count}
use Rattle.definitions.specs.Sound.{marked}
use Rattle.definitions.specs.Desks.{free_row, close_up, edited, with_rows, changed, added_last}
use Rattle.definitions.proofs.Lists.{take_next}
use Rattle.definitions.proofs.Rows.{all-kept, length-keep, count-le, count-all, count-append, count-replicate}

module _ {A : Type 0} (p : A → Bool) where
  keep_append : (a b : List A) → keep p (a ++ b) ≡ keep p a ++ keep p b
  unfolding keep
  keep_append [] b = refl
  keep_append (x ∷ a) b = go (p x) (keep_append a b)
    where
      go : (t : Bool) → keep p (a ++ b) ≡ keep p a ++ keep p b
          → cond t (x ∷ keep p (a ++ b)) (keep p (a ++ b)) ≡ cond t (x ∷ keep p a) (keep p a) ++ keep p b
      go true e = ap (λ l. x ∷ l) e
      go false e = e

  -- all elements are of a kind where as many are as there are elements
  all-of-kind : (xs : List A) → list_all p xs ≡ eqb (count p xs) (length xs)
  unfolding count keep
  all-of-kind [] = refl
  all-of-kind (x ∷ xs) = go (p x) (all-of-kind xs)
    where
      go : (t : Bool) → list_all p xs ≡ eqb (count p xs) (length xs)
          → (t && list_all p xs) ≡ eqb (length (cond t (x ∷ keep p xs) (keep p xs))) (suc (length xs))
      go true below = below ∙ sym (eqb-suc-suc (count p xs) (length xs))
      go false below = sym (ne_eqb (count p xs) (suc (length xs)) (λ e. omega (arith, count-le p xs)))

  pub all-counted : (xs : List A) {tested : Bool} {n : ℕ} → length xs ≡ n → tested ≡ list_all p xs → tested ≡ eqb (count p xs) n
  all-counted xs size e = e ∙ all-of-kind xs ∙ ap (eqb (count p xs)) size

-- the rows that are kept of a list, each as a change leaves it
abbrev kept : (Row → Row) → List Row → List Row
kept f rows = keep marked (map f rows)

keep-marked : (r : Row) → (r.mark ≡ free_mark → ⊥) → keep marked (r ∷ []) ≡ r ∷ []
unfolding keep
keep-marked r t = rw (ne_eqb _ _ t)

keep-free : (r : Row) → r.mark ≡ free_mark → keep marked (r ∷ []) ≡ []
unfolding keep
keep-free r t = rw (eq-eqb _ _ t)

put-at : (rows : List Row) (n : ℕ) (r : Row) → length rows ≡ n → n < desk_rows
    → set (rows ++ replicate (desk_rows - n) free_row) n r ≡ (rows ++ (r ∷ [])) ++ replicate (desk_rows - (n + 1)) free_row
put-at rows n r e h =
    let more : desk_rows - n ≡ suc (desk_rows - (n + 1)) = omega arith in
    rw more (set_at rows free_row (replicate (desk_rows - (n + 1)) free_row) r n e ∙ sym (append_snoc rows r (replicate (desk_rows - (n + 1)) free_row)))

-- what a closure answers, by its postcondition, is what f gives
abbrev pub Computes : (Row → Row → Type 0) → (Row → Row) → Type 0
Computes post f = (r left : Row) → post r left → left ≡ f r

-- a loop over rows that puts some of them on `closed`: n of i
pub record Putting (rows : List Row) (closed : Desk) (n i : ℕ) : Type 0 where
  pub all : length rows ≡ desk_rows
  pub size : length closed.rows ≡ desk_rows
  pub few : n ≤ i

pub putting-start : (d : Desk) {closed : Desk} → length d.rows ≡ desk_rows → closed ≡ with_rows (replicate desk_rows free_row) d → Putting d.rows closed 0 0
putting-start d all e = record { all = all; size = ap (λ (x : Desk). length x.rows) e ∙ length-replicate desk_rows free_row; few = omega arith }

module _ {rows : List Row} {closed : Desk} {n i : ℕ} (c : Putting rows closed n i) where
  pub putting-kept : (r : Row) → Putting rows (with_rows (set closed.rows n r) closed) (n + 1) (i + 1)
  putting-kept r = record { all = c.all; size = length-set closed.rows n r ∙ c.size; few = omega (arith, c.few) }

  pub putting-free : Putting rows closed n (i + 1)
  putting-free = record { all = c.all; size = c.size; few = omega (arith, c.few) }

-- A loop over the rows of d that changes each by f and puts those that are kept on `closed`: i are passed, and n are put.
pub record Closing (f : Row → Row) (d closed : Desk) (n i : ℕ) : Type 0 where
  pub whole : length d.rows ≡ desk_rows
  pub room : n ≤ i
  pub put : length (kept f (take i d.rows)) ≡ n
  pub desk : closed ≡ with_rows (kept f (take i d.rows) ++ replicate (desk_rows - n) free_row) d

module _ {f : Row → Row} {d : Desk} where
  pub closing-start : {closed : Desk} → length d.rows ≡ desk_rows → closed ≡ with_rows (replicate desk_rows free_row) d → Closing f d closed 0 0
  unfolding keep
  closing-start whole e = record { whole = whole; room = omega arith; put = refl; desk = e }

  module _ {closed : Desk} {n i : ℕ} (c : Closing f d closed n i) where
    module _ (h : i < desk_rows) (z : Row) {r : Row} (e : r ≡ f (get_or d.rows i z)) where
      kept_next : kept f (take (i + 1) d.rows) ≡ kept f (take i d.rows) ++ keep marked (r ∷ [])
      kept_next =
          let within : i < length d.rows = omega (arith, c.whole) in
          rw (take_next d.rows i z within, map-append, keep_append) (ap (λ x. kept f (take i d.rows) ++ keep marked (x ∷ [])) (sym e))

      -- a row that is kept is put, and one that is free is not
      pub closing-kept : (r.mark ≡ free_mark → ⊥) → Closing f d (with_rows (set closed.rows n r) closed) (n + 1) (i + 1)
      closing-kept t =
          let next = kept_next ∙ ap (λ l. kept f (take i d.rows) ++ l) (keep-marked r t) in
          record {
            whole = c.whole;
            room = omega (arith, c.room);
            put = rw (next, length-append) (omega (arith, c.put));
            desk =
                ap (λ (x : Desk). with_rows (set x.rows n r) x) c.desk
                ∙ ap (λ rows. with_rows rows d) (put-at (kept f (take i d.rows)) n r c.put (omega (arith, c.room)))
                ∙ ap (λ l. with_rows (l ++ replicate (desk_rows - (n + 1)) free_row) d) (sym next);
          }

      pub closing-free : r.mark ≡ free_mark → Closing f d closed n (i + 1)
      closing-free t =
          let next : kept f (take (i + 1) d.rows) ≡ kept f (take i d.rows) = kept_next ∙ ap (λ l. kept f (take i d.rows) ++ l) (keep-free r t) ∙ append-nil _ in
          record { whole = c.whole; room = omega (arith, c.room); put = rw next c.put; desk = rw next c.desk }

    module _ (h : desk_rows ≤ i) where
      passed : take i d.rows ≡ d.rows
      passed = take_all i d.rows (omega (arith, c.whole))

      put_whole : length (kept f d.rows) ≡ n
      put_whole = rw passed at c.put

      closed-rows : closed ≡ with_rows (edited f d.rows) d
      unfolding edited close_up
      closed-rows =
          let size : desk_rows - n ≡ length (map f d.rows) - count marked (map f d.rows) = omega (arith, length-map d.rows f, c.whole, length-keep marked (map f d.rows), put_whole) in
          rw size at (rw passed at c.desk)

      place : count marked (edited f d.rows) ≡ n
      unfolding edited close_up
      place =
          count-append marked (kept f d.rows) (replicate (length (map f d.rows) - count marked (map f d.rows)) free_row)
          ∙ omega (arith, count-all marked (kept f d.rows) (all-kept marked (map f d.rows)), count-replicate marked (length (map f d.rows) - count marked (map f d.rows)) free_row refl, put_whole)

      pub closing_end : (closed ≡ changed f d) × (n ≡ count marked closed.rows)
      unfolding changed
      closing_end = (closed-rows, sym place ∙ ap (λ (x : Desk). count marked x.rows) (sym closed-rows))

-- a row put behind those of a desk that is closed up is added last, and nowhere where the desk is full
module _ (f : Row → Row) (d : Desk) {closed : Desk} {n : ℕ} (c : (closed ≡ changed f d) × (n ≡ count marked closed.rows)) (r : Row) where
  pub put-last : with_rows (set closed.rows n r) closed ≡ with_rows (added_last r (edited f d.rows)) d
  unfolding changed
  put-last = rw c.1 (ap (λ (x : Desk). with_rows (added_last r x.rows) x) c.0)

  pub put-nowhere : length closed.rows ≡ desk_rows → desk_rows ≤ n → closed ≡ with_rows (added_last r (edited f d.rows)) d
  put-nowhere all full = ap (λ rows. with_rows rows closed) (sym (set_out closed.rows n r (omega arith))) ∙ put-last

-- Rows that are closed up, marked rows and then free ones: what stands from the first free row on, and how a row at a place is changed or goes.
-- Assumes nothing.
use mathlib.Core.Bool.{Bool, true, false}
use mathlib.Core.List.{List, [], ◌∷◌, ◌++◌, map, map-append, append-nil}
use mathlib.Core.Logic.{⊎_elim}
use mathlib.Core.Path.{◌≡◌, refl, ap, ap₂, sym, ◌∙◌}
use Prim.Native.Nat.{ℕ, zero, suc, ◌+◌, ◌-◌, ◌≤◌, ◌<◌}
use native.Mathlib.Omega.{arith}
use lib.Dec.{eqb}
use native.Mathlib.Nat.{zero-add, sub-zero, zero-sub, suc-sub-suc}
use lib.ListN.{length, get_or, take, drop, set, replicate, take-append-drop, length-append, replicate-append-replicate, get_or-append, drop_of_length-le}
use lib.Seq.{take_all, length-take-le, take_at, set_at, set_out, append_snoc, get_or-append-add, get_or_at, get_or-drop, drop-append-le, drop-drop}
use borrow.Author.Tests.{eq-eqb, eqb-true}
use Rattle.definitions.specs.declared.Row.{Row}
use Rattle.definitions.specs.declared.Desk.{Desk}
use Rattle.definitions.specs.Codes.{desk_rows, free_mark, open_mark, cancelled_mark}
use Rattle.definitions.specs.Lists.{all, keep, count}
use Rattle.definitions.specs.Sound.{marked}
use Rattle.definitions.specs.Desks.{free_row, in_minute, is_open, cancelled_in_minute, open_or_in_minute, expired_row, close_up, edited, with_rows, added_last}
use Rattle.definitions.proofs.Lists.{take_next, drop-next}
use Rattle.definitions.proofs.Tests.{never, and_parts, or_cases}
use Rattle.definitions.proofs.Rows.{all_append, all-kept, all-weaken, length-keep, count-le, count-all, count-append, count-replicate}
use Rattle.desks.specs.Place.{removed_at}

free-unmarked : (r : Row) → r.mark ≡ free_mark → marked r ≡ false
free-unmarked r free = rw (eq-eqb r.mark free_mark free)

drop-free : (n i : ℕ) → drop i (replicate n free_row) ≡ replicate (n - i) free_row
drop-free n zero = ap (λ (m : ℕ). replicate m free_row) (sym (sub-zero n))
drop-free zero (suc i) = ap (λ (m : ℕ). replicate m free_row) (sym (zero-sub (suc i)))
drop-free (suc n) (suc i) = drop-free n i ∙ ap (λ (m : ℕ). replicate m free_row) (sym (suc-sub-suc n i))

behind : (front : List Row) (n i : ℕ) (z : Row) → all marked front ≡ true → marked (get_or (front ++ replicate n free_row) i z) ≡ false
    → drop i (front ++ replicate n free_row) ≡ replicate (length front + n - i) free_row
unfolding all
behind [] n i z h free = drop-free n i ∙ ap (λ (m : ℕ). replicate (m - i) free_row) (sym (zero-add n))
behind (r ∷ rs) n zero z h free = never (and_parts (marked r) (all marked rs) h).0 free
behind (r ∷ rs) n (suc i) z h free =
    let less : length rs + n - i ≡ suc (length rs) + n - suc i = omega arith in
    behind rs n i z (and_parts (marked r) (all marked rs) h).1 free ∙ ap (λ (m : ℕ). replicate m free_row) less

module _ (rows : List Row) (closed : close_up rows ≡ rows) where
  -- from the first free row on all rows are free
  pub free-rows-from : (i : ℕ) (z : Row) → (get_or rows i z).mark ≡ free_mark → drop i rows ≡ replicate (length rows - i) free_row
  unfolding close_up
  free-rows-from i z free =
      let front = keep marked rows in
      let n = length rows - count marked rows in
      let size : length front + n ≡ length rows = omega (arith, length-keep marked rows, count-le marked rows) in
      let unmarked : marked (get_or (front ++ replicate n free_row) i z) ≡ false = rw closed (free-unmarked (get_or rows i z) free) in
      ap (drop i) (sym closed) ∙ behind front n i z (all-kept marked rows) unmarked ∙ ap (λ (m : ℕ). replicate (m - i) free_row) size

-- x written over rows, up to a place
module _ (x rows : List Row) (i : ℕ) (same : length x ≡ length rows) (h : i < length rows) where
  written : (z : Row) → set (take i x ++ drop i rows) i (get_or x i z) ≡ take (i + 1) x ++ drop (i + 1) rows
  written z =
      ap (λ l. set (take i x ++ l) i (get_or x i z)) (drop-next rows i z h)
      ∙ set_at (take i x) (get_or rows i z) (drop (i + 1) rows) (get_or x i z) i (length-take-le i x (omega (arith, same)))
      ∙ sym (append_snoc (take i x) (get_or x i z) (drop (i + 1) rows))
      ∙ ap (λ l. l ++ drop (i + 1) rows) (sym (take_next x i z (omega (arith, same))))

  ahead : (z : Row) → get_or (take i x ++ drop i rows) (i + 1) z ≡ get_or rows (i + 1) z
  ahead z =
      let size : length (take i x) ≡ i = length-take-le i x (omega (arith, same)) in
      ap (λ (j : ℕ). get_or (take i x ++ drop i rows) (j + 1) z) (sym size) ∙ get_or-append-add (take i x) (drop i rows) 1 z ∙ get_or-drop i rows 1 z

-- a row goes
next_of : (rows : List Row) (place i : ℕ) (z : Row) → place ≤ i → suc i < length rows → get_or (removed_at place rows) i z ≡ get_or rows (suc i) z
unfolding removed_at
next_of [] place i z from h = absurd (omega (arith, h))
next_of (r ∷ rs) zero i z from h = get_or-append rs (free_row ∷ []) z i (omega (arith, h))
next_of (r ∷ rs) (suc place) zero z from h = absurd (omega (arith, from))
next_of (r ∷ rs) (suc place) (suc i) z from h = next_of rs place i z (omega (arith, from)) (omega (arith, h))

last_of : (rows : List Row) (place i : ℕ) (z : Row) → place ≤ i → suc i ≡ length rows → get_or (removed_at place rows) i z ≡ free_row
unfolding removed_at
last_of [] place i z from h = absurd (omega (arith, h))
last_of (r ∷ rs) zero i z from h = get_or_at rs free_row [] z i (omega (arith, h))
last_of (r ∷ rs) (suc place) zero z from h = absurd (omega (arith, from))
last_of (r ∷ rs) (suc place) (suc i) z from h = last_of rs place i z (omega (arith, from)) (omega (arith, h))

length_removed : (rows : List Row) (place : ℕ) → place < length rows → length (removed_at place rows) ≡ length rows
unfolding removed_at
length_removed [] place h = absurd (omega (arith, h))
length_removed (r ∷ rs) zero h = length-append rs (free_row ∷ []) ∙ omega arith
length_removed (r ∷ rs) (suc place) h = ap suc (length_removed rs place (omega (arith, h)))

rest_of : (rows : List Row) (place i : ℕ) → place ≤ i → i < length rows → drop i (removed_at place rows) ≡ drop (suc i) rows ++ (free_row ∷ [])
unfolding removed_at
rest_of [] place i from h = absurd (omega (arith, h))
rest_of (r ∷ rs) zero i from h = drop-append-le i rs (free_row ∷ []) (omega (arith, h))
rest_of (r ∷ rs) (suc place) zero from h = absurd (omega (arith, from))
rest_of (r ∷ rs) (suc place) (suc i) from h = rest_of rs place i (omega (arith, from)) (omega (arith, h))

-- A loop that removes the row at a place: the rows up to i are those that are left, the others as they were.
pub record Removing (place : ℕ) (before after : Desk) (i : ℕ) : Type 0 where
  pub whole : length before.rows ≡ desk_rows
  pub closed : close_up before.rows ≡ before.rows
  pub from : place ≤ i
  pub within : i < desk_rows
  pub desk : after ≡ with_rows (take i (removed_at place before.rows) ++ drop i before.rows) before

module _ {place : ℕ} {before : Desk} where
  pub removing-start : length before.rows ≡ desk_rows → place < desk_rows → close_up before.rows ≡ before.rows → Removing place before before place
  unfolding removed_at
  removing-start whole h closed =
      let rows = before.rows in
      let kept : take place (take place rows ++ (drop (suc place) rows ++ (free_row ∷ []))) ≡ take place rows = take_at (take place rows) _ place (length-take-le place rows (omega (arith, whole))) in
      record {
        whole = whole;
        closed = closed;
        from = omega arith;
        within = h;
        desk = ap (λ l. with_rows l before) (sym (ap (λ l. l ++ drop place rows) kept ∙ take-append-drop place rows));
      }

  module _ {after : Desk} {i : ℕ} (c : Removing place before after i) where
    abbrev rows : List Row
    rows = before.rows

    abbrev left : List Row
    left = removed_at place rows

    same : length left ≡ length rows
    same = length_removed rows place (omega (arith, c.whole, c.from, c.within))

    put : (z : Row) {r : Row} → r ≡ get_or left i z → with_rows (set after.rows i r) after ≡ with_rows (take (i + 1) left ++ drop (i + 1) rows) before
    put z {r} e =
        ap (λ (x : Desk). with_rows (set x.rows i r) x) c.desk
        ∙ ap (λ l. with_rows l before) (ap (set (take i left ++ drop i rows) i) e ∙ written left rows i same (omega (arith, c.whole, c.within)) z)

    module _ (h : i + 1 < desk_rows) (z : Row) {next : Row} (e : next ≡ get_or after.rows (i + 1) z) where
      from-rows : next ≡ get_or rows (i + 1) z
      from-rows = e ∙ ap (λ (x : Desk). get_or x.rows (i + 1) z) c.desk ∙ ahead left rows i same (omega (arith, c.whole, c.within)) z

      moved : next ≡ get_or left i z
      moved =
          let next_place : i + 1 ≡ suc i = omega arith in
          from-rows ∙ ap (λ (j : ℕ). get_or rows j z) next_place ∙ sym (next_of rows place i z c.from (omega (arith, c.whole)))

      pub removing-next : Removing place before (with_rows (set after.rows i next) after) (i + 1)
      removing-next = record { whole = c.whole; closed = c.closed; from = omega (arith, c.from); within = h; desk = put z moved }

      -- the row that moved up is free: so are all after it
      pub removing-free : next.mark ≡ free_mark → with_rows (set after.rows i next) after ≡ with_rows left before
      removing-free free =
          let n = length rows - (i + 1) in
          let one : n - 1 + 1 ≡ n = omega (arith, c.whole) in
          let after_next : suc (i + 1) ≡ i + 1 + 1 = omega arith in
          let tail : drop (i + 1) rows ≡ replicate n free_row = free-rows-from rows c.closed (i + 1) z (ap (λ (r : Row). r.mark) (sym from-rows) ∙ free) in
          let rest : drop (i + 1) left ≡ replicate n free_row =
          rest_of rows place (i + 1) (omega (arith, c.from)) (omega (arith, c.whole))
          ∙ ap (λ l. l ++ (free_row ∷ [])) (ap (λ (j : ℕ). drop j rows) after_next ∙ sym (drop-drop 1 (i + 1) rows) ∙ ap (drop 1) tail ∙ drop-free n 1)
          ∙ replicate-append-replicate (n - 1) 1 free_row
          ∙ ap (λ (m : ℕ). replicate m free_row) one in
          put z moved ∙ ap (λ l. with_rows l before) (ap (λ l. take (i + 1) left ++ l) (tail ∙ sym rest) ∙ take-append-drop (i + 1) left)

    pub removing-end : desk_rows ≤ i + 1 → (z : Row) {r : Row} → r ≡ free_row → with_rows (set after.rows (desk_rows - 1) r) after ≡ with_rows left before
    removing-end h z {r} e =
        let past : length rows ≤ i + 1 = omega (arith, c.whole) in
        let last : desk_rows - 1 ≡ i = omega (arith, c.within) in
        ap (λ (j : ℕ). with_rows (set after.rows j r) after) last
        ∙ put z (e ∙ sym (last_of rows place i z c.from (omega (arith, c.whole, c.within))))
        ∙ ap (λ l. with_rows l before) (rw (take_all (i + 1) left (omega (arith, same)), drop_of_length-le rows past, append-nil))

-- A loop that looks for an order's place: none of the rows before i has gone.
pub record Placing (clock : ℕ) (rows : List Row) (i : ℕ) : Type 0 where
  pub whole : length rows ≡ desk_rows
  pub closed : close_up rows ≡ rows
  pub within : i ≤ desk_rows
  pub kept : all (open_or_in_minute clock) (take i rows) ≡ true

-- an open row, or one cancelled in the minute
module _ (clock : ℕ) (r : Row) (kept : open_or_in_minute clock r ≡ true) where
  by-mark : (P : Type 0) → (r.mark ≡ open_mark → P) → (r.mark ≡ cancelled_mark → in_minute clock r.cancel_time ≡ true → P) → P
  by-mark P at_open at-cancelled =
      ⊎_elim (λ e. at_open (eqb-true r.mark open_mark e))
      (λ e. let parts = and_parts (eqb r.mark cancelled_mark) (in_minute clock r.cancel_time) e in at-cancelled (eqb-true r.mark cancelled_mark parts.0) parts.1)
      (or_cases (is_open r) (cancelled_in_minute clock r) kept)

  pub in-minute-marked : marked r ≡ true
  in-minute-marked = by-mark (marked r ≡ true) (λ m. rw m) (λ m t. rw m)

  in-minute-stays : expired_row clock r ≡ r
  in-minute-stays = by-mark (expired_row clock r ≡ r) (λ m. rw m) (λ m t. rw (m, t))

map_same : (f : Row → Row) (p : Row → Bool) → ((r : Row) → p r ≡ true → f r ≡ r) → (rows : List Row) → all p rows ≡ true → map f rows ≡ rows
unfolding all
map_same f p h [] e = refl
map_same f p h (r ∷ rs) e =
    let parts = and_parts (p r) (all p rs) e in
    ap₂ (λ (x : Row) (xs : List Row). x ∷ xs) (h r parts.0) (map_same f p h rs parts.1)

map-free : (f : Row → Row) → f free_row ≡ free_row → (n : ℕ) → map f (replicate n free_row) ≡ replicate n free_row
map-free f h zero = refl
map-free f h (suc n) = ap₂ (λ (x : Row) (xs : List Row). x ∷ xs) h (map-free f h n)

module _ {clock : ℕ} where
  pub placing-start : {rows : List Row} → length rows ≡ desk_rows → close_up rows ≡ rows → Placing clock rows 0
  unfolding all
  placing-start whole closed = record { whole = whole; closed = closed; within = omega arith; kept = refl }

  module _ {rows : List Row} {i : ℕ} (c : Placing clock rows i) where
    pub placing-next : i < desk_rows → (z : Row) {r : Row} → r ≡ get_or rows i z → open_or_in_minute clock r ≡ true → Placing clock rows (i + 1)
    unfolding all
    placing-next h z {r} e kept =
        let next : take (i + 1) rows ≡ take i rows ++ (r ∷ []) = take_next rows i z (omega (arith, c.whole)) ∙ ap (λ (x : Row). take i rows ++ (x ∷ [])) (sym e) in
        record { whole = c.whole; closed = c.closed; within = omega arith; kept = rw next (all_append (open_or_in_minute clock) (take i rows) (r ∷ []) c.kept (rw kept)) }

    -- the rows before i are open or in their minute, and those from i on are free: none goes, and i is the place of a new row
    none-gone : drop i rows ≡ replicate (desk_rows - i) free_row → (r : Row) → set rows i r ≡ added_last r (edited (expired_row clock) rows)
    unfolding edited
    none-gone tail r =
        let front = take i rows in
        let n = desk_rows - i in
        let split : front ++ replicate n free_row ≡ rows = ap (λ l. front ++ l) (sym tail) ∙ take-append-drop i rows in
        let same : map (expired_row clock) rows ≡ rows =
        ap (map (expired_row clock)) (sym split)
        ∙ map-append (expired_row clock) front (replicate n free_row)
        ∙ ap₂ (λ (a b : List Row). a ++ b) (map_same (expired_row clock) (open_or_in_minute clock) (in-minute-stays clock) front c.kept) (map-free (expired_row clock) refl n)
        ∙ split in
        let marks : count marked rows ≡ i =
        ap (count marked) (sym split)
        ∙ count-append marked front (replicate n free_row)
        ∙ omega (arith, count-all marked front (all-weaken (open_or_in_minute clock) marked (in-minute-marked clock) front c.kept), length-take-le i rows (omega (arith, c.whole, c.within)), count-replicate marked n free_row refl) in
        ap (λ (k : ℕ). set rows k r) (sym marks) ∙ ap (added_last r) (sym (ap close_up same ∙ c.closed))

    pub placing-free : i < desk_rows → (z : Row) → (get_or rows i z).mark ≡ free_mark → (r : Row) → set rows i r ≡ added_last r (edited (expired_row clock) rows)
    placing-free h z free r =
        none-gone (free-rows-from rows c.closed i z free ∙ ap (λ (m : ℕ). replicate (m - i) free_row) c.whole) r

    pub placing-full : desk_rows ≤ i → (r : Row) → rows ≡ added_last r (edited (expired_row clock) rows)
    placing-full h r =
        let none : desk_rows - i ≡ 0 = omega (arith, h) in
        sym (set_out rows i r (omega (arith, c.whole)))
        ∙ none-gone (drop_of_length-le rows {i = i} (omega (arith, c.whole)) ∙ ap (λ (m : ℕ). replicate m free_row) (sym none)) r

-- Laws of a desk's rows as they are tested: those that lead one by one, the rest as words.
-- Assumes nothing.
use mathlib.Core.Bool.{Bool, true, false, cond, ◌&&◌, ◌||◌, not, or-false, and-true, and-false, and_assoc}
use mathlib.Core.List.{List, [], ◌∷◌, ◌++◌}
use mathlib.Core.Logic.{⊎_elim}
use mathlib.Core.Path.{◌≡◌, refl, ap, ap₂, sym, ◌∙◌}
use Prim.Native.Nat.{ℕ, zero, suc, ◌+◌, ◌-◌, ◌*◌, ◌≤◌, ◌<◌}
use native.Mathlib.Nat.{zero-add, suc-add}
use native.Mathlib.Numerals.{add-one}
use native.Mathlib.Omega.{arith}
use lib.Bits.{bit_or, or_add_and, and_le_l, and_le_r}
use lib.Dec.{ltb, eqb}
use lib.ListN.{length, get_or, take, drop, replicate, length-drop}
use lib.Seq.{take_all, drop-drop}
use borrow.Author.Tests.{lt-ltb, le-ltb, ltb-true, ne_eqb, eq-eqb, eqb-true, not-true, not-false}
use Rattle.definitions.specs.declared.Row.{Row}
use Rattle.definitions.specs.Codes.{desk_rows}
use Rattle.definitions.specs.Desks.{free_row}
use Rattle.definitions.specs.Lists.{any, all, part}
use Rattle.definitions.specs.State.{row_size, counters_size, desk_size, header_of, row_of, row_words, rows_of, rows_words, desk_place, desk_of, desk_at}
use Rattle.definitions.specs.Gate.{sound_desk_at}
use Rattle.definitions.specs.Sound.{marked, numbered, all_zero, sound_marked, sound_row, marked_first, numbers_differ, sound_desk}
use Rattle.definitions.proofs.Words.{drop-take}
use Rattle.definitions.proofs.Records.{rows_write}
use Rattle.definitions.proofs.Tests.{never, and_parts, and-whole, and_second, or-first, or-second, or_parts, or_cases, EachTrue, joined-parts}
use Rattle.definitions.proofs.Rows.{all_append, differ-last, all-weaken, any_append}
use Rattle.definitions.proofs.SoundRow.{marked-true, zero-free, state-marked, unmarked-free}
use Rattle.definitions.proofs.SoundDesk.{sound-closed}
use Rattle.state_records.proofs.SearchLaws.{row_word}
use Rattle.state_soundness.specs.Tested.{equals, has_number, follows, Leading, sound_rows}
use Rattle.state_records.proofs.Laws.{part-is, rows-suc}

-- two tests of which each follows from the other
same : (a b : Bool) → (a ≡ true → b ≡ true) → (b ≡ true → a ≡ true) → a ≡ b
same true b f g = sym (f refl)
same false true f g = g refl
same false false f g = refl

-- all of lists put together
all_join : {A : Type 0} (p : A → Bool) (xs ys : List A) → all p (xs ++ ys) ≡ (all p xs && all p ys)
unfolding all
all_join p [] ys = refl
all_join p (x ∷ xs) ys = rw (all_join p xs ys) (sym (and_assoc (p x) (all p xs) (all p ys)))

-- none that passes a test, where none passes one that follows from it
any-less : {A : Type 0} (p q : A → Bool) → ((x : A) → p x ≡ true → q x ≡ true) → (xs : List A) → any q xs ≡ false → any p xs ≡ false
unfolding any
any-less p q less [] none = refl
any-less p q less (x ∷ xs) none =
    let parts = or_parts (q x) (any q xs) none in
    go (p x) refl parts.0 (any-less p q less xs parts.1)
  where
    go : (t : Bool) → p x ≡ t → q x ≡ false → any p xs ≡ false → (t || any p xs) ≡ false
    go true e not-q rest = never (less x e) not-q
    go false e not-q rest = rest

-- words OR-ed together are 0 if each is
or-zero : (a b : ℕ) → eqb (bit_or a b) 0 ≡ (eqb a 0 && eqb b 0)
or-zero a b = same (eqb (bit_or a b) 0) (eqb a 0 && eqb b 0) apart together
  where
    apart : eqb (bit_or a b) 0 ≡ true → (eqb a 0 && eqb b 0) ≡ true
    apart e =
        let none : bit_or a b ≡ 0 = eqb-true (bit_or a b) 0 e in
        and-whole (eq-eqb a 0 (omega (arith, none, or_add_and a b, and_le_r a b))) (eq-eqb b 0 (omega (arith, none, or_add_and a b, and_le_l a b)))

    together : (eqb a 0 && eqb b 0) ≡ true → eqb (bit_or a b) 0 ≡ true
    together e =
        let parts = and_parts (eqb a 0) (eqb b 0) e in
        eq-eqb (bit_or a b) 0 (omega (arith, eqb-true a 0 parts.0, eqb-true b 0 parts.1, or_add_and a b))

-- one word more of those that are OR-ed together
pub zero-next : (ws : List ℕ) (bits w : ℕ) {more : ℕ} → eqb bits 0 ≡ all (equals 0) ws → more ≡ bit_or bits w → eqb more 0 ≡ all (equals 0) (ws ++ (w ∷ []))
unfolding all
zero-next ws bits w so_far e = rw (e, or-zero bits w, so_far, all_join (equals 0) ws (w ∷ []), and-true)

-- the rows of words: the first n, and the m after them
rows_split : (n m : ℕ) (w : List ℕ) → rows_of (n + m) w ≡ rows_of n w ++ rows_of m (drop (row_size * n) w)
unfolding rows_of
rows_split zero m w = rw zero-add
rows_split (suc n) m w =
    let further : row_size + row_size * n ≡ row_size * suc n = omega arith in
    rw (suc-add n m, rows_split n m (drop row_size w), drop-drop (row_size * n) row_size w, further)

row_number : (i : ℕ) (w : List ℕ) → (row_of (take row_size (drop (row_size * i) w))).number ≡ get_or w (row_size * i + 1) 0
unfolding row_of
row_number i w = row_word w i 1 (omega arith)

-- a loop that looks for a number among the first rows
pub record NoneSoFar (w : List ℕ) (count number i : ℕ) : Type 0 where
  pub none : any (has_number number) (rows_of i w) ≡ false
  pub to : i ≤ count

pub none-start : {w : List ℕ} {count number : ℕ} → NoneSoFar w count number 0
unfolding rows_of any
none-start = record { none = refl; to = omega arith }

module _ {w : List ℕ} {count number i : ℕ} (inv : NoneSoFar w count number i) where
  pub none-next : i < count → (get_or w (row_size * i + 1) 0 ≡ number → ⊥) → NoneSoFar w count number (i + 1)
  unfolding any
  none-next h other =
      let differs : has_number number (row_of (take row_size (drop (row_size * i) w))) ≡ false = ne_eqb _ _ (λ e. other (sym (row_number i w) ∙ e)) in
      record {
        none = rw (add-one i, rows-suc i w, any_append (has_number number) (rows_of i w) (row_of (take row_size (drop (row_size * i) w)) ∷ []), inv.none, differs);
        to = omega arith;
      }

  pub none_found : i < count → get_or w (row_size * i + 1) 0 ≡ number → true ≡ any (has_number number) (rows_of count w)
  unfolding any rows_of
  none_found h this =
      let left : ℕ = count - i - 1 in
      let whole : count ≡ i + suc left = omega arith in
      let rest : List ℕ = drop (row_size * i) w in
      let found : has_number number (row_of (take row_size rest)) ≡ true = eq-eqb _ _ (row_number i w ∙ this) in
      sym (ap (λ (k : ℕ). any (has_number number) (rows_of k w)) whole
      ∙ ap (any (has_number number)) (rows_split i (suc left) w)
      ∙ any_append (has_number number) (rows_of i w) (rows_of (suc left) rest)
      ∙ rw (inv.none, found))

  pub none_end : count ≤ i → false ≡ any (has_number number) (rows_of count w)
  none_end h = let end : i ≡ count = omega (arith, inv.to) in sym (rw end at inv.none)

-- the rows that lead, as a loop passes them: none has a number above the largest
abbrev above : ℕ → Row → Bool
above largest r = ltb largest r.number

pub record Led (securities clock : ℕ) (w : List ℕ) (largest i : ℕ) : Type 0 where
  pub to : i ≤ desk_rows
  pub sound : all (sound_marked securities clock) (rows_of i w) ≡ true
  pub differ : numbers_differ (rows_of i w) ≡ true
  pub most : any (above largest) (rows_of i w) ≡ false

pub led-none : {securities clock : ℕ} {w : List ℕ} → Led securities clock w 0 0
unfolding rows_of all any numbers_differ
led-none = record { to = omega arith; sound = refl; differ = refl; most = refl }

-- row i, as the code reads it
abbrev row_read : ℕ → List ℕ → Row
row_read i w = row_of (take (row_size * i + row_size - row_size * i) (drop (row_size * i) w))

row_is : {r : Row} (i : ℕ) (w : List ℕ) → r ≡ row_read i w → r ≡ row_of (part w (row_size * i) row_size)
row_is i w e = e ∙ ap row_of (part-is w (row_size * i) row_size refl)

module _ {securities clock : ℕ} {w : List ℕ} {largest i : ℕ} (inv : Led securities clock w largest i) where
  -- a number above the largest is none of theirs
  pub led-new : (n : ℕ) → largest < n → any (has_number n) (rows_of i w) ≡ false
  led-new n larger =
      any-less (has_number n) (above largest) (λ x e. lt-ltb largest x.number (omega (arith, larger, eqb-true x.number n e))) (rows_of i w) inv.most

  pub led-next : {r : Row} {more : ℕ} → i < desk_rows → r ≡ row_read i w → sound_marked securities clock r ≡ true
      → any (has_number r.number) (rows_of i w) ≡ false → largest ≤ more → r.number ≤ more → Led securities clock w more (i + 1)
  unfolding all any part
  led-next {r} {more} h e sound new grows within =
      let rows : rows_of (i + 1) w ≡ rows_of i w ++ (r ∷ []) = rw (add-one i, row_is i w e) (rows-suc i w) in
      record {
        to = omega arith;
        sound = rw rows (all_append (sound_marked securities clock) (rows_of i w) (r ∷ []) inv.sound (and-whole sound refl));
        differ = rw rows (differ-last (rows_of i w) r inv.differ (any-less (numbered r.number) (has_number r.number) (λ x f. (and_parts (marked x) (has_number r.number x) f).1) (rows_of i w) new));
        most =
            rw (rows, any_append (above more) (rows_of i w) (r ∷ []), le-ltb more r.number within, or-false)
            (any-less (above more) (above largest) (λ x f. lt-ltb largest x.number (omega (arith, grows, ltb-true more x.number f))) (rows_of i w) inv.most);
      }

  pub led-stop : {r : Row} → r ≡ row_read i w → follows securities clock (rows_of i w) r ≡ false → Leading securities clock w i
  led-stop e last = record { to = inv.to; sound = inv.sound; differ = inv.differ; next = λ _. rw (row_is i w e) at last }

  pub led-end : desk_rows ≤ i → Leading securities clock w desk_rows
  led-end h =
      let end : i ≡ desk_rows = omega (arith, inv.to) in
      let lead : Leading securities clock w i = record { to = inv.to; sound = inv.sound; differ = inv.differ; next = λ below. absurd (omega (arith, h, below)) } in
      rw end at lead

-- rows that are all zero, as words
zero-rows : (n : ℕ) (w : List ℕ) → length w ≡ row_size * n → all (equals 0) w ≡ all all_zero (rows_of n w)
unfolding all rows_words
zero-rows n w h = ap (all (equals 0)) (sym (rows_write n w h)) ∙ go (rows_of n w)
  where
    go : (rs : List Row) → all (equals 0) (rows_words rs) ≡ all all_zero rs
    go [] = refl
    go (r ∷ rs) = all_join (equals 0) (row_words r) (rows_words rs) ∙ rw (go rs)

zeros-free : (rs : List Row) → all all_zero rs ≡ true → rs ≡ replicate (length rs) free_row
unfolding all
zeros-free [] z = refl
zeros-free (r ∷ rs) z =
    let parts = and_parts (all_zero r) (all all_zero rs) z in
    ap₂ (λ (x : Row) (xs : List Row). x ∷ xs) (zero-free r parts.0) (zeros-free rs parts.1)

-- marked rows before others: these stand first where the others do, and no number of theirs may come again
first-behind : (front rest : List Row) → all marked front ≡ true → marked_first (front ++ rest) ≡ marked_first rest
unfolding marked_first all
first-behind [] rest m = refl
first-behind (f ∷ fs) rest m =
    let parts = and_parts (marked f) (all marked fs) m in
    rw parts.0 (first-behind fs rest parts.1)

twice : (front : List Row) (r : Row) (rs : List Row) → all marked front ≡ true → marked r ≡ true → any (has_number r.number) front ≡ true → numbers_differ (front ++ (r ∷ rs)) ≡ false
unfolding numbers_differ all any
twice [] r rs m mark held = never held refl
twice (f ∷ fs) r rs m mark held =
    let parts = and_parts (marked f) (all marked fs) m in
    ⊎_elim
    (λ e.
    let again : any (numbered f.number) (fs ++ (r ∷ rs)) ≡ true =
    any_append (numbered f.number) fs (r ∷ rs) ∙ or-second (any (numbered f.number) fs) (or-first (any (numbered f.number) rs) (and-whole mark (eq-eqb r.number f.number (sym (eqb-true f.number r.number e))))) in
    rw (parts.0, again))
    (λ e. rw (twice fs r rs parts.1 mark e, and-false))
    (or_cases (has_number r.number f) (any (has_number r.number) fs) held)

module _ (securities clock : ℕ) where
  sound-mark : (r : Row) → sound_marked securities clock r ≡ true → marked r ≡ true
  sound-mark r e = state-marked clock r (marked-true securities clock r e).state

  -- sound rows of which none is marked
  unmarked-zero : (rs : List Row) → all (sound_row securities clock) rs ≡ true → any marked rs ≡ false → all all_zero rs ≡ true
  unfolding all any row_words
  unmarked-zero [] sound none = refl
  unmarked-zero (r ∷ rs) sound none =
      let parts = and_parts (sound_row securities clock r) (all (sound_row securities clock) rs) sound in
      let free = or_parts (marked r) (any marked rs) none in
      let zero-words : all_zero r ≡ true = rw (unmarked-free securities clock r parts.0 free.0) in
      and-whole zero-words (unmarked-zero rs parts.1 free.1)

  -- rows that lead, and the rest: the rest is all zero exactly where all are sound
  module _ (front : List Row) (sound : all (sound_marked securities clock) front ≡ true) (differ : numbers_differ front ≡ true) where
    lead-marked : all marked front ≡ true
    lead-marked = all-weaken (sound_marked securities clock) marked sound-mark front sound

    rest-zero : (rest : List Row) → all all_zero rest ≡ true → sound_rows securities clock (front ++ rest) ≡ true
    unfolding sound_row
    rest-zero rest z =
        let each : all (sound_row securities clock) front ≡ true = all-weaken (sound_marked securities clock) (sound_row securities clock) (λ r e. or-second (all_zero r) e) front sound in
        let All-sound = sound-closed securities clock front (length rest) each lead-marked differ in
        rw (zeros-free rest z) (and-whole (and-whole All-sound.each All-sound.first) All-sound.differ)

    rest-sound : (r : Row) (rs : List Row) → follows securities clock front r ≡ false → sound_rows securities clock (front ++ (r ∷ rs)) ≡ true → all all_zero (r ∷ rs) ≡ true
    unfolding marked_first sound_row any all
    rest-sound r rs last tests = go (marked r) refl (rw (first-behind front (r ∷ rs) lead-marked) at p.1.0)
      where
        p : (all (sound_row securities clock) (front ++ (r ∷ rs)) ≡ true) × EachTrue (marked_first (front ++ (r ∷ rs)) ∷ numbers_differ (front ++ (r ∷ rs)) ∷ [])
        p = joined-parts (all (sound_row securities clock) (front ++ (r ∷ rs))) (marked_first (front ++ (r ∷ rs)) ∷ numbers_differ (front ++ (r ∷ rs)) ∷ []) tests

        each : all (sound_row securities clock) (r ∷ rs) ≡ true
        each = (and_parts (all (sound_row securities clock) front) (all (sound_row securities clock) (r ∷ rs)) (sym (all_join (sound_row securities clock) front (r ∷ rs)) ∙ p.0)).1

        -- a marked row is sound, so its number stands before it
        again : marked r ≡ true → sound_marked securities clock r ≡ true → numbers_differ (front ++ (r ∷ rs)) ≡ false
        again mark s = twice front r rs lead-marked mark (not-false (any (has_number r.number) front) (and_second (sound_marked securities clock r) (not (any (has_number r.number) front)) last s))

        go : (t : Bool) → marked r ≡ t → cond t (marked_first rs) (not (any marked rs)) ≡ true → all all_zero (r ∷ rs) ≡ true
        go true mark first =
            ⊎_elim (λ z. let free : marked r ≡ false = rw (zero-free r z) in never mark free) (λ s. never p.1.1.0 (again mark s))
            (or_cases (all_zero r) (sound_marked securities clock r) (and_parts (sound_row securities clock r) (all (sound_row securities clock) rs) each).0)
        go false mark first = unmarked-zero (r ∷ rs) each (rw mark (not-true (any marked rs) first))

    rest-tested : (m : ℕ) (v : List ℕ) → (0 < m → follows securities clock front (row_of (take row_size v)) ≡ false) → all all_zero (rows_of m v) ≡ sound_rows securities clock (front ++ rows_of m v)
    unfolding rows_of all
    rest-tested zero v next = sym (rest-zero [] refl)
    rest-tested (suc m) v next =
        let rest : List Row = rows_of (suc m) v in
        same (all all_zero rest) (sound_rows securities clock (front ++ rest)) (rest-zero rest) (rest-sound (row_of (take row_size v)) (rows_of m (drop row_size v)) (next (omega arith)))

-- the test of the words behind the rows that lead is the definition's test of all rows
pub rows-tested : {securities clock n : ℕ} {w : List ℕ} {free : Bool} → length w ≡ row_size * desk_rows → Leading securities clock w n
    → free ≡ all (equals 0) (take (row_size * desk_rows - row_size * n) (drop (row_size * n) w)) → free ≡ sound_rows securities clock (rows_of desk_rows w)
unfolding part
rows-tested {securities} {clock} {n} {w} size lead e =
    let words : List ℕ = drop (row_size * n) w in
    let left : length words ≡ row_size * (desk_rows - n) = length-drop (row_size * n) w ∙ (omega (arith, lead.to)) in
    let whole : n + (desk_rows - n) ≡ desk_rows = omega (arith, lead.to) in
    e
    ∙ ap (all (equals 0)) (take_all (row_size * desk_rows - row_size * n) words (omega (arith, left)))
    ∙ zero-rows (desk_rows - n) words left
    ∙ rest-tested securities clock (rows_of n w) lead.sound lead.differ (desk_rows - n) words (λ some. lead.next (omega (arith, some)))
    ∙ ap (λ (rs : List Row). sound_rows securities clock rs) (sym (rows_split n (desk_rows - n) w) ∙ ap (λ (k : ℕ). rows_of k w) whole)

-- a desk's rows in the words of the state
pub desk-tested : (w : List ℕ) (k : ℕ) {from : ℕ} {sound : Bool} → from ≡ desk_place (header_of w).securities k
    → sound ≡ sound_rows (header_of w).securities (header_of w).clock (rows_of desk_rows (take (from + counters_size + row_size * desk_rows - (from + counters_size)) (drop (from + counters_size) w))) → sound ≡ sound_desk_at w k
unfolding sound_desk desk_at desk_of part
desk-tested w k {from} e f =
    let place : ℕ = desk_place (header_of w).securities k in
    let words : List ℕ = drop place w in
    let size : from + counters_size + row_size * desk_rows - (from + counters_size) ≡ row_size * desk_rows = omega arith in
    let rows : drop counters_size (take desk_size words) ≡ take (row_size * desk_rows) (drop (from + counters_size) w) =
    drop-take counters_size desk_size words ∙ ap (take (row_size * desk_rows)) (drop-drop counters_size place w ∙ ap (λ (n : ℕ). drop (n + counters_size) w) (sym e)) in
    rw (rows, ← size) f

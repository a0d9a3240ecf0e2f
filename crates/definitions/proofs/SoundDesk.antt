-- A sound desk stays sound: as the clock goes on, after a change of its rows, and after an order.
-- Assumes nothing.
use mathlib.Core.Bool.{Bool, true, false, cond, ◌||◌, not, true≢false}
use mathlib.Core.List.{List, [], ◌∷◌, ◌++◌, map}
use mathlib.Core.Path.{◌≡◌, refl, ap, sym, subst, ◌∙◌}
use Prim.Native.Nat.{ℕ, zero, suc, ◌-◌, ◌≤◌, ◌<◌}
use native.Mathlib.Omega.{arith}
use lib.Dec.{leb, ltb, eqb}
use lib.ListN.{length, replicate, length-set, length-map}
use borrow.Author.Tests.{ltb-false, leb-false, eqb-false, not-true, not-false, lt-ltb, le-leb}
use Rattle.definitions.specs.declared.MarketView.{MarketView}
use Rattle.definitions.specs.declared.Counter.{Counter}
use Rattle.definitions.specs.declared.Counter.TheVariants as counts
use Rattle.definitions.specs.declared.Row.{Row}
use Rattle.definitions.specs.declared.Desk.{Desk}
use Rattle.definitions.specs.declared.Order.{Order}
use Rattle.definitions.specs.declared.Verdict.{Verdict}
use Rattle.definitions.specs.declared.Verdict.TheVariants as verdict
use Rattle.definitions.specs.Codes.{foreign_board, sell, mp, dma, desk_rows, max_volume}
use Rattle.definitions.specs.Lists.{any, all, count, keep}
use Rattle.definitions.specs.Sound.{marked, numbered, priced_as, sound_row, marked_first, numbers_differ, sound_desk}
use Rattle.definitions.specs.Desks.{free_row, fresh_desk, open_or_in_minute, close_up, edited, expired_row, changed, row_of_order, added_last, added, counter_of, counted_as, is_rejected, counted, takes_row, ordered}
use Rattle.definitions.specs.Rules.{View, rule_s, rule_v, verdict_of}
use Rattle.definitions.specs.Refusals.{bad_code, holds_number, number_taken, desk_full}
use Rattle.definitions.proofs.Tests.{and-whole, and_second, or_parts, joined-parts, joined-whole}
use Rattle.definitions.proofs.Rows.{KeepsNumbers, all_append, all_replicate, all-kept, all_keep, all-weaken, all_map, any-keep, any-map-same, count-map-same, count-le, length-edited, first-closed, differ-closed, differ-keep, differ-map, differ-last, added-closed}
use Rattle.definitions.proofs.SoundRow.{true-marked, free-row, later-row, expired-sound, expired-kept, expired-open_or_in_minute, expired-numbered}

pub length-changed : (f : Row → Row) (d : Desk) → length (changed f d).rows ≡ length d.rows
unfolding changed
length-changed f d = length-edited f d.rows

length-added : (clock : ℕ) (o : Order) (d : Desk) → length (added clock o d).rows ≡ length d.rows
unfolding added
length-added clock o d =
    let rows = edited (expired_row clock) d.rows in
    length-set rows (count marked rows) (row_of_order o) ∙ length-edited (expired_row clock) d.rows

-- a counter raised leaves the rows
pub rows-counted : (t : Counter) (x : Desk) → (counted_as t x).rows ≡ x.rows
rows-counted counts.Accepted x = refl
rows-counted counts.Warned x = refl
rows-counted counts.Rejected x = refl

pub length-ordered : (v : Verdict) (clock : ℕ) (o : Order) (d : Desk) → length (ordered v clock o d).rows ≡ length d.rows
unfolding ordered counted
length-ordered v clock o d = ap length (rows-counted (counter_of v) (cond (takes_row v) (added clock o d) d)) ∙ go (takes_row v)
  where
    go : (t : Bool) → length (cond t (added clock o d) d).rows ≡ length d.rows
    go true = length-added clock o d
    go false = refl

-- sound rows, with a name for each part of the test
pub record SoundRows (securities clock : ℕ) (rows : List Row) : Type 0 where
  pub each : all (sound_row securities clock) rows ≡ true
  pub first : marked_first rows ≡ true
  pub differ : numbers_differ rows ≡ true

pub desk-true : (S clock : ℕ) (d : Desk) → sound_desk S clock d ≡ true → SoundRows S clock d.rows
unfolding sound_desk
desk-true S clock d e =
    let p = joined-parts (all (sound_row S clock) d.rows) (marked_first d.rows ∷ numbers_differ d.rows ∷ []) e in
    record { each = p.0; first = p.1.0; differ = p.1.1.0 }

pub true-desk : (S clock : ℕ) (d : Desk) → SoundRows S clock d.rows → sound_desk S clock d ≡ true
unfolding sound_desk
true-desk S clock d h =
    joined-whole (all (sound_row S clock) d.rows) (marked_first d.rows ∷ numbers_differ d.rows ∷ []) (h.each, (h.first, (h.differ, tt)))

module _ (S clock : ℕ) where
  -- sound marked rows whose numbers differ, and then free rows
  pub sound-closed : (front : List Row) (n : ℕ) → all (sound_row S clock) front ≡ true → all marked front ≡ true → numbers_differ front ≡ true
      → SoundRows S clock (front ++ replicate n free_row)
  sound-closed front n sound mark differ =
      record {
        each = all_append (sound_row S clock) front (replicate n free_row) sound (all_replicate (sound_row S clock) n free_row (free-row S clock));
        first = first-closed front n mark;
        differ = differ-closed front n ∙ differ;
      }

  -- a change of rows that leaves a row sound, marks none anew and keeps the number of a row that stays
  module _ (f : Row → Row) (keeps-sound : (r : Row) → sound_row S clock r ≡ true → sound_row S clock (f r) ≡ true) (keeps-numbers : KeepsNumbers f)
      (rows : List Row) (h : SoundRows S clock rows) where
    left-sound : all (sound_row S clock) (keep marked (map f rows)) ≡ true
    left-sound =
        all_keep (sound_row S clock) marked (map f rows) (all_map (sound_row S clock) (sound_row S clock) f keeps-sound rows h.each)

    left-differ : numbers_differ (keep marked (map f rows)) ≡ true
    left-differ = differ-keep (map f rows) ∙ differ-map f keeps-numbers rows h.differ

    sound-edited : SoundRows S clock (edited f rows)
    unfolding edited close_up
    sound-edited =
        sound-closed (keep marked (map f rows)) (length (map f rows) - count marked (map f rows)) left-sound (all-kept marked (map f rows)) left-differ

pub sound-later : (S clock later : ℕ) (d : Desk) → clock ≤ later → sound_desk S clock d ≡ true → sound_desk S later d ≡ true
sound-later S clock later d h e =
    let p = desk-true S clock d e in
    true-desk S later d
    (record {
      each = all-weaken (sound_row S clock) (sound_row S later) (later-row S clock later h) d.rows p.each;
      first = p.first;
      differ = p.differ;
    })

-- a change of rows that keeps them sound and their numbers keeps a desk sound
pub sound-changed : (S clock : ℕ) (f : Row → Row) → ((r : Row) → sound_row S clock r ≡ true → sound_row S clock (f r) ≡ true) → KeepsNumbers f
    → (d : Desk) → sound_desk S clock d ≡ true → sound_desk S clock (changed f d) ≡ true
unfolding changed
sound-changed S clock f sound kept d e = true-desk S clock (changed f d) (sound-edited S clock f sound kept d.rows (desk-true S clock d e))

pub sound-fresh-desk : (S clock : ℕ) → sound_desk S clock fresh_desk ≡ true
unfolding all numbers_differ
sound-fresh-desk S clock = true-desk S clock fresh_desk (sound-closed S clock [] desk_rows refl refl refl)

above_zero : (n : ℕ) → eqb n 0 ≡ false → 0 < n
above_zero n e =
    let differs : ¬ (n ≡ 0) = eqb-false n 0 e in
    omega arith

-- a verdict that is no reject says that rules S and V do not apply
pub no-rules : (v : View) (o : Order) → is_rejected (counter_of (verdict_of v o)) ≡ false → (rule_s v.market o ≡ false) × (rule_v v.market o ≡ false)
unfolding verdict_of
no-rules v o e = go (rule_s v.market o) (rule_v v.market o) _ e
  where
    go : (a b : Bool) (rest : Verdict) → is_rejected (counter_of (cond a verdict.RejectS (cond b verdict.RejectV rest))) ≡ false → (a ≡ false) × (b ≡ false)
    go true b rest k = absurd (true≢false k)
    go false true rest k = absurd (true≢false k)
    go false false rest k = (refl, refl)

-- what the conditions 4 to 6 and rule V leave of an order, with a name for each part
record Fits (securities : ℕ) (o : Order) : Type 0 where
  number : eqb o.number 0 ≡ false
  security : leb securities o.security ≡ false
  board : ltb foreign_board o.board ≡ false
  side : ltb sell o.side ≡ false
  most_type : ltb mp o.order_type ≡ false
  price : not (priced_as o.order_type o.price) ≡ false
  volume : eqb o.volume 0 ≡ false
  most-volume : ltb max_volume o.volume ≡ false

order-fits : (securities : ℕ) (m : MarketView) (o : Order) → leb securities o.security ≡ false → bad_code o ≡ false
    → not (priced_as o.order_type o.price) ≡ false → rule_v m o ≡ false → Fits securities o
unfolding rule_v
order-fits securities m o n c p v =
    let board = ltb foreign_board o.board in
    let side = ltb sell o.side in
    let type = ltb mp o.order_type in
    let channel = ltb dma o.channel in
    let c₃ = or_parts (board || side || type || channel) (eqb o.number 0) c in
    let c₂ = or_parts (board || side || type) channel c₃.0 in
    let c₁ = or_parts (board || side) type c₂.0 in
    let c₀ = or_parts board side c₁.0 in
    let v₂ = or_parts _ _ v in
    let v₁ = or_parts _ _ v₂.0 in
    let v₀ = or_parts _ _ v₁.0 in
    record {
      number = c₃.1;
      security = n;
      board = c₀.0;
      side = c₀.1;
      most_type = c₁.1;
      price = p;
      volume = v₀.0;
      most-volume = v₀.1;
    }

-- such an order makes a sound row
order_row : (S clock : ℕ) (o : Order) → Fits S o → sound_row S clock (row_of_order o) ≡ true
order_row S clock o f =
    true-marked S clock
    (row_of_order o)
    (record {
      state = refl;
      number = lt-ltb 0 o.number (above_zero o.number f.number);
      security = lt-ltb o.security S (leb-false S o.security f.security);
      board = le-leb o.board foreign_board (ltb-false foreign_board o.board f.board);
      side = le-leb o.side sell (ltb-false sell o.side f.side);
      order_type = le-leb o.order_type mp (ltb-false mp o.order_type f.most_type);
      price = not-false (priced_as o.order_type o.price) f.price;
      least = le-leb 1 o.volume (above_zero o.volume f.volume);
      most = le-leb o.volume max_volume (ltb-false max_volume o.volume f.most-volume);
    })

-- sound marked rows whose numbers differ, a sound marked row with a new number behind them, and then free rows
module _ (S clock : ℕ) (front : List Row) (r : Row) where
  sound-behind : (n : ℕ) → 0 < n → all (sound_row S clock) front ≡ true → all marked front ≡ true → numbers_differ front ≡ true
      → sound_row S clock r ≡ true → marked r ≡ true → any (numbered r.number) front ≡ false
      → SoundRows S clock (added_last r (front ++ replicate n free_row))
  unfolding all
  sound-behind zero left sound mark differ e m new = absurd (omega arith)
  sound-behind (suc n) left sound mark differ e m new =
      subst
      (SoundRows S clock)
      (sym (added-closed front n r mark))
      (sound-closed S clock
      (front ++ (r ∷ []))
      n
      (all_append (sound_row S clock) front (r ∷ []) sound (and-whole e refl))
      (all_append marked front (r ∷ []) mark (and-whole m refl))
      (differ-last front r differ new))

-- the rows of a sound desk as an order meets them: those cancelled longer ago are free
module _ (S clock : ℕ) (rows : List Row) (h : SoundRows S clock rows) where
  -- a number that no row holds, open or in its minute, is no marked row's
  number-new : (number : ℕ) → any (holds_number clock number) rows ≡ false → any (numbered number) (keep marked (map (expired_row clock) rows)) ≡ false
  number-new number free =
      any-keep (numbered number) marked (λ x e. rw e) (map (expired_row clock) rows)
      ∙ any-map-same (numbered number) (holds_number clock number) (expired_row clock) (sound_row S clock) (expired-numbered S clock number) rows h.each
      ∙ free

  -- where not all rows are open or in their minute, a free row is left
  place-left : length rows ≡ desk_rows → eqb (count (open_or_in_minute clock) rows) desk_rows ≡ false
      → 0 < length (map (expired_row clock) rows) - count marked (map (expired_row clock) rows)
  place-left size full =
      let same = count-map-same marked (open_or_in_minute clock) (expired_row clock) (sound_row S clock) (expired-open_or_in_minute S clock) rows h.each in
      let less : ¬ (count (open_or_in_minute clock) rows ≡ desk_rows) = eqb-false (count (open_or_in_minute clock) rows) desk_rows full in
      omega (arith, count-le (open_or_in_minute clock) rows, length-map rows (expired_row clock))

  sound-added : (o : Order) → length rows ≡ desk_rows → sound_row S clock (row_of_order o) ≡ true → any (holds_number clock o.number) rows ≡ false
      → eqb (count (open_or_in_minute clock) rows) desk_rows ≡ false → SoundRows S clock (added_last (row_of_order o) (edited (expired_row clock) rows))
  unfolding edited close_up
  sound-added o size e free full =
      let expired = map (expired_row clock) rows in
      sound-behind S clock
      (keep marked expired)
      (row_of_order o)
      (length expired - count marked expired)
      (place-left size full)
      (left-sound S clock (expired_row clock) (expired-sound S clock) (expired-kept clock) rows h)
      (all-kept marked expired)
      (left-differ S clock (expired_row clock) (expired-sound S clock) (expired-kept clock) rows h)
      e
      refl
      (number-new o.number free)

pub sound-ordered : (securities : ℕ) (m : MarketView) (d : Desk) (o : Order) → length d.rows ≡ desk_rows
    → sound_desk securities m.clock d ≡ true
    → leb securities o.security ≡ false
    → bad_code o ≡ false
    → not (priced_as o.order_type o.price) ≡ false
    → number_taken (record { market = m; desk = d }) o ≡ false
    → desk_full (record { market = m; desk = d }) o ≡ false
    → sound_desk securities m.clock (ordered (verdict_of (record { market = m; desk = d }) o) m.clock o d) ≡ true
unfolding ordered counted added
sound-ordered securities m d o size e n c p free full =
    true-desk securities m.clock (ordered v m.clock o d) (rw (rows-counted (counter_of v) (cond (takes_row v) (added m.clock o d) d)) (go (takes_row v) refl))
  where
    v : Verdict
    v = verdict_of (record { market = m; desk = d }) o

    sound : SoundRows securities m.clock d.rows
    sound = desk-true securities m.clock d e

    new_row : takes_row v ≡ true → sound_row securities m.clock (row_of_order o) ≡ true
    new_row takes =
        let rule = (no-rules (record { market = m; desk = d }) o (not-true (is_rejected (counter_of v)) takes)).1 in
        order_row securities m.clock o (order-fits securities m o n c p rule)

    go : (t : Bool) → takes_row v ≡ t → SoundRows securities m.clock (cond t (added m.clock o d) d).rows
    go true takes =
        sound-added securities m.clock d.rows sound o size (new_row takes) free
        (and_second (takes_row v) (eqb (count (open_or_in_minute m.clock) d.rows) desk_rows) full takes)
    go false takes = sound

-- The exits of an order's function, over plain variables: h, s and d are the header, the security and the desk that the code took out of the words, and at is
-- where the search for its number ended.
-- Assumes nothing.
use mathlib.Core.Bool.{Bool, true, false, cond, ◌&&◌, not}
use mathlib.Core.List.{List}
use mathlib.Core.Path.{◌≡◌, refl, ap, ap₂, sym, ◌∙◌}
use Prim.Native.Nat.{ℕ, ◌<◌}
use native.Mathlib.Omega.{arith}
use lib.Dec.{eqb}
use lib.ListN.{length, get_or}
use borrow.Author.Tests.{not-true, not-false}
use Rattle.std.specs.List.{list_all}
use Rattle.std.proofs.lemmas.List.Folds.{list_all_at}
use Rattle.definitions.specs.declared.Header.{Header}
use Rattle.definitions.specs.declared.Security.{Security}
use Rattle.definitions.specs.declared.Desk.{Desk}
use Rattle.definitions.specs.declared.Order.{Order}
use Rattle.definitions.specs.declared.Event.{Event}
use Rattle.definitions.specs.declared.Event.TheVariants as event
use Rattle.definitions.specs.declared.Verdict.{Verdict}
use Rattle.definitions.specs.Answers as answer
use Rattle.definitions.specs.Codes.{desk_rows}
use Rattle.definitions.specs.Lists.{count, first_met}
use Rattle.definitions.specs.State.{header_of, security_at, desk_at, put_desk}
use Rattle.definitions.specs.Sound.{sound_security, priced_as, marked, marked_first}
use Rattle.definitions.specs.Desks.{free_row, open_or_in_minute, close_up, added, counted, takes_row, ordered}
use Rattle.definitions.specs.Rules.{View, verdict_of}
use Rattle.definitions.specs.Refusals.{holds_number, number_taken, desk_full}
use Rattle.definitions.specs.Gate.{result_of, view_at, sound_security_at, sound_desk_at, records_sound, perform}
use Rattle.definitions.proofs.Tests.{never, and_parts, and-whole}
use Rattle.definitions.proofs.State.{length-desk-rows}
use Rattle.state_records.specs.declared.search.RowAt.{RowAt}
use Rattle.state_records.specs.Search.{row_with}
use Rattle.state_records.proofs.SearchLaws.{found-most, found-there, found-numbered}
use Rattle.desks.proofs.Laws.{all-counted}
use Rattle.desks.proofs.ClosedUp.{in-minute-marked}
use Rattle.kind_contract.specs.First.{Ready, later_refusal, later_outcome}
use Rattle.kind_contract.proofs.Laws.{unmet-first, later-refused, later-done, desk-sound, desk-closed}
use Rattle.kind_contract.proofs.Done.{Left}
use Rattle.one_row.proofs.OneRow.{row-asked, other-not-held}

module _ (w : List ℕ) (k : ℕ) (o : Order) (ready : Ready w (event.Order k o)) {h : Header} {s : Security} {at : RowAt} (eh : h ≡ header_of w) (es : s ≡ security_at w o.security)
    (ea : at ≡ row_with o.number (desk_at w k).rows) where
  abbrev e : Event
  e = event.Order k o

  read : not (records_sound w e) ≡ false
  read = unmet-first w e ready 8

  abbrev view : View
  view = view_at w o.security k

  -- condition 9 is asked of the row that has the number, or would
  taken-same : {t : Bool} → t ≡ holds_number h.clock o.number at.row → number_taken view o ≡ t
  taken-same et =
      row-asked w e read k refl o.number ea (holds_number (header_of w).clock o.number) (other-not-held (header_of w).clock o.number)
      (et ∙ ap (λ (a : Header). holds_number a.clock o.number at.row) eh)

  pub order-9 : {t : Bool} → t ≡ holds_number h.clock o.number at.row → t ≡ true → ◌≡◌ {A = Left} (answer.Refused 9, w) (result_of w (later_outcome w e))
  unfolding later_refusal first_met
  order-9 et found = later-refused w e 9 refl (rw (taken-same et, found))

  -- past condition 9, with the desk taken out
  module _ {t : Bool} (et : t ≡ holds_number h.clock o.number at.row) (new : t ≡ false) {d : Desk} (ed : d ≡ desk_at w k) where
    pub rules-asked : (sound_security s ≡ true) × (priced_as o.order_type o.price ≡ true) × (marked_first d.rows ≡ true)
    rules-asked =
        let sound = not-false (records_sound w e) read in (
          rw es (and_parts (sound_security_at w o.security) (sound_desk_at w k) sound).0,
          not-false (priced_as o.order_type o.price) (unmet-first w e ready 6),
          rw ed (desk-sound w e read k refl).first,
        )

    pub added-asked : close_up d.rows ≡ d.rows
    added-asked = rw ed (desk-closed w e read k refl)

    abbrev view_by : Header → Security → Desk → View
    view_by a x y = record { market = record { session = a.session; clock = a.clock; security = x }; desk = y }

    -- what the rules are given is what the definition's order meets
    view-same : view_by h s d ≡ view
    view-same = ap₂ (λ (a : Header) (x : Security). view_by a x d) eh es ∙ ap (view_by (header_of w) (security_at w o.security)) ed

    abbrev is_full : Bool
    is_full = eqb (count (open_or_in_minute h.clock) d.rows) desk_rows

    -- a search that ends at a row ends at a free one, or at one cancelled more than a minute ago
    pub room-left : (at.place ≡ desk_rows → ⊥) → is_full ≡ false
    room-left elsewhere =
        let rows = (desk_at w k).rows in
        let below : at.place < length rows = omega (arith, found-most o.number rows ea, length-desk-rows w k) in
        let row : get_or rows at.place free_row ≡ at.row = found-there o.number rows ea below free_row in
        let other : list_all (open_or_in_minute h.clock) rows ≡ false = list_all_at (open_or_in_minute h.clock) rows at.place free_row below (ap (open_or_in_minute h.clock) row ∙ gone (open_or_in_minute h.clock at.row) refl) in
        rw ed (sym (all-counted (open_or_in_minute h.clock) rows (length-desk-rows w k) (sym other)))
      where
        -- a marked row that was found has the number, and none that has it is open or in its minute
        gone : (t : Bool) → open_or_in_minute h.clock at.row ≡ t → t ≡ false
        gone false is = refl
        gone true is =
            let has = (and_parts (marked at.row) (eqb at.row.number o.number) (found-numbered o.number (desk_at w k).rows ea (in-minute-marked h.clock at.row is))).1 in
            never (and-whole is has) (sym et ∙ new)

    -- with a verdict
    module _ {v : Verdict} (ev : v ≡ verdict_of (view_by h s d) o) {r : Bool} (er : r ≡ takes_row v) where
      full-same : desk_full view o ≡ (r && is_full)
      full-same =
          ap (λ (x : View). desk_full x o) (sym view-same)
          ∙ ap (λ (x : Verdict). takes_row x && is_full) (sym ev)
          ∙ ap (λ (b : Bool). b && is_full) (sym er)

      done : later_refusal w e ≡ 0 → {y : Desk} {after : List ℕ} → y ≡ ordered v h.clock o d → after ≡ put_desk w k y → ◌≡◌ {A = Left} (answer.Verdict v, after) (result_of w (later_outcome w e))
      unfolding perform
      done none ey ew =
          later-done w e none
          (ap {B = Left} (λ (x : List ℕ). (answer.Verdict v, x)) (ew ∙ ap (put_desk w k) (ey ∙ ap₂ (λ (a : Header) (x : Desk). ordered v a.clock o x) eh ed))
          ∙ ap {B = Left} (λ (x : Verdict). (answer.Verdict x, put_desk w k (ordered x (header_of w).clock o (desk_at w k)))) (ev ∙ ap (λ (x : View). verdict_of x o) view-same))

      -- an order that takes no row: its counter rises
      pub order-counted : not r ≡ true → {y : Desk} {after : List ℕ} → y ≡ counted v d → after ≡ put_desk w k y → ◌≡◌ {A = Left} (answer.Verdict v, after) (result_of w (later_outcome w e))
      unfolding later_refusal first_met ordered
      order-counted no_row ey ew =
          let out : r ≡ false = not-true r no_row in
          done (rw (taken-same et, new, full-same, out)) (ey ∙ ap (λ (b : Bool). counted v (cond b (added h.clock o d) d)) (sym out ∙ er)) ew

      -- one that would take a row of a full desk
      pub order-12 : not r ≡ false → is_full ≡ true → ◌≡◌ {A = Left} (answer.Refused 12, w) (result_of w (later_outcome w e))
      unfolding later_refusal first_met
      order-12 row full = later-refused w e 12 refl (rw (taken-same et, new, full-same, not-false r row, full))

      -- one that takes a row
      pub order-added : not r ≡ false → is_full ≡ false → {x y : Desk} {after : List ℕ}
          → x ≡ added h.clock o d → y ≡ counted v x → after ≡ put_desk w k y → ◌≡◌ {A = Left} (answer.Verdict v, after) (result_of w (later_outcome w e))
      unfolding later_refusal first_met ordered
      order-added row room ex ey ew =
          let has : r ≡ true = not-false r row in
          done (rw (taken-same et, new, full-same, has, room))
          (ey ∙ ap (counted v) ex ∙ ap (λ (b : Bool). counted v (cond b (added h.clock o d) d)) (sym has ∙ er))
          ew

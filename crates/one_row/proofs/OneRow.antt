-- A customer's event that names a row by its number: what conditions 9 to 11 ask of the desk is asked of that row, and what a cancel, a match report or a
-- rest changes is that row.
-- Assumes nothing.
use mathlib.Core.Bool.{Bool, true, false, ◌&&◌, not}
use mathlib.Core.List.{List}
use mathlib.Core.Logic.{◌⊎◌}
use mathlib.Core.Path.{◌≡◌, refl, ap, sym, ◌∙◌}
use Prim.Native.Nat.{ℕ, ◌<◌}
use native.Mathlib.Omega.{arith}
use lib.Dec.{eqb}
use borrow.Author.Tests.{eqb-true}
use Rattle.definitions.specs.declared.Row.{Row}
use Rattle.definitions.specs.declared.Event.{Event}
use Rattle.definitions.specs.Answers as answer
use Rattle.definitions.specs.Codes.{desk_rows, open_mark}
use Rattle.definitions.specs.Lists.{any}
use Rattle.definitions.specs.State.{desk_at, put_desk}
use Rattle.definitions.specs.Changes.{one, customer_named}
use Rattle.definitions.specs.Sound.{marked, numbered}
use Rattle.definitions.specs.Desks.{free_row, is_open, open_or_in_minute, open_with, close_up, with_rows, changed}
use Rattle.definitions.specs.Gate.{done, result_of, records_sound, change_desk, perform}
use Rattle.definitions.specs.Refusals.{holds_number}
use Rattle.definitions.proofs.Tests.{and_second}
use Rattle.definitions.proofs.State.{length-desk-rows}
use Rattle.state_records.specs.declared.search.RowAt.{RowAt}
use Rattle.state_records.specs.Search.{row_with}
use Rattle.state_records.proofs.SearchLaws.{found-there, found-place, found-any, changed-at-place}
use Rattle.desks.specs.Place.{changed_at}
use Rattle.desks.proofs.ClosedUp.{in-minute-marked}
use Rattle.desks.proofs.AtPlace.{one-changed}
use Rattle.kind_contract.specs.First.{later_refusal, later_outcome}
use Rattle.kind_contract.proofs.Laws.{desk-sound, desk-closed}
use Rattle.kind_contract.proofs.Done.{Left, words-done}

-- a test that a marked row alone can meet, of a row that does not have the number
other : (number : ℕ) (r : Row) (t : Bool) → (t ≡ true → marked r ≡ true) → numbered number r ≡ false → (t && eqb r.number number) ≡ false
other number r true m e = and_second (marked r) (eqb r.number number) e (m refl)
other number r false m e = refl

pub other-not-open : (number : ℕ) (r : Row) → numbered number r ≡ false → open_with number r ≡ false
other-not-open number r = other number r (is_open r) (λ t. rw (eqb-true r.mark open_mark t))

pub other-not-held : (clock number : ℕ) (r : Row) → numbered number r ≡ false → holds_number clock number r ≡ false
other-not-held clock number r = other number r (open_or_in_minute clock r) (in-minute-marked clock r)

module _ (w : List ℕ) (e : Event) (read : not (records_sound w e) ≡ false) (k : ℕ) (own : customer_named e ≡ one k) (number : ℕ) {at : RowAt} (ea : at ≡ row_with number (desk_at w k).rows) where
  abbrev rows : List Row
  rows = (desk_at w k).rows

  -- what only a row with the number can meet, asked of the row that was found
  pub row-asked : (p : Row → Bool) → ((r : Row) → numbered number r ≡ false → p r ≡ false) → {t : Bool} → t ≡ p at.row → any p rows ≡ t
  row-asked p other et = found-any number rows ea (desk-sound w e read k own).first (desk-sound w e read k own).differ p other ∙ sym et

  -- what `change_row` asks
  pub row-there : marked at.row ≡ true → (at.place < desk_rows) × (close_up rows ≡ rows)
  row-there m = (omega (arith, found-place number rows ea m, length-desk-rows w k), desk-closed w e read k own)

  -- the event changes the row with the number, and no other
  pub row_done : later_refusal w e ≡ 0 → (f : Row → Row) → ((r : Row) → numbered number r ≡ false → f r ≡ r) → perform w e ≡ done answer.Ok (change_desk (changed f) k w)
      → marked at.row ≡ true → (marked (f at.row) ≡ true) ⊎ (f at.row ≡ free_row) → {r : Row} {v : List ℕ} → r ≡ f at.row
      → v ≡ put_desk w k (with_rows (changed_at at.place r rows) (desk_at w k)) → ◌≡◌ {A = Left} (answer.Ok, v) (result_of w (later_outcome w e))
  row_done none f other does m left er ev =
      let below = found-place number rows ea m in
      words-done w e none answer.Ok does
      (ev
      ∙ ap (λ (x : Row). put_desk w k (with_rows (changed_at at.place x rows) (desk_at w k))) er
      ∙ ap (put_desk w k)
      (one-changed f (desk_at w k) at.place free_row (desk-closed w e read k own) below (ap marked (found-there number rows ea below free_row) ∙ m)
      (changed-at-place number rows ea (desk-sound w e read k own).first (desk-sound w e read k own).differ f other) left))

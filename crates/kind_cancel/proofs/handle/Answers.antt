-- `kind_cancel::handle` meets its contract: condition 10, or the row cancelled.
use mathlib.Core.Bool.{true, false}
use mathlib.Core.Logic.{◌⊎◌, inl, inr}
use mathlib.Core.Path.{◌≡◌, refl, ap, ◌∙◌}
use Prim.Native.Nat.{ℕ}
use Rattle.definitions.specs.declared.Header.{Header}
use Rattle.definitions.specs.declared.Row.{Row}
use Rattle.definitions.specs.declared.Event.TheVariants as event
use Rattle.definitions.specs.Lists.{first_met}
use Rattle.definitions.specs.State.{header_of}
use Rattle.definitions.specs.Sound.{marked, numbered}
use Rattle.definitions.specs.Desks.{free_row, open_with, cancelled_row}
use Rattle.definitions.specs.Gate.{perform}
use Rattle.definitions.proofs.Tests.{known}
use Rattle.definitions.proofs.SoundRow.{open-marked, cancelled-frees}
use Rattle.kind_contract.specs.First.{later_refusal}
use Rattle.kind_contract.proofs.Laws.{later-refused, unmet-first, header-fits, desk-fits}
use Rattle.one_row.proofs.OneRow.{row-asked, row-there, row_done, other-not-open}
use Rattle.kind_cancel.proofs.handle.Goals as goal

-- a cancel changes no row without its number, and leaves a row marked or free
other-stays : (number clock : ℕ) (r : Row) → numbered number r ≡ false → cancelled_row number clock r ≡ r
other-stays number clock r other = rw (other-not-open number r other)

kept-or-free : (number clock : ℕ) (r : Row) → marked r ≡ true → (marked (cancelled_row number clock r) ≡ true) ⊎ (cancelled_row number clock r ≡ free_row)
kept-or-free number clock r m = cancelled-frees (λ (x : Row). (marked x ≡ true) ⊎ (x ≡ free_row)) number clock r (inr refl) (inl m) (λ _ _. inl refl)

pub returns-then-not-open_with : goal.returns-then-not-open_with
unfolding later_refusal first_met
returns-then-not-open_with c =
    let found = c.row_with-found.ensures in
    later-refused _ _ 10 refl (rw (row-asked c.args.words.now (event.Cancel c.args.k c.args.x) (unmet-first _ _ c.requires 8) c.args.k refl c.args.x.number found (open_with c.args.x.number) (other-not-open c.args.x.number) c.open_with.ensures, c.if-not-open_with.true))

pub change_row-requires : goal.change_row-requires
change_row-requires c =
    let found = c.row_with-found.ensures in
    let opened = known c.open_with.ensures c.if-not-open_with.false in
    let there = row-there c.args.words.now (event.Cancel c.args.k c.args.x) (unmet-first _ _ c.requires 8) c.args.k refl c.args.x.number found (open-marked c.args.x.number c.row_with-found.result.row opened) in
    (desk-fits _ _ c.requires _ refl, there.0, there.1)

pub returns : goal.returns
unfolding later_refusal first_met perform
returns c =
    let w = c.args.words.now in
    let k = c.args.k in
    let number = c.args.x.number in
    let e = event.Cancel k c.args.x in
    let read = unmet-first w e c.requires 8 in
    let found = c.row_with-found in
    let asked = c.open_with in
    let there = open-marked number found.result.row (known asked.ensures c.if-not-open_with.false) in
    let clock : c.header_of-h.result.clock ≡ (header_of w).clock = ap (λ (h : Header). h.clock) c.header_of-h.ensures in
    row_done w e read k refl number found.ensures
    (rw (row-asked w e read k refl number found.ensures (open_with number) (other-not-open number) asked.ensures, c.if-not-open_with.false))
    (cancelled_row number (header_of w).clock) (other-stays number (header_of w).clock) refl there (kept-or-free number (header_of w).clock found.result.row there)
    (c.cancelled_row-left.ensures ∙ ap (λ (t : ℕ). cancelled_row number t found.result.row) clock)
    c.change_row.ensures

pub header_of-h-requires : goal.header_of-h-requires
header_of-h-requires c = header-fits _ _ c.requires

pub row_with-found-requires : goal.row_with-found-requires
row_with-found-requires c = desk-fits _ _ c.requires _ refl

-- `kind_match::handle` meets its contract: condition 10, condition 11, or the row's volume lowered.
use mathlib.Core.Bool.{true, false}
use mathlib.Core.Logic.{◌⊎◌, inl, inr}
use mathlib.Core.Path.{◌≡◌, refl, sym}
use Prim.Native.Nat.{ℕ}
use borrow.Author.Tests.{eq-eqb, ne_eqb, lt-ltb, le-ltb}
use Rattle.definitions.specs.declared.Row.{Row}
use Rattle.definitions.specs.declared.Event.TheVariants as event
use Rattle.definitions.specs.Lists.{first_met}
use Rattle.definitions.specs.Sound.{marked, numbered}
use Rattle.definitions.specs.Desks.{free_row, open_with, matched_row}
use Rattle.definitions.specs.Refusals.{open_below}
use Rattle.definitions.specs.Gate.{perform}
use Rattle.definitions.proofs.Tests.{known, and-whole}
use Rattle.definitions.proofs.SoundRow.{open-marked, matched-frees}
use Rattle.kind_contract.specs.First.{later_refusal}
use Rattle.kind_contract.proofs.Laws.{later-refused, unmet-first, desk-fits}
use Rattle.one_row.proofs.OneRow.{row-asked, row-there, row_done, other-not-open}
use Rattle.kind_match.proofs.handle.Goals as goal

-- a match changes no row without its number, and leaves a row marked or free
other-not-below : (number volume : ℕ) (r : Row) → numbered number r ≡ false → open_below number volume r ≡ false
other-not-below number volume r other = rw (other-not-open number r other)

other-stays : (number volume : ℕ) (r : Row) → numbered number r ≡ false → matched_row number volume r ≡ r
other-stays number volume r other = rw (other-not-open number r other)

kept-or-free : (number volume : ℕ) (r : Row) → marked r ≡ true → (marked (matched_row number volume r) ≡ true) ⊎ (matched_row number volume r ≡ free_row)
kept-or-free number volume r m = matched-frees (λ (x : Row). (marked x ≡ true) ⊎ (x ≡ free_row)) number volume r (inr refl) (inl m) (λ _ _. inl m)

pub returns-then-not-open_with : goal.returns-then-not-open_with
unfolding later_refusal first_met
returns-then-not-open_with c =
    let number = c.args.x.number in
    later-refused _ _ 10 refl (rw (row-asked c.args.words.now (event.Match c.args.k c.args.x) (unmet-first _ _ c.requires 8) c.args.k refl number c.row_with-found.ensures (open_with number) (other-not-open number) c.open_with.ensures, c.if-not-open_with.true))

pub returns-then-x-eq0 : goal.returns-then-x-eq0
unfolding later_refusal first_met
returns-then-x-eq0 c =
    let number = c.args.x.number in
    later-refused _ _ 11 refl
    (rw (
      row-asked c.args.words.now (event.Match c.args.k c.args.x) (unmet-first _ _ c.requires 8) c.args.k refl number c.row_with-found.ensures (open_with number) (other-not-open number) c.open_with.ensures,
      c.if-not-open_with.false,
      eq-eqb _ 0 c.if-x-eq0.true,
    ))

pub returns-then-found-x : goal.returns-then-found-x
unfolding later_refusal first_met
returns-then-found-x c =
    let w = c.args.words.now in
    let k = c.args.k in
    let number = c.args.x.number in
    let volume = c.args.x.volume in
    let e = event.Match k c.args.x in
    let read = unmet-first w e c.requires 8 in
    let found = c.row_with-found in
    let asked = c.open_with in
    let opened = known asked.ensures c.if-not-open_with.false in
    later-refused _ _ 11 refl
    (rw (
      row-asked w e read k refl number found.ensures (open_with number) (other-not-open number) asked.ensures,
      c.if-not-open_with.false,
      ne_eqb _ 0 c.if-x-eq0.false,
      row-asked w e read k refl number found.ensures (open_below number volume) (other-not-below number volume) (sym (and-whole opened (lt-ltb _ _ c.if-found-x.true))),
    ))

pub change_row-requires : goal.change_row-requires
change_row-requires c =
    let number = c.args.x.number in
    let found = c.row_with-found in
    let opened = open-marked number found.result.row (known c.open_with.ensures c.if-not-open_with.false) in
    let there = row-there c.args.words.now (event.Match c.args.k c.args.x) (unmet-first _ _ c.requires 8) c.args.k refl number found.ensures opened in
    (desk-fits _ _ c.requires _ refl, there.0, there.1)

pub returns : goal.returns
unfolding later_refusal first_met perform
returns c =
    let w = c.args.words.now in
    let k = c.args.k in
    let number = c.args.x.number in
    let volume = c.args.x.volume in
    let e = event.Match k c.args.x in
    let read = unmet-first w e c.requires 8 in
    let found = c.row_with-found in
    let asked = c.open_with in
    let opened = known asked.ensures c.if-not-open_with.false in
    let there = open-marked number found.result.row opened in
    let none : later_refusal w e ≡ 0 = rw (
      row-asked w e read k refl number found.ensures (open_with number) (other-not-open number) asked.ensures,
      c.if-not-open_with.false,
      ne_eqb volume 0 c.if-x-eq0.false,
      row-asked w e read k refl number found.ensures (open_below number volume) (other-not-below number volume) {t = false} (sym (rw (opened, le-ltb found.result.row.volume volume c.if-found-x.false))),
    ) in
    row_done w e read k refl number found.ensures none (matched_row number volume) (other-stays number volume) refl there (kept-or-free number volume found.result.row there)
    c.matched_row-left.ensures c.change_row.ensures

pub row_with-found-requires : goal.row_with-found-requires
row_with-found-requires c = desk-fits _ _ c.requires _ refl

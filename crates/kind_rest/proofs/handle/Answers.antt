-- `kind_rest::handle` meets its contract: condition 10, or the row made a limit.
use mathlib.Core.Bool.{true, false}
use mathlib.Core.Logic.{inl}
use mathlib.Core.Path.{◌≡◌, refl}
use Prim.Native.Nat.{ℕ}
use lib.Dec.{eqb}
use Rattle.definitions.specs.declared.Row.{Row}
use Rattle.definitions.specs.declared.Event.TheVariants as event
use Rattle.definitions.specs.Codes.{mp}
use Rattle.definitions.specs.Lists.{first_met}
use Rattle.definitions.specs.Sound.{marked, numbered}
use Rattle.definitions.specs.Desks.{open_with, open_mp_with, rest_row}
use Rattle.definitions.specs.Gate.{perform}
use Rattle.definitions.proofs.Tests.{known, and_parts}
use Rattle.definitions.proofs.SoundRow.{open-marked, rest-changes}
use Rattle.kind_contract.specs.First.{later_refusal}
use Rattle.kind_contract.proofs.Laws.{later-refused, unmet-first, desk-fits}
use Rattle.one_row.proofs.OneRow.{row-asked, row-there, row_done, other-not-open}
use Rattle.kind_rest.proofs.handle.Goals as goal

-- a rest changes no row without its number, and leaves a marked row marked
other-not-mp : (number : ℕ) (r : Row) → numbered number r ≡ false → open_mp_with number r ≡ false
other-not-mp number r other = rw (other-not-open number r other)

other-stays : (number price : ℕ) (r : Row) → numbered number r ≡ false → rest_row number price r ≡ r
other-stays number price r other = rw (other-not-mp number r other)

mp-there : (number : ℕ) (r : Row) → open_mp_with number r ≡ true → marked r ≡ true
mp-there number r e = open-marked number r (and_parts (open_with number r) (eqb r.order_type mp) e).0

kept : (number price : ℕ) (r : Row) → marked r ≡ true → marked (rest_row number price r) ≡ true
kept number price r m = rest-changes (λ (x : Row). marked x ≡ true) number price r m (λ _. m)

pub returns-then-not-open_mp_with : goal.returns-then-not-open_mp_with
unfolding later_refusal first_met
returns-then-not-open_mp_with c =
    let number = c.args.x.number in
    later-refused _ _ 10 refl (rw (row-asked c.args.words.now (event.Rest c.args.k c.args.x) (unmet-first _ _ c.requires 8) c.args.k refl number c.row_with-found.ensures (open_mp_with number) (other-not-mp number) c.open_mp_with.ensures, c.if-not-open_mp_with.true))

pub change_row-requires : goal.change_row-requires
change_row-requires c =
    let number = c.args.x.number in
    let found = c.row_with-found in
    let opened = mp-there number found.result.row (known c.open_mp_with.ensures c.if-not-open_mp_with.false) in
    let there = row-there c.args.words.now (event.Rest c.args.k c.args.x) (unmet-first _ _ c.requires 8) c.args.k refl number found.ensures opened in
    (desk-fits _ _ c.requires _ refl, there.0, there.1)

pub returns : goal.returns
unfolding later_refusal first_met perform
returns c =
    let w = c.args.words.now in
    let k = c.args.k in
    let number = c.args.x.number in
    let price = c.args.x.price in
    let e = event.Rest k c.args.x in
    let read = unmet-first w e c.requires 8 in
    let found = c.row_with-found in
    let asked = c.open_mp_with in
    let there = mp-there number found.result.row (known asked.ensures c.if-not-open_mp_with.false) in
    row_done w e read k refl number found.ensures
    (rw (row-asked w e read k refl number found.ensures (open_mp_with number) (other-not-mp number) asked.ensures, c.if-not-open_mp_with.false))
    (rest_row number price) (other-stays number price) refl there (inl (kept number price found.result.row there))
    c.rest_row-left.ensures c.change_row.ensures

pub row_with-found-requires : goal.row_with-found-requires
row_with-found-requires c = desk-fits _ _ c.requires _ refl

-- `desks::added` meets its contract: where a row has gone, the others close up first; else the order takes the first free row.
use mathlib.Core.List.{List}
use mathlib.Core.Path.{◌≡◌, refl, ap, ◌∙◌}
use Prim.Native.Nat.{ℕ}
use borrow.Author.Rules.{rules}
use Rattle.definitions.specs.declared.Row.{Row}
use Rattle.definitions.specs.declared.Desk.{Desk}
use Rattle.definitions.specs.declared.Order.{Order}
use Rattle.definitions.specs.Desks.{expired_row, edited, with_rows, row_of_order, added_last, added}
use Rattle.definitions.proofs.Lists.{length-mapped}
use Rattle.definitions.proofs.Tests.{known}
use Rattle.desks.proofs.ClosedUp.{placing-start, placing-next, placing-free, placing-full}
use Rattle.desks.proofs.added.Goals as goal

as_added : (clock : ℕ) (o : Order) (d : Desk) {after : Desk} {rows : List Row} {r : Row} → after ≡ d → rows ≡ added_last r (edited (expired_row clock) after.rows)
    → r ≡ row_of_order o → with_rows rows after ≡ added clock o d
unfolding added
as_added clock o d {after} {rows} {r} same e last =
    ap (λ l. with_rows l after) e ∙ rw (same, last)

pub loop-place-init : goal.loop-place-init
loop-place-init c = (placing-start (search (rules, length-mapped)) c.requires, refl)

pub returns-then-row-eq0 : goal.returns-then-row-eq0
returns-then-row-eq0 c =
    let inv = c.loop-place.invariant in
    as_added _ _ _ inv.1 (placing-free inv.0 c.loop-place-test.true _ c.if-row-eq0.true _) c.row_of_order-last.ensures

pub returns-then-not-open_or_in_minute : goal.returns-then-not-open_or_in_minute
returns-then-not-open_or_in_minute c =
    c.added_last.ensures ∙ as_added _ c.args.o _ {after = c.loop-place.after} c.loop-place.invariant.1 refl c.row_of_order-last.ensures

pub loop-place-preserved : goal.loop-place-preserved
loop-place-preserved c =
    let inv = c.loop-place.invariant in
    (placing-next inv.0 c.loop-place-test.true _ refl (known c.open_or_in_minute.ensures c.if-not-open_or_in_minute.false), inv.1)

pub returns : goal.returns
returns c =
    let inv = c.loop-place.invariant in
    as_added c.args.clock c.args.o _ {after = c.loop-place.after} inv.1 (placing-full inv.0 c.loop-place-test.false _) c.row_of_order-last.ensures

-- `kind_order::handle` meets its contract: condition 9, condition 12, or the verdict, with the counter and the row that follow it.
use mathlib.Core.Bool.{not}
use mathlib.Core.Path.{refl, sym, ap, ◌∙◌}
use native.Mathlib.Omega.{arith}
use Rattle.kind_contract.proofs.Laws.{header-fits, security-fits, desk-fits}
use Rattle.kind_order.proofs.Laws.{rules-asked, added-asked, room-left, order-9, order-counted, order-12, order-added}
use Rattle.kind_order.proofs.handle.Goals as goal
use Rattle.kind_order.proofs.handle.Goals.{else-found-eq-DESK_ROWS-via-then-found-eq-DESK_ROWS+else-full, else-found-eq-DESK_ROWS-via-else-found-eq-DESK_ROWS}

pub returns-then-holds_number : goal.returns-then-holds_number
returns-then-holds_number c =
    order-9 _ _ _ c.requires c.header_of-h.ensures c.security_at-security.ensures c.row_with-found.ensures c.holds_number.ensures c.if-holds_number.true

pub verdict-v-requires : goal.verdict-v-requires
verdict-v-requires c =
    rules-asked _ _ _ c.requires c.header_of-h.ensures c.security_at-security.ensures c.row_with-found.ensures c.holds_number.ensures c.if-holds_number.false c.desk_at-d.ensures

pub returns-then-not-takes_row : goal.returns-then-not-takes_row
returns-then-not-takes_row c =
    order-counted _ _ _ c.requires c.header_of-h.ensures c.security_at-security.ensures c.row_with-found.ensures c.holds_number.ensures c.if-holds_number.false c.desk_at-d.ensures c.verdict-v.ensures c.takes_row.ensures (ap not c.if-not-takes_row.true) c.counted.ensures c.put_desk.ensures

pub returns-then-full : goal.returns-then-full
returns-then-full c =
    order-12 _ _ _ c.requires c.header_of-h.ensures c.security_at-security.ensures c.row_with-found.ensures c.holds_number.ensures c.if-holds_number.false c.desk_at-d.ensures c.verdict-v.ensures c.takes_row.ensures (ap not c.if-not-takes_row.false) (sym c.full.ensures ∙ c.if-full.true)

pub added-after-requires : goal.added-after-requires
added-after-requires c =
    added-asked _ _ _ c.requires c.header_of-h.ensures c.security_at-security.ensures c.row_with-found.ensures c.holds_number.ensures c.if-holds_number.false c.desk_at-d.ensures

pub returns : goal.returns
returns c =
    order-added _ _ _ c.requires c.header_of-h.ensures c.security_at-security.ensures c.row_with-found.ensures c.holds_number.ensures c.if-holds_number.false c.desk_at-d.ensures c.verdict-v.ensures c.takes_row.ensures (ap not c.if-not-takes_row.false)
    (elim c.else-found-eq-DESK_ROWS.branch [
      | else-found-eq-DESK_ROWS-via-then-found-eq-DESK_ROWS+else-full w ↦ sym w.full.ensures ∙ w.if-full.false
      | else-found-eq-DESK_ROWS-via-else-found-eq-DESK_ROWS w ↦ room-left _ _ _ c.requires c.header_of-h.ensures c.security_at-security.ensures c.row_with-found.ensures c.holds_number.ensures c.if-holds_number.false c.desk_at-d.ensures w.if-found-eq-DESK_ROWS.false
    ])
    c.added-after.ensures c.counted-2.ensures c.put_desk-2.ensures

pub header_of-h-requires : goal.header_of-h-requires
header_of-h-requires c = header-fits _ _ c.requires

pub security_at-security-requires : goal.security_at-security-requires
security_at-security-requires c = security-fits _ _ c.requires _ refl

pub row_with-found-requires : goal.row_with-found-requires
row_with-found-requires c = omega (arith, desk-fits _ _ c.requires _ refl)

pub desk_at-d-requires : goal.desk_at-d-requires
desk_at-d-requires c = omega (arith, desk-fits _ _ c.requires _ refl)

pub put_desk-requires : goal.put_desk-requires
put_desk-requires c = omega (arith, desk-fits _ _ c.requires _ refl)

pub put_desk-requires-2 : goal.put_desk-requires-2
put_desk-requires-2 c = omega (arith, desk-fits _ _ c.requires _ refl)

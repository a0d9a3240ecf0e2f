-- `desks::closed_up` meets its contract: each row that is not free is put, as the closure leaves it, behind those before it.
use mathlib.Core.Path.{◌≡◌}
use borrow.Author.Rules.{rules}
use lib.ListN.{length}
use Rattle.definitions.specs.Codes.{desk_rows}
use Rattle.definitions.proofs.Lists.{length-mapped}
use Rattle.desks.proofs.Laws.{putting-start, putting-kept, putting-free, closing-start, closing-kept, closing-free, closing_end}
use Rattle.desks.proofs.closed_up.Goals as goal
use Rattle.desks.proofs.closed_up.Goals.{then-left-ne0, else-left-ne0}

pub loop-row-init : goal.loop-row-init
loop-row-init g c =
    let whole : length c.args.d.rows ≡ desk_rows = search (rules, length-mapped) in
    (putting-start _ whole c.requires.empty, λ f by. closing-start whole c.requires.empty)

pub loop-row-preserved : goal.loop-row-preserved
loop-row-preserved g c =
    let inv = c.loop-row.invariant in
    elim c.if-left-ne0.branch [
      | then-left-ne0 w ↦ rw (w.closed-is, w.n-is) (putting-kept inv.0 _, λ f by. closing-kept (inv.1 f by) c.loop-row-test.true _ (by _ _ c.becomes-left.ensures) w.if-left-ne0.true)
      | else-left-ne0 w ↦ rw (w.closed-is, w.n-is) (putting-free inv.0, λ f by. closing-free (inv.1 f by) c.loop-row-test.true _ (by _ _ c.becomes-left.ensures) w.if-left-ne0.false)
    ]

pub returns : goal.returns
returns g c = λ f by. closing_end (c.loop-row.invariant.1 f by) c.loop-row-test.false

-- `one_row::change_row` meets its contract: the desk that is put back is the one that was taken out, with one row changed.
use mathlib.Core.Path.{◌≡◌, ap, sym, subst, ◌∙◌}
use native.Mathlib.Omega.{arith}
use borrow.Author.Rules.{rules}
use Rattle.definitions.specs.declared.Desk.{Desk}
use Rattle.definitions.specs.State.{put_desk}
use Rattle.definitions.specs.Desks.{close_up, with_rows}
use Rattle.desks.specs.Place.{changed_at}
use Rattle.one_row.proofs.change_row.Goals as goal

pub returns : goal.returns
returns c =
    let taken = c.desk_at-d in
    c.put_desk.ensures
    ∙ ap (put_desk c.args.words.now c.args.k)
    (c.changed_at.ensures ∙ ap (λ (d : Desk). with_rows (changed_at c.args.place c.args.left d.rows) d) taken.ensures)

pub desk_at-d-requires : goal.desk_at-d-requires
desk_at-d-requires c = omega (arith, c.requires.0)

pub changed_at-requires : goal.changed_at-requires
changed_at-requires c = (search rules, subst (λ (d : Desk). close_up d.rows ≡ d.rows) (sym c.desk_at-d.ensures) c.requires.2)

pub put_desk-requires : goal.put_desk-requires
put_desk-requires c = omega (arith, c.requires.0)

-- `desks::changed_at` meets its contract: a row that is left free goes, any other stands in its place.
use mathlib.Core.Path.{ap, sym, ◌∙◌}
use Rattle.definitions.specs.Desks.{with_rows}
use Rattle.desks.proofs.AtPlace.{left-free, left-marked}
use Rattle.desks.proofs.changed_at.Goals as goal

pub returns-then-left-eq0 : goal.returns-then-left-eq0
returns-then-left-eq0 c =
    let d = c.args.d in
    c.removed.ensures ∙ ap (λ rows. with_rows rows d) (sym (left-free _ _ d.rows c.if-left-eq0.true))

pub returns : goal.returns
returns c =
    let d = c.args.d in
    ap (λ rows. with_rows rows d) (sym (left-marked _ _ d.rows c.if-left-eq0.false))

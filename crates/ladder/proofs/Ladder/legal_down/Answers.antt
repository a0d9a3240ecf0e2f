-- `ladder::Ladder::legal_down` meets its contract: the price at the nearest position at or below is the greatest legal one.
use mathlib.Core.Path.{ap, sym, ◌∙◌}
use Rattle.ladder.specs.Ladder.{lower_number, price_at}
use Rattle.ladder.proofs.LegalLaws.{down-at}
use Rattle.ladder.proofs.Ladder.legal_down.Goals as goal

pub returns : goal.returns
returns c =
    c.price.ensures
    ∙ ap price_at (c.lower_number.ensures ∙ ap lower_number c.nearest.ensures)
    ∙ sym (down-at _ c.requires)

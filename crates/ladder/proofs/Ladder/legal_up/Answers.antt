-- `ladder::Ladder::legal_up` meets its contract: the price at the nearest position at or above is the least legal one.
use mathlib.Core.Path.{ap, sym, ◌∙◌}
use Rattle.ladder.specs.Ladder.{upper_number, price_at}
use Rattle.ladder.proofs.LegalLaws.{up_at}
use Rattle.ladder.proofs.Ladder.legal_up.Goals as goal

pub returns : goal.returns
returns c =
    c.price.ensures
    ∙ ap price_at (c.upper_number.ensures ∙ ap upper_number c.nearest.ensures)
    ∙ sym (up_at _ c.requires.0 c.requires.1)

-- `guvontsira::guvontsira_position` meets its contract: the ladder's position, as its number.
use mathlib.Core.Path.{ap, ◌∙◌}
use Rattle.ladder.specs.Ladder.{position_number}
use Rattle.guvontsira.proofs.guvontsira_position.Goals as goal

pub returns : goal.returns
returns c = c.position_number.ensures ∙ ap position_number c.position.ensures

-- `guvontsira::guvontsira_lower_position` meets its contract: the lower of the ladder's two nearest positions.
use mathlib.Core.Path.{ap, ◌∙◌}
use Rattle.ladder.specs.Ladder.{lower_number}
use Rattle.guvontsira.proofs.guvontsira_lower_position.Goals as goal

pub returns : goal.returns
returns c = c.lower_number.ensures ∙ ap lower_number c.nearest.ensures

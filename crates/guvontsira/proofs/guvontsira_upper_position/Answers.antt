-- `guvontsira::guvontsira_upper_position` meets its contract: the upper of the ladder's two nearest positions.
use mathlib.Core.Path.{ap, ◌∙◌}
use Rattle.ladder.specs.Ladder.{upper_number}
use Rattle.guvontsira.proofs.guvontsira_upper_position.Goals as goal

pub returns : goal.returns
returns c = c.upper_number.ensures ∙ ap upper_number c.nearest.ensures

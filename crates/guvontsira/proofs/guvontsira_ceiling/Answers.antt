-- `guvontsira::guvontsira_ceiling` meets its contract: the number of the range that the gate gives.
use mathlib.Core.Path.{ap, ◌∙◌}
use Rattle.definitions.specs.Gate.{ceiling_number}
use Rattle.guvontsira.proofs.guvontsira_ceiling.Goals as goal

pub returns : goal.returns
returns c = c.ceiling_number.ensures ∙ ap ceiling_number c.daily_range.ensures

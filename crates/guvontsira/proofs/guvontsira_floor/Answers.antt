-- `guvontsira::guvontsira_floor` meets its contract: the number of the range that the gate gives.
use mathlib.Core.Path.{ap, ◌∙◌}
use Rattle.definitions.specs.Gate.{floor_number}
use Rattle.guvontsira.proofs.guvontsira_floor.Goals as goal

pub returns : goal.returns
returns c = c.floor_number.ensures ∙ ap floor_number c.daily_range.ensures

-- `state_soundness::rows::sound_rows` meets its contract: the rest of the rows is all zero exactly where all rows are sound.
use Rattle.std.proofs.Common.{rules}
use Rattle.state_soundness.proofs.RowLaws.{rows-tested}
use Rattle.state_soundness.proofs.rows.sound_rows.Goals as goal

pub returns : goal.returns
returns c = rows-tested (search rules) c.leading_sound-count.ensures c.all_zero.ensures

-- `ladder::stepped` meets its contract: above the table the price follows by the last band's step, up to the last position.
use mathlib.Core.Path.{sym}
use native.Mathlib.Omega.{arith}
use Rattle.ladder.proofs.Laws.{price-none-above, price-last-band}
use Rattle.ladder.proofs.stepped.Goals as goal

pub returns-then-position-gt-POSITIONS : goal.returns-then-position-gt-POSITIONS
returns-then-position-gt-POSITIONS c = sym (price-none-above c.args.position (omega arith) (omega arith))

pub returns : goal.returns
returns c = sym (price-last-band c.args.position (omega arith) (omega arith))

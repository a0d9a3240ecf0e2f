-- `ladder::tabled` meets its contract: up to 400.00 the table's rule is cited at the position.
use mathlib.Core.Path.{sym, ◌∙◌}
use native.Mathlib.Omega.{arith}
use Rattle.ladder.proofs.Laws.{price-none-below}
use Rattle.ladder.proofs.tabled.Goals as goal

pub returns-then-position-lt1 : goal.returns-then-position-lt1
returns-then-position-lt1 c = sym (price-none-below _ c.if-position-lt1.true)

pub returns : goal.returns
returns c = c.from.ensures ∙ c.requires.at _ (omega arith) (omega arith)

pub returns-then-position-gt1300 : goal.returns-then-position-gt1300
returns-then-position-gt1300 c = c.stepped.ensures

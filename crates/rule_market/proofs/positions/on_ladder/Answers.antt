-- `rule_market::positions::on_ladder` meets its contract: a legal price stands at its own position.
use mathlib.Core.Path.{sym}
use Rattle.ladder.proofs.Laws.{number-legal, price-off}
use Rattle.definitions.proofs.Tests.{known}
use Rattle.rule_market.proofs.positions.on_ladder.Goals as goal

pub returns-then-not-legal : goal.returns-then-not-legal
returns-then-not-legal c = sym (price-off _ (known c.legal.ensures c.if-not-legal.true))

pub returns : goal.returns
returns c = sym (number-legal _ (known c.legal.ensures c.if-not-legal.false)).price

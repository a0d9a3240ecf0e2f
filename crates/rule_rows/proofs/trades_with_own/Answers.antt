-- `rule_rows::trades_with_own` meets its contract: a row that is not opposite trades with nothing, and of any other the definition's clauses are tried.
use Rattle.definitions.specs.Rules.{trades_with_own}
use Rattle.definitions.proofs.Tests.{known}
use Rattle.rule_rows.proofs.trades_with_own.Goals as goal

pub returns-then-not-own_opposite : goal.returns-then-not-own_opposite
unfolding trades_with_own
returns-then-not-own_opposite c = rw (known c.own_opposite.ensures c.if-not-own_opposite.true)

pub returns : goal.returns
unfolding trades_with_own
returns c = rw (known c.own_opposite.ensures c.if-not-own_opposite.false) c.would_trade.ensures

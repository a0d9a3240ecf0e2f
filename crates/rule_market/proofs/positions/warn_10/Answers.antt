-- `rule_market::positions::warn_10` meets its contract: an order that the rule does not cover gets no warning, and any other is compared by positions.
use Rattle.definitions.specs.Rules.{warn10}
use Rattle.definitions.proofs.Tests.{known}
use Rattle.rule_market.proofs.positions.warn_10.Goals as goal

pub returns-then-not-covered_by_10 : goal.returns-then-not-covered_by_10
unfolding warn10
returns-then-not-covered_by_10 c = rw (known c.covered_by_10.ensures c.if-not-covered_by_10.true)

pub returns : goal.returns
unfolding warn10
returns c = rw (known c.covered_by_10.ensures c.if-not-covered_by_10.false, ← c.reference_10.ensures) c.ten_apart.ensures

-- `rule_market::hours::rule_s` meets its contract: the tests of the definition in its order, on the best price opposite of the order's own board.
use Rattle.definitions.specs.Rules.{rule_s}
use Rattle.rule_market.proofs.hours.rule_s.Goals as goal

pub returns : goal.returns
unfolding rule_s
returns c = cc

-- `rule_market::size::rule_v` meets its contract: the tests of the definition in its order, on the remainder by the lot and the value.
use Rattle.definitions.specs.Rules.{rule_v}
use Rattle.rule_market.proofs.size.rule_v.Goals as goal

pub returns : goal.returns
unfolding rule_v
returns c =
    rw (
      c.remainder-rest.ensures,
      c.value_of-value.ensures,
    )

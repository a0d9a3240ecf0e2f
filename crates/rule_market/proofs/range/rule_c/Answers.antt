-- `rule_market::range::rule_c` meets its contract: an order that the rule does not cover is not rejected, and any other is held against the range of its security.
use Rattle.definitions.specs.Rules.{rule_c}
use Rattle.definitions.proofs.Tests.{known}
use Rattle.definitions.proofs.RangeLaws.{range-asked}
use Rattle.rule_market.proofs.range.rule_c.Goals as goal

pub returns-then-not-covered_by_c : goal.returns-then-not-covered_by_c
unfolding rule_c
returns-then-not-covered_by_c c = rw (known c.covered_by_c.ensures c.if-not-covered_by_c.true)

pub returns : goal.returns
unfolding rule_c
returns c = rw (known c.covered_by_c.ensures c.if-not-covered_by_c.false) c.outside_range.ensures

pub outside_range-requires : goal.outside_range-requires
outside_range-requires c =
    let asked = range-asked c.args.m.security c.args.o (known c.covered_by_c.ensures c.if-not-covered_by_c.false) c.requires.0 c.requires.1 in (
      asked.figures,
      asked.close,
      asked.price,
    )

-- `rule_market::percents::rule_q` meets its contract: the percentages are taken of the reference that the paper names.
use Rattle.definitions.specs.Rules.{rule_q}
use Rattle.rule_market.proofs.percents.rule_q.Goals as goal

pub returns : goal.returns
unfolding rule_q
returns c = rw (c.outside-out.ensures, c.reference_q.ensures, c.in_auction-auction.ensures)

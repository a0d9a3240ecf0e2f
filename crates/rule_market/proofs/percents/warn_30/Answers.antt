-- `rule_market::percents::warn_30` meets its contract: the percentages are taken of the reference that the paper names.
use Rattle.definitions.specs.Rules.{warn30}
use Rattle.rule_market.proofs.percents.warn_30.Goals as goal

pub returns : goal.returns
unfolding warn30
returns c = rw (c.outside-out.ensures, c.reference_30.ensures)

-- `rule_rows::reenters` meets its contract: a row that is not cancelled is not entered again, and of any other the definition's tests are made.
use borrow.Author.Tests.{eq-eqb, ne_eqb}
use Rattle.definitions.specs.Rules.{reenters}
use Rattle.rule_rows.proofs.reenters.Goals as goal

pub returns-then-r-ne-CANCELLED_MARK : goal.returns-then-r-ne-CANCELLED_MARK
unfolding reenters
returns-then-r-ne-CANCELLED_MARK c = rw (ne_eqb _ _ c.if-r-ne-CANCELLED_MARK.true)

pub returns : goal.returns
unfolding reenters
returns c =
    rw (
      eq-eqb _ _ c.if-r-ne-CANCELLED_MARK.false,
      c.half_or_more-half.ensures,
      c.in_minute-minute.ensures,
    )

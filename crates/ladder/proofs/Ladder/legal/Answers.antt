-- `ladder::Ladder::legal` meets its contract: outside the two ends no price is legal, and within them the band decides.
use mathlib.Core.Path.{sym, ◌∙◌}
use Rattle.ladder.proofs.Laws.{legal-below, legal-above, legal-within}
use Rattle.ladder.proofs.Ladder.legal.Goals as goal

pub returns-then-price-lt-FIRST_PRICE : goal.returns-then-price-lt-FIRST_PRICE
returns-then-price-lt-FIRST_PRICE c = sym (legal-below _ c.if-price-lt-FIRST_PRICE.true)

pub returns-then-price-gt-LAST_PRICE : goal.returns-then-price-gt-LAST_PRICE
returns-then-price-gt-LAST_PRICE c = sym (legal-above _ c.if-price-lt-FIRST_PRICE.false c.if-price-gt-LAST_PRICE.true)

pub returns : goal.returns
returns c = c.on_step.ensures ∙ legal-within _ c.if-price-lt-FIRST_PRICE.false c.if-price-gt-LAST_PRICE.false

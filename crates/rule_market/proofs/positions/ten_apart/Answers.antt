-- `rule_market::positions::ten_apart` meets its contract: the order's price beside the prices ten positions down from the upper and up from the lower
-- of the reference's nearest.
use mathlib.Core.Path.{sym, ◌∙◌}
use Rattle.ladder.proofs.Laws.{number-to-last}
use Rattle.rule_market.proofs.Apart.{by-price}
use Rattle.rule_market.proofs.positions.ten_apart.Goals as goal

pub returns : goal.returns
returns c =
    simp (
      c.on_ladder-to.ensures,
      c.prices-range.ensures.1,
      c.prices-range.ensures.0,
      c.ten_up.ensures,
      c.ten_down.ensures,
    )
    (by-price _ _ (sym c.nearest.ensures ∙ c.in-Some.is) (number-to-last _))

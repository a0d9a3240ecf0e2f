-- `ranges::outside_base` meets its contract: by products, with no price looked for.
use mathlib.Core.Path.{sym}
use Rattle.definitions.proofs.RangeLaws.{outside-is}
use Rattle.ranges.proofs.Laws.{floor-reached}
use Rattle.ranges.proofs.outside_base.Goals as goal

pub returns : goal.returns
returns c =
    let bounded = c.requires.0 in
    rw c.from.ensures (sym (outside-is _ bounded.denominator_some (floor-reached _ bounded) _ c.requires.1))

-- `ladder::Ladder::nearest` meets its contract: outside the two ends there is none, and within them the band of the price gives both positions.
use mathlib.Core.Path.{sym}
use native.Mathlib.Omega.{arith}
use Rattle.ladder.specs.Ladder.{band_of_price, position_in}
use Rattle.ladder.proofs.Laws.{Lower, lower, band-from, band-step}
use Rattle.ladder.proofs.NearestLaws.{none_below, none_above, on-step-nearest, off-step-nearest}
use Rattle.ladder.proofs.Ladder.nearest.Goals as goal
use Rattle.ladder.proofs.Ladder.nearest.Goals.{Else-price-gt-LAST_PRICE}

pub returns-then-price-lt-FIRST_PRICE : goal.returns-then-price-lt-FIRST_PRICE
returns-then-price-lt-FIRST_PRICE c = sym (none_below _ c.if-price-lt-FIRST_PRICE.true)

pub returns-then-price-gt-LAST_PRICE : goal.returns-then-price-gt-LAST_PRICE
returns-then-price-gt-LAST_PRICE c = sym (none_above _ c.if-price-gt-LAST_PRICE.true)

-- at a number that the first two tests let pass
within : (c : Else-price-gt-LAST_PRICE) → Lower c.args.price (position_in (band_of_price c.args.price) c.args.price)
within c = lower _ c.if-price-lt-FIRST_PRICE.false c.if-price-gt-LAST_PRICE.false

pub overflow_sub-above : goal.overflow_sub-above
overflow_sub-above c = rw c.band_of-band.ensures (band-from _ c.if-price-lt-FIRST_PRICE.false)

pub nonzero_div-lower : goal.nonzero_div-lower
nonzero_div-lower c = rw c.band_of-band.ensures (band-step _)

pub overflow_add-lower : goal.overflow_add-lower
overflow_add-lower c = rw c.band_of-band.ensures (omega (arith, (within c.before.before.before.before).to_last))

pub nonzero_rem-above : goal.nonzero_rem-above
nonzero_rem-above c = rw c.band_of-band.ensures (band-step _)

pub returns-then-above-band-eq0 : goal.returns-then-above-band-eq0
returns-then-above-band-eq0 c = on-step-nearest _ c.band_of-band.ensures c.if-price-lt-FIRST_PRICE.false c.if-price-gt-LAST_PRICE.false c.if-above-band-eq0.true

pub overflow_add-result : goal.overflow_add-result
overflow_add-result c = rw c.band_of-band.ensures (omega (arith, (within c.before.before.before.before.before.before).to_last))

pub returns : goal.returns
returns c = off-step-nearest _ c.band_of-band.ensures c.if-price-lt-FIRST_PRICE.false c.if-price-gt-LAST_PRICE.false c.if-above-band-eq0.false

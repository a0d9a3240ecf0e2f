-- `ladder::Ladder::prices` meets its contract: the rule of the table is shown once, by a test at each of its 1,300 entries, which antt computes.
use mathlib.Core.Bool.{and-eq-true_iff}
use mathlib.Core.Path.{refl}
use Prim.Native.Nat.{◌<◌}
use lib.Dec.{ltb}
use borrow.Author.Tests.{ltb-true}
use Rattle.ladder.specs.Ladder.{last_band, band_of_position, price_at}
use Rattle.ladder.proofs.Table.{ruled}
use Rattle.ladder.proofs.Ladder.prices.Goals as goal
use Rattle.ladder.proofs.Ladder.prices.Goals.{Then-low-high}

-- where the table is not read
above : (c : Then-low-high) → (1300 < c.args.low) × (1300 < c.args.high)
above c =
    let parts = (and-eq-true_iff (ltb 1300 c.args.low) (ltb 1300 c.args.high)).0 c.if-low-high.true in
    (ltb-true 1300 c.args.low parts.0, ltb-true 1300 c.args.high parts.1)

pub tabled-requires : goal.tabled-requires
unfolding price_at band_of_position last_band
tabled-requires c = ruled _ refl tt

pub tabled-requires-2 : goal.tabled-requires-2
unfolding price_at band_of_position last_band
tabled-requires-2 c = ruled _ refl tt

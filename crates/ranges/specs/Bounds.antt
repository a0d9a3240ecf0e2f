-- What the base of a sound security is below, so that no product passes 64 bits.
use Rattle.std.specs.Prelude.{◌*◌, ◌≤◌, ◌<◌}
use Rattle.ladder.specs.Bands.{last_price}
use Rattle.definitions.specs.declared.Base.{Base}

-- above 0, at most the last price, and of a denominator of two numbers of shares at most: 130 times the numerator is at most
-- 130 × 10,000,000 × 131,070, and any price times 100 times the denominator at most 4,294,967,295 × 100 × 131,070, both below 2 to the 56th
pub record Bounded (b : Base) : Type 0 where
  pub numerator_some : 0 < b.numerator
  pub denominator_some : 0 < b.denominator
  pub denominator_most : b.denominator ≤ 131_070
  pub not_above_last : b.numerator ≤ last_price * b.denominator

-- Paper 02, 3, "Daily ceiling and floor": the range of a security.
use Rattle.std.specs.Prelude.{Bool, cond, ◌&&◌, not, ℕ, ◌+◌, ◌-◌, ◌*◌, ◌/◌, min, max, leb, ltb, eqb}
use Rattle.ladder.specs.Bands.{last_price}
use Rattle.ladder.specs.Ladder.{legal_down, legal_up}
use Rattle.definitions.specs.declared.Figures.{Figures}
use Rattle.definitions.specs.declared.Security.{Security}
use Rattle.definitions.specs.declared.Base.{Base}
use Rattle.definitions.specs.declared.Range.{Range}

-- "kept as two whole numbers"
abbrev pub base : ℕ → ℕ → Base
base numerator denominator = record { numerator = numerator; denominator = denominator }

-- "((prior close − dividend) × old + subscription × new) / (old + new)"
abbrev pub adjusted : ℕ → Figures → Base
adjusted close f =
    base ((close - f.dividend) * f.old_shares + f.subscription * f.new_shares) (f.old_shares + f.new_shares)

abbrev pub not_above : Base → ℕ → Bool
not_above b close = leb b.numerator (close * b.denominator)

-- "The base is the smaller of the prior close and ..; without kind 9 figures it is the prior close."
abbrev pub has_figures : Figures → Bool
has_figures f = not (eqb f.old_shares 0)

unfoldable pub base_of : ℕ → Figures → Base
base_of close f = cond (has_figures f && not_above (adjusted close f) close) (adjusted close f) (base close 1)

-- Prices are whole satang: the greatest that is not above a fraction is not above its whole part, and the least that is not below one is not below
-- the next whole number
abbrev pub whole_up : ℕ → ℕ → ℕ
whole_up n d = (n + (d - 1)) / d

-- "Ceiling is 130% of the base, down to a legal price and at most 10,000,000; .. at least 1"
unfoldable pub ceiling_of : Base → ℕ
ceiling_of b = max 1 (legal_down (min last_price (130 * b.numerator / (100 * b.denominator))))

-- "floor is 70%, up to one; .. at least 1"
unfoldable pub floor_of : Base → ℕ
floor_of b = max 1 (legal_up (whole_up (70 * b.numerator) (100 * b.denominator)))

abbrev pub range : ℕ → ℕ → Range
range floor ceiling = record { floor = floor; ceiling = ceiling }

-- "With a prior close below 1.00 baht the floor is 0.01 and the ceiling twice the prior close."
unfoldable pub range_of : ℕ → Figures → Range
range_of close f = cond (ltb close 100) (range 1 (2 * close)) (range (floor_of (base_of close f)) (ceiling_of (base_of close f)))

-- "For securities that are not free and have a prior close"
abbrev pub has_range : Security → Bool
has_range s = not (eqb s.terms.free 1) && not (eqb s.prior.close 0)

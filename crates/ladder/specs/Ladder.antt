-- Paper 01, "Prices and the ladder": what the table of bands says of a price and of a position.
use Rattle.std.specs.Prelude.{Bool, cond, ◌&&◌, List, [], ◌∷◌, ◌≡◌, ℕ, zero, suc, ◌+◌, ◌-◌, ◌*◌, ◌/◌, ◌%◌, ◌≤◌, leb, eqb, get_or, Option, Some, None}
use Rattle.ladder.specs.declared.Band.{Band}
use Rattle.ladder.specs.declared.NearestPositions.{NearestPositions}
use Rattle.ladder.specs.Bands.{lowest, higher, first_price, last_price, positions}

-- the last of the bands, b first, whose key is at most n
unfoldable pub last_band : (Band → ℕ) → ℕ → Band → List Band → Band
last_band key n b [] = b
last_band key n b (c ∷ cs) = cond (leb (key c) n) (last_band key n c cs) b

unfoldable pub band_of_price : ℕ → Band
band_of_price p = last_band (λ b. b.from) p lowest higher

unfoldable pub band_of_position : ℕ → Band
band_of_position k = last_band (λ b. b.first) k lowest higher

-- a price of the band: a whole number of steps above its first
abbrev pub on_step : Band → ℕ → Bool
on_step b p = eqb ((p - b.from) % b.step) 0

abbrev pub position_in : Band → ℕ → ℕ
position_in b p = b.first + (p - b.from) / b.step

abbrev pub price_in : Band → ℕ → ℕ
price_in b k = b.from + b.step * (k - b.first)

-- "Prices are whole satang (0.01 baht), 1 to 10,000,000."
abbrev pub is_price : ℕ → Bool
is_price p = leb first_price p && leb p last_price

unfoldable pub legal : ℕ → Bool
legal p = is_price p && on_step (band_of_price p) p

unfoldable pub position_of : ℕ → Option ℕ
position_of p = cond (legal p) (Some (position_in (band_of_price p) p)) None

-- 0, which is no position, for a price off the ladder
abbrev pub position_number : Option ℕ → ℕ
position_number (Some k) = k
position_number None = 0

-- Paper 02, 2: "the nearest position at or below, the nearest at or above, and whether the price is legal". On a step of its band both are the price's
-- position; off it the upper one is the next.
abbrev pub nearest_in : Band → ℕ → NearestPositions
nearest_in b p =
    record { lower = position_in b p; upper = cond (on_step b p) (position_in b p) (position_in b p + 1); legal = on_step b p }

-- "for each price from 1 to 10,000,000 ..; for others, none"
unfoldable pub nearest_to : ℕ → Option NearestPositions
nearest_to p = cond (is_price p) (Some (nearest_in (band_of_price p) p)) None

-- 0, which is no position, for none
abbrev pub lower_number : Option NearestPositions → ℕ
lower_number (Some n) = n.lower
lower_number None = 0

abbrev pub upper_number : Option NearestPositions → ℕ
upper_number (Some n) = n.upper
upper_number None = 0

-- 0, the absent price, for a number that is no position
unfoldable pub price_at : ℕ → ℕ
price_at k = cond (leb 1 k && leb k positions) (price_in (band_of_position k) k) 0

-- Paper 02, 3: "down to a legal price", the greatest that is not above p; 0 where there is none
unfoldable pub legal_down : ℕ → ℕ
legal_down zero = 0
legal_down (suc p) = cond (legal (suc p)) (suc p) (legal_down p)

-- the least legal price of the last n; 0 where there is none
unfoldable pub least_of_last : ℕ → ℕ
least_of_last zero = 0
least_of_last (suc n) = cond (legal (last_price - n)) (last_price - n) (least_of_last n)

-- "up to one", the least that is not below p
abbrev pub legal_up : ℕ → ℕ
legal_up p = least_of_last (last_price + 1 - p)

-- "The gate keeps the 1,300 legal prices up to 400.00 as a constant table, and this rule is shown once over all of it."
pub record StepRule (table : List ℕ) : Type 0 where
  pub at : (k : ℕ) → 1 ≤ k → k ≤ 1300 → get_or table (k - 1) 0 ≡ price_at k

-- Paper 01, "Along each edge": the cases marked to be proved, as entries of one table, and one theorem over the whole; and the edges of paper 02's requests.
use Rattle.std.specs.Prelude.{Option, Some, None}
use mathlib.Core.Bool.{true, false}
use mathlib.Core.List.{List, [], ◌∷◌, ◌++◌, map}
use mathlib.Core.Path.{◌≡◌, refl}
use Prim.Native.Nat.{ℕ, ◌+◌}
use Rattle.ladder.specs.declared.NearestPositions.{NearestPositions}
use Rattle.ladder.specs.Ladder.{position_of, nearest_to, legal, band_of_price, last_band}
use Rattle.definitions.specs.declared.Figures.{Figures}
use Rattle.definitions.specs.declared.Base.{Base}
use Rattle.definitions.specs.declared.Range.{Range}
use Rattle.definitions.specs.Answers as answer
use Rattle.definitions.specs.Answers.{Answer}
use Rattle.definitions.specs.declared.Verdict.{Verdict}
use Rattle.definitions.specs.declared.Verdict.TheVariants.{RejectV, RejectC, RejectQ, RejectW, RejectP, Warn30, Warn10, Accept}
use Rattle.definitions.specs.Ranges.{base_of, range_of, floor_of, ceiling_of}
use Rattle.definitions.proofs.Bytes.{clock, session, setup, prices, order, cancel, rest, figures}
use Rattle.definitions.proofs.Run.{answers_of, last_of}

-- what a case asks: the position of a price, the nearest positions of one, the base and the range of a prior close with figures, or the answer to the last event of a history of one customer and one security
pub data Question : Type 0 where
  position : ℕ → Question
  nearest : ℕ → Question
  range : ℕ → Figures → Question
  last_answer : List (List ℕ) → Question

pub data Found : Type 0 where
  at : Option ℕ → Found
  beside : Option NearestPositions → Found
  between-prices : Base → Range → Found
  answered : Answer → Found

abbrev pub find : Question → Found
find (position p) = at (position_of p)
find (nearest p) = beside (nearest_to p)
find (range close f) = between-prices (base_of close f) (range_of close f)
find (last_answer history) = answered (last_of (answers_of 1 1 history) answer.Ok)

pub record Case : Type 0 where
  pub asked : Question
  pub right : Found

-- a price and its position
abbrev pub stands : ℕ → ℕ → Case
stands price k = record { asked = position price; right = at (Some k) }

-- a price and its nearest positions: two where it lies between two steps, and one where it is legal
abbrev pub lies : ℕ → Option NearestPositions → Case
lies price n = record { asked = nearest price; right = beside n }

abbrev pub between : ℕ → ℕ → Option NearestPositions
between lower upper = Some (record { lower = lower; upper = upper; legal = false })

abbrev pub exactly : ℕ → Option NearestPositions
exactly k = Some (record { lower = k; upper = k; legal = true })

-- a prior close with figures, its base as two whole numbers, its floor and its ceiling
abbrev pub ranges : ℕ → Figures → ℕ × ℕ → ℕ → ℕ → Case
ranges close f b floor ceiling =
    record { asked = range close f; right = between-prices (record { numerator = b.0; denominator = b.1 }) (record { floor = floor; ceiling = ceiling }) }

abbrev pub figures_of : ℕ → ℕ → ℕ → ℕ → Figures
figures_of dividend subscription old new = record { dividend = dividend; subscription = subscription; old_shares = old; new_shares = new }

abbrev pub no_figures : Figures
no_figures = figures_of 0 0 0 0

-- a history and the verdict on the order at its end
abbrev pub judged : List (List ℕ) → List ℕ → Verdict → Case
judged before last v = record { asked = last_answer (before ++ (last ∷ [])); right = answered (answer.Verdict v) }

-- limit orders of customer 0 in security 0 on the main board: by the front office, and online
abbrev pub office : ℕ → ℕ → ℕ → List ℕ
office number price volume = order 0 number 0 0 0 0 0 price volume

abbrev pub online_buy : ℕ → ℕ → ℕ → List ℕ
online_buy number price volume = order 0 number 0 0 0 0 1 price volume

abbrev pub online_sell : ℕ → ℕ → ℕ → List ℕ
online_sell number price volume = order 0 number 0 0 1 0 1 price volume

-- a free security in session 1 with the projected price 10.00, and in session 2 with the last sale 10.00
abbrev pub free_auction : List (List ℕ)
free_auction = setup 0 100 1 0 0 0 ∷ session 1 ∷ prices 0 0 1000 0 0 0 ∷ []

abbrev pub free_open : List (List ℕ)
free_open = setup 0 100 1 0 0 0 ∷ session 2 ∷ prices 0 0 0 1000 0 0 ∷ []

-- session 1 with the projected price 24.50
abbrev pub auction : List (List ℕ)
auction = session 1 ∷ prices 0 0 2450 0 0 0 ∷ []

-- session 2, an own sell at 50.00
abbrev pub own_sell : List (List ℕ)
own_sell = session 2 ∷ online_sell 1 5000 100 ∷ []

-- session 2, a buy of some volume at 50.00, cancelled at once, at 10:00, then a later clock
abbrev pub cancelled_ago : ℕ → ℕ → List (List ℕ)
cancelled_ago volume ago = clock 36_000_000 ∷ session 2 ∷ online_buy 1 5000 volume ∷ cancel 0 1 ∷ clock (36_000_000 + ago) ∷ []

abbrev pub open_session : List (List ℕ)
open_session = session 2 ∷ []

-- session 2 with an offer of 50.25, and an MP buy of 100,000
abbrev pub at_market : List (List ℕ)
at_market = session 2 ∷ prices 0 0 0 0 0 5025 ∷ order 0 1 0 0 0 3 0 0 100_000 ∷ []

-- session 1 with the prior close 65.60 and no other price
abbrev pub adjusted : List (List ℕ)
adjusted = setup 0 100 0 0 6560 0 ∷ session 1 ∷ []

-- session 2, a prior close of 150.00, and three new shares for two at 10.00
abbrev pub with_right : List (List ℕ)
with_right = setup 0 100 0 0 15_000 0 ∷ figures 0 0 1000 2 3 ∷ session 2 ∷ []

abbrev pub cases : List Case
cases =
    -- "Positions: 1.99 is 199, 2.00 is 200, 400.00 is 1300."
    stands 199 199
    ∷ stands 200 200
    ∷ stands 40_000 1300
    -- "Q at 10.00: 15.00 passes, 15.10 not; 5.00 passes, 4.98 not."
    ∷ judged free_auction (office 1 1500 100) Accept
    ∷ judged free_auction (office 1 1510 100) RejectQ
    ∷ judged free_auction (office 1 500 100) Accept
    ∷ judged free_auction (office 1 498 100) RejectQ
    -- "warn 30 at 10.00: 13.00 and 7.00 pass; 13.10 and 6.95 warn."
    ∷ judged free_open (office 1 1300 100) Accept
    ∷ judged free_open (office 1 700 100) Accept
    ∷ judged free_open (office 1 1310 100) Warn30
    ∷ judged free_open (office 1 695 100) Warn30
    -- "warn 10 at 24.50: 26.25 and 23.50 pass; 26.50 and 23.40 warn."
    ∷ judged auction (online_buy 1 2625 100) Accept
    ∷ judged auction (online_buy 1 2350 100) Accept
    ∷ judged auction (online_buy 1 2650 100) Warn10
    ∷ judged auction (online_buy 1 2340 100) Warn10
    -- "Own sell at 50.00: buy at 49.75 passes, at 50.00 W."
    ∷ judged own_sell (online_buy 2 4975 100) Accept
    ∷ judged own_sell (online_buy 2 5000 100) RejectW
    -- "Cancelled 100,000 at 50.00: 60,000 again after 60,000 ms P; after 60,001 ms, or 59,900 shares, accept."
    ∷ judged (cancelled_ago 100_000 60_000) (online_buy 2 5000 60_000) RejectP
    ∷ judged (cancelled_ago 100_000 60_001) (online_buy 2 5000 60_000) Accept
    ∷ judged (cancelled_ago 100_000 60_000) (online_buy 2 5000 59_900) Accept
    -- "Cancelled 120,000: 60,000 gets P; cancelled 120,200: accept."
    ∷ judged (cancelled_ago 120_000 0) (online_buy 2 5000 60_000) RejectP
    ∷ judged (cancelled_ago 120_200 0) (online_buy 2 5000 60_000) Accept
    -- "10,000,000 at 50.00 passes V; 10,000,100 not."
    ∷ judged open_session (office 1 5000 10_000_000) Accept
    ∷ judged open_session (office 1 5000 10_000_100) RejectV
    -- paper 02, 1: "W compares with such a row only once it is a limit": a rest at 50.00
    ∷ judged at_market (online_sell 2 4975 100) Accept
    ∷ judged (at_market ++ (rest 0 1 5000 ∷ [])) (online_sell 2 5000 100) RejectW
    ∷ judged (at_market ++ (rest 0 1 5000 ∷ [])) (online_sell 2 5025 100) Accept
    -- it is cancelled as a limit, and seen by P inside the minute; "Cancel .. treat[s] type 3 as ATO": no cancel is kept
    ∷ judged (at_market ++ (rest 0 1 5000 ∷ cancel 0 1 ∷ clock 60_000 ∷ [])) (online_buy 2 5000 60_000) RejectP
    ∷ judged (at_market ++ (rest 0 1 5000 ∷ cancel 0 1 ∷ clock 60_001 ∷ [])) (online_buy 2 5000 60_000) Accept
    ∷ judged (at_market ++ (cancel 0 1 ∷ [])) (online_buy 1 5000 60_000) Accept
    -- paper 02, 2: "adjusted prior closes such as 65.60, which lies between two steps": 65.50 and 65.75
    ∷ stands 6550 762
    ∷ stands 6575 763
    ∷ lies 6560 (between 762 763)
    ∷ lies 6550 (exactly 762)
    -- "for each price from 1 to 10,000,000 ..; for others, none"
    ∷ lies 1 (exactly 1)
    ∷ lies 201 (between 200 201)
    ∷ lies 39_999 (between 1299 1300)
    ∷ lies 40_001 (between 1300 1301)
    ∷ lies 9_999_999 (between 51_099 51_100)
    ∷ lies 10_000_000 (exactly 51_100)
    ∷ lies 0 None
    ∷ lies 10_000_001 None
    ∷ lies 4_294_967_295 None
    -- "Warn 10 counts up from the lower and down from the upper position"
    ∷ judged adjusted (online_buy 1 6800 100) Accept
    ∷ judged adjusted (online_buy 1 6825 100) Warn10
    ∷ judged adjusted (online_buy 1 6325 100) Accept
    ∷ judged adjusted (online_buy 1 6300 100) Warn10
    -- paper 02, 3: "150.00 with 2 old, 3 new at 10.00 gives base 66.00, ceiling 85.75, floor 46.25"
    ∷ ranges 15_000 (figures_of 0 1000 2 3) (33_000, 5) 4625 8575
    ∷ judged with_right (office 1 4600 100) RejectC
    ∷ judged with_right (office 1 4625 100) Accept
    ∷ judged with_right (office 1 4650 100) Accept
    ∷ judged with_right (office 1 8550 100) Accept
    ∷ judged with_right (office 1 8575 100) Accept
    ∷ judged with_right (office 1 8600 100) RejectC
    -- "without kind 9 figures it is the prior close": 10.00 and 65.60, between two steps
    ∷ ranges 1000 no_figures (1000, 1) 700 1300
    ∷ ranges 6560 no_figures (6560, 1) 4600 8525
    -- "With a prior close below 1.00 baht": 0.99, whatever the figures; 1.00
    ∷ ranges 99 no_figures (99, 1) 1 198
    ∷ ranges 99 (figures_of 98 0 1 1) (1, 2) 1 198
    ∷ ranges 100 no_figures (100, 1) 70 130
    -- "the smaller": figures that would raise it, and the largest subscription with 65,535 new shares, leave the prior close
    ∷ ranges 1000 (figures_of 0 1001 1 1) (1000, 1) 700 1300
    ∷ ranges 1000 (figures_of 0 4_294_967_295 1 65_535) (1000, 1) 700 1300
    -- a dividend one satang below the close: a base of 0.01, and with 65,535 new shares for nothing of a 65,536th of it
    ∷ ranges 1000 (figures_of 999 0 1 0) (1, 1) 1 1
    ∷ ranges 1000 (figures_of 999 0 1 65_535) (1, 65_536) 1 1
    -- "at most 10,000,000"
    ∷ ranges 10_000_000 no_figures (10_000_000, 1) 7_000_000 10_000_000
    ∷ ranges 10_000_000 (figures_of 9_999_999 4_294_967_295 65_535 65_535) (10_000_000, 1) 7_000_000 10_000_000
    -- 70% of 1.5 satang is above 0.01 and 130% below 0.02: the floor is above the ceiling
    ∷ ranges 100 (figures_of 99 2 1 1) (3, 2) 2 1
    ∷ []

pub all_right : map (λ (c : Case). find c.asked) cases ≡ map (λ (c : Case). c.right) cases
unfolding position_of nearest_to legal band_of_price last_band base_of range_of floor_of ceiling_of answers_of
all_right = refl

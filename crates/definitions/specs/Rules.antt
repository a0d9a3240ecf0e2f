-- Paper 01, "Verdicts, first that applies".
use Rattle.std.specs.Prelude.{Bool, false, cond, ◌&&◌, ◌||◌, not, List, [], ◌∷◌, ℕ, ◌+◌, ◌*◌, ◌%◌, leb, ltb, eqb, Option, Some, None}
use Rattle.ladder.specs.declared.NearestPositions.{NearestPositions}
use Rattle.ladder.specs.Ladder.{position_of, position_number, nearest_to}
use Rattle.definitions.specs.declared.Prices.{Prices}
use Rattle.definitions.specs.declared.Security.{Security}
use Rattle.definitions.specs.declared.Row.{Row}
use Rattle.definitions.specs.declared.Desk.{Desk}
use Rattle.definitions.specs.declared.Range.{Range}
use Rattle.definitions.specs.declared.MarketView.{MarketView}
use Rattle.definitions.specs.declared.Order.{Order}
use Rattle.definitions.specs.declared.Verdict.{Verdict}
use Rattle.definitions.specs.declared.Verdict.TheVariants as verdict
use Rattle.definitions.specs.Codes.{closed, pre_open, opened, break, pre_close, in_auction, main_board, foreign_board, buy, sell, ato, atc, mp, is_limit, is_auction, online, dma, max_volume}
use Rattle.definitions.specs.Desks.{is_open, cancelled_in_minute}
use Rattle.definitions.specs.Lists.{any}
use Rattle.definitions.specs.Ranges.{has_range, range_of}

-- what a rule may see: the market's side (session, clock, one security) and one desk; no customer's number
pub record View : Type 0 where
  pub market : MarketView
  pub desk : Desk

-- the four prices of the order's own board
abbrev pub prices_on : Security → ℕ → Prices
prices_on s board = cond (eqb board foreign_board) s.foreign s.main

-- "0 means absent": the first price, else the second
abbrev pub or_else : ℕ → ℕ → ℕ
or_else a b = cond (eqb a 0) b a

-- in satang
abbrev pub value_of : Order → ℕ
value_of o = o.price * o.volume

-- "best price opposite": the offer for a buy, the bid for a sell
abbrev pub best_opposite : Prices → ℕ → ℕ
best_opposite p side = cond (eqb side buy) p.offer p.bid

-- S: "session 0 or 3; ATO outside 1; ATC outside 4; MP outside 2; MP with no best price opposite on its board"
unfoldable pub rule_s : MarketView → Order → Bool
rule_s m o =
    eqb m.session closed
    || eqb m.session break
    || eqb o.order_type ato && not (eqb m.session pre_open)
    || eqb o.order_type atc && not (eqb m.session pre_close)
    || eqb o.order_type mp && not (eqb m.session opened)
    || eqb o.order_type mp && eqb (best_opposite (prices_on m.security o.board) o.side) 0

-- V: "volume 0, over 20,000,000 or no multiple of the lot; limit value over 500 million baht"
unfoldable pub rule_v : MarketView → Order → Bool
rule_v m o =
    eqb o.volume 0
    || ltb max_volume o.volume
    || not (eqb (o.volume % m.security.terms.lot) 0)
    || is_limit o.order_type && ltb 50_000_000_000 (value_of o)

-- C: "For securities that are not free and have a prior close, a main-board limit outside the range is rejected with C, between V and Q."
abbrev pub outside_range : Range → ℕ → Bool
outside_range r price = ltb price r.floor || ltb r.ceiling price

abbrev pub covered_by_c : Security → Order → Bool
covered_by_c s o = is_limit o.order_type && eqb o.board main_board && has_range s

unfoldable pub rule_c : MarketView → Order → Bool
rule_c m o =
    covered_by_c m.security o && outside_range (range_of m.security.prior.close m.security.figures) o.price

-- "on the foreign board else the main board's last sale"
abbrev pub main_last_sale : Security → ℕ → ℕ
main_last_sale s board = cond (eqb board foreign_board) s.main.last_sale 0

-- "the IPO price if first day and not 0"
abbrev pub first_day_ipo : Security → ℕ
first_day_ipo s = cond (eqb s.terms.first_day 1) s.prior.ipo 0

-- Q: "Reference: projected, else last sale; on the foreign board else the main board's last sale; else the IPO price if first day and not 0"
abbrev pub reference_q : Security → ℕ → ℕ
reference_q s board =
    or_else (prices_on s board).projected (or_else (prices_on s board).last_sale (or_else (main_last_sale s board) (first_day_ipo s)))

-- "above .. % or below .. % of the reference"; no reference, "no check"
abbrev pub outside : ℕ → ℕ → ℕ → ℕ → Bool
outside low high reference price = not (eqb reference 0) && (ltb (high * reference) (100 * price) || ltb (100 * price) (low * reference))

-- "limits, sessions 1 and 4, free security, every channel: price above 150% or below 50% of the reference"
unfoldable pub rule_q : MarketView → Order → Bool
rule_q m o =
    is_limit o.order_type
    && in_auction m.session
    && eqb m.security.terms.free 1
    && outside 50 150 (reference_q m.security o.board) o.price

-- W: "the customer's own open rows of that security and board, opposite side, however entered"
abbrev pub own_opposite : Order → Row → Bool
own_opposite o r =
    is_open r && eqb r.security o.security && eqb r.board o.board && not (eqb r.side o.side)

-- "limit buy at or above it against an own ATO or ATC sell, and ATO or ATC buy against an own limit sell at or below it; limit sell at or below it
-- against an own ATO or ATC buy, and ATO or ATC sell against an own limit buy at or above it"
abbrev pub would_trade_at_projected : ℕ → Order → Row → Bool
would_trade_at_projected projected o r =
    is_limit o.order_type && eqb o.side buy && leb projected o.price && is_auction r.order_type
    || is_auction o.order_type && eqb o.side buy && is_limit r.order_type && leb r.price projected
    || is_limit o.order_type && eqb o.side sell && leb o.price projected && is_auction r.order_type
    || is_auction o.order_type && eqb o.side sell && is_limit r.order_type && leb projected r.price

-- "Limit buy at or above an own limit sell; limit sell at or below an own limit buy. ATO or ATC against ATO or ATC. With a projected price, in
-- sessions 1 and 4: .. MP buy if the best offer equals an own limit sell's price; MP sell likewise with the bid."
abbrev pub would_trade : ℕ → Prices → Order → Row → Bool
would_trade session p o r =
    is_limit o.order_type && eqb o.side buy && is_limit r.order_type && leb r.price o.price
    || is_limit o.order_type && eqb o.side sell && is_limit r.order_type && leb o.price r.price
    || is_auction o.order_type && is_auction r.order_type
    || in_auction session && not (eqb p.projected 0) && would_trade_at_projected p.projected o r
    || eqb o.order_type mp && eqb o.side buy && is_limit r.order_type && eqb p.offer r.price
    || eqb o.order_type mp && eqb o.side sell && is_limit r.order_type && eqb p.bid r.price

unfoldable pub trades_with_own : ℕ → Prices → Order → Row → Bool
trades_with_own session p o r = own_opposite o r && would_trade session p o r

-- "online only"
unfoldable pub rule_w : View → Order → Bool
rule_w v o =
    eqb o.channel online && any (trades_with_own v.market.session (prices_on v.market.security o.board) o) v.desk.rows

-- P: "an own row cancelled at most 60,000 ms ago with the same security, board, side and price, twice the new volume being at least the
-- cancelled volume"
unfoldable pub reenters : ℕ → Order → Row → Bool
reenters clock o r =
    cancelled_in_minute clock r
    && eqb r.security o.security
    && eqb r.board o.board
    && eqb r.side o.side
    && eqb r.price o.price
    && leb r.volume (2 * o.volume)

-- "limits, online, session 2: value at least 3 million baht"
unfoldable pub rule_p : View → Order → Bool
rule_p v o =
    is_limit o.order_type
    && eqb o.channel online
    && eqb v.market.session opened
    && leb 300_000_000 (value_of o)
    && any (reenters v.market.clock o) v.desk.rows

-- warn 30: "the last sale (foreign board: else the main board's); none, no check"
abbrev pub reference30 : Security → ℕ → ℕ
reference30 s board = or_else (prices_on s board).last_sale (main_last_sale s board)

-- "limits, session 2, free: above 130% or below 70%"
unfoldable pub warn30 : MarketView → Order → Bool
warn30 m o =
    is_limit o.order_type
    && eqb m.session opened
    && eqb m.security.terms.free 1
    && outside 70 130 (reference30 m.security o.board) o.price

-- warn 10: "from the projected price, else last sale, else prior close"
abbrev pub reference10 : Security → ℕ
reference10 s = or_else s.main.projected (or_else s.main.last_sale s.prior.close)

-- "more than 10 ladder positions"; paper 02, 2, of a reference between two steps: "Warn 10 counts up from the lower and down from the upper position";
-- "none, no check"
abbrev pub ten_apart : Option NearestPositions → ℕ → Bool
ten_apart (Some n) k = ltb (n.lower + 10) k || ltb (k + 10) n.upper
ten_apart None k = false

-- "limits, main board, sessions 1 and 4, online and DMA"
abbrev pub covered_by10 : ℕ → Order → Bool
covered_by10 session o =
    is_limit o.order_type
    && eqb o.board main_board
    && in_auction session
    && (eqb o.channel online || eqb o.channel dma)

unfoldable pub warn10 : MarketView → Order → Bool
warn10 m o =
    covered_by10 m.session o
    && ten_apart (nearest_to (reference10 m.security)) (position_number (position_of o.price))

-- "first that applies .. Else accept."
abbrev pub first_that : List (Bool × Verdict) → Verdict
first_that [] = verdict.Accept
first_that (c ∷ cs) = cond c.0 c.1 (first_that cs)

unfoldable pub verdict_of : View → Order → Verdict
verdict_of v o =
    first_that
    ((rule_s v.market o, verdict.RejectS)
    ∷ (rule_v v.market o, verdict.RejectV)
    ∷ (rule_c v.market o, verdict.RejectC)
    ∷ (rule_q v.market o, verdict.RejectQ)
    ∷ (rule_w v o, verdict.RejectW)
    ∷ (rule_p v o, verdict.RejectP)
    ∷ (warn30 v.market o, verdict.Warn30)
    ∷ (warn10 v.market o, verdict.Warn10)
    ∷ [])

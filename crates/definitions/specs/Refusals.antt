-- Paper 01, "Where an event is turned back": the table of conditions from place "names" on, once for the gate and the lone run. Condition 1 is `state_fits`
-- of State, conditions 2 and 3 are `bytes_conditions` of Events, and what condition 8 asks, which sees all the words, is in Gate.
use Rattle.std.specs.Prelude.{Bool, false, ◌&&◌, ◌||◌, not, List, [], ◌∷◌, ◌++◌, ℕ, leb, ltb, eqb}
use Rattle.ladder.specs.Ladder.{legal}
use Rattle.definitions.specs.declared.Header.{Header}
use Rattle.definitions.specs.declared.Figures.{Figures}
use Rattle.definitions.specs.declared.Row.{Row}
use Rattle.definitions.specs.declared.Order.{Order}
use Rattle.definitions.specs.declared.Match.{Match}
use Rattle.definitions.specs.declared.Event.{Event}
use Rattle.definitions.specs.declared.Event.TheVariants as event
use Rattle.definitions.specs.Codes.{pre_close, foreign_board, sell, mp, dma, last_time, desk_rows}
use Rattle.definitions.specs.Lists.{any, count}
use Rattle.definitions.specs.Sound.{sound_terms, sound_prior, sound_prices, settable, priced_as}
use Rattle.definitions.specs.Changes.{Named, if_one, customer_named, security_named}
use Rattle.definitions.specs.Desks.{open_or_in_minute, open_with, open_mp_with, takes_row}
use Rattle.definitions.specs.Rules.{View, verdict_of}

-- 4: "customer at least C, or security at least S"
abbrev pub beyond : ℕ → Named → Bool
beyond n = if_one false (leb n)

abbrev pub bad_name : Header → Event → Bool
bad_name h e = beyond h.customers (customer_named e) || beyond h.securities (security_named e)

-- 5: "a code outside its list, time over 86,399,999, order number 0", of an order
abbrev pub bad_code : Order → Bool
bad_code o =
    ltb foreign_board o.board || ltb sell o.side || ltb mp o.order_type || ltb dma o.channel || eqb o.number 0

-- 5, and of other kinds; 6: "market price or prior close neither absent nor on the ladder; IPO over 10,000,000; limit off the ladder; price not 0 for
-- another type"; 7: "earlier than the state's". Paper 02, 1, of kind 8: "a price off the ladder 6"; 2: "Refusal 6 .. now take[s] any prior close up to 10,000,000"
abbrev pub field_conditions : Header → Event → List (ℕ × Bool)
field_conditions h (event.Clock t) = (5, ltb last_time t) ∷ (7, ltb t h.clock) ∷ []
field_conditions h (event.Session s) = (5, ltb pre_close s) ∷ []
field_conditions h (event.Setup x) = (5, not (sound_terms x.terms)) ∷ (6, not (sound_prior x.prior)) ∷ []
field_conditions h (event.Prices x) = (5, ltb foreign_board x.board) ∷ (6, not (sound_prices x.prices)) ∷ []
field_conditions h (event.Order k x) = (5, bad_code x) ∷ (6, not (priced_as x.order_type x.price)) ∷ []
field_conditions h (event.Cancel k x) = (5, eqb x.number 0) ∷ []
field_conditions h (event.Match k x) = (5, eqb x.number 0) ∷ []
field_conditions h (event.Rest k x) = (5, eqb x.number 0) ∷ (6, not (legal x.price)) ∷ []
field_conditions h (event.Figures x) = []

-- 9: "order number equal to that of an open row or a row cancelled at most 60,000 ms ago"
abbrev pub holds_number : ℕ → ℕ → Row → Bool
holds_number clock number r = open_or_in_minute clock r && eqb r.number number

abbrev pub number_taken : View → Order → Bool
number_taken v o = any (holds_number v.market.clock o.number) v.desk.rows

-- 10: "cancel or match: no open row with the number"
abbrev pub no_open_row : View → ℕ → Bool
no_open_row v number = not (any (open_with number) v.desk.rows)

-- paper 02, 1, of kind 8: "without such a row it gets refusal 10"
abbrev pub no_open_mp_row : View → ℕ → Bool
no_open_mp_row v number = not (any (open_mp_with number) v.desk.rows)

-- 11: "match volume 0 or above the row's"
abbrev pub open_below : ℕ → ℕ → Row → Bool
open_below number volume r = open_with number r && ltb r.volume volume

abbrev pub bad_volume : View → Match → Bool
bad_volume v x = eqb x.volume 0 || any (open_below x.number x.volume) v.desk.rows

-- 12: "order, .., whose verdict is accept or warn, while open rows and rows cancelled at most 60,000 ms ago are 32"; paper 02, 1: an MP order too
abbrev pub desk_full : View → Order → Bool
desk_full v o =
    takes_row (verdict_of v o) && eqb (count (open_or_in_minute v.market.clock) v.desk.rows) desk_rows

-- paper 02, 3: "13 if old is 0 or the dividend is not below the prior close, checked after 8 on the security"
abbrev pub bad_figures : View → Figures → Bool
bad_figures v f = not (settable v.market.security.prior.close f)

abbrev pub later_conditions : View → Event → List (ℕ × Bool)
later_conditions v (event.Clock t) = []
later_conditions v (event.Session s) = []
later_conditions v (event.Setup x) = []
later_conditions v (event.Prices x) = []
later_conditions v (event.Order k x) = (9, number_taken v x) ∷ (12, desk_full v x) ∷ []
later_conditions v (event.Cancel k x) = (10, no_open_row v x.number) ∷ []
later_conditions v (event.Match k x) = (10, no_open_row v x.number) ∷ (11, bad_volume v x) ∷ []
later_conditions v (event.Rest k x) = (10, no_open_mp_row v x.number) ∷ []
later_conditions v (event.Figures x) = (13, bad_figures v x.figures) ∷ []

-- the table: "Checks run from top to bottom". The records' condition, 8, is the gate's alone.
abbrev pub early_conditions : Header → Event → List (ℕ × Bool)
early_conditions h e = (4, bad_name h e) ∷ field_conditions h e

abbrev pub event_conditions : Header → List (ℕ × Bool) → View → Event → List (ℕ × Bool)
event_conditions h records v e = early_conditions h e ++ (records ++ later_conditions v e)

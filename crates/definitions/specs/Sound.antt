-- Paper 01, "A record is sound if: ..".
use Rattle.std.specs.Prelude.{Bool, true, cond, ◌&&◌, ◌||◌, not, List, [], ◌∷◌, ℕ, leb, ltb, eqb}
use Rattle.ladder.specs.Bands.{last_price}
use Rattle.ladder.specs.Ladder.{legal}
use Rattle.definitions.specs.declared.Terms.{Terms}
use Rattle.definitions.specs.declared.PriorPrices.{PriorPrices}
use Rattle.definitions.specs.declared.Prices.{Prices}
use Rattle.definitions.specs.declared.Figures.{Figures}
use Rattle.definitions.specs.declared.Security.{Security}
use Rattle.definitions.specs.declared.Row.{Row}
use Rattle.definitions.specs.declared.Desk.{Desk}
use Rattle.definitions.specs.Codes.{free_mark, open_mark, cancelled_mark, foreign_board, sell, mp, is_limit, max_volume, max_shares}
use Rattle.definitions.specs.Lists.{any, all}
use Rattle.definitions.specs.State.{row_words}

-- "lot (1, 50 or 100)", flags: "lot and flags have listed values"
abbrev pub sound_terms : Terms → Bool
sound_terms t = (eqb t.lot 1 || eqb t.lot 50 || eqb t.lot 100) && leb t.free 1 && leb t.first_day 1

-- "prices are absent or on the ladder"
abbrev pub price_or_absent : ℕ → Bool
price_or_absent p = eqb p 0 || legal p

-- "(IPO: 0 to 10,000,000)"; paper 02, 2: "Refusal 6 and soundness now take any prior close up to 10,000,000"
abbrev pub sound_prior : PriorPrices → Bool
sound_prior p = leb p.close last_price && leb p.ipo last_price

abbrev pub sound_prices : Prices → Bool
sound_prices p = price_or_absent p.projected && price_or_absent p.last_sale && price_or_absent p.bid && price_or_absent p.offer

-- paper 02, 3, what kind 9 may set: "Turned away: 13 if old is 0 or the dividend is not below the prior close"; its shares have two bytes each
abbrev pub settable : ℕ → Figures → Bool
settable close f =
    leb 1 f.old_shares && leb f.old_shares max_shares && leb f.new_shares max_shares && ltb f.dividend close

-- "they are sound if all zero or as kind 9 could have set them"
abbrev pub zero_figures : Figures → Bool
zero_figures f = eqb f.dividend 0 && eqb f.subscription 0 && eqb f.old_shares 0 && eqb f.new_shares 0

abbrev pub sound_figures : ℕ → Figures → Bool
sound_figures close f = zero_figures f || settable close f

unfoldable pub sound_security : Security → Bool
sound_security s =
    sound_terms s.terms
    && sound_prior s.prior
    && sound_prices s.main
    && sound_prices s.foreign
    && sound_figures s.prior.close s.figures

abbrev pub marked : Row → Bool
marked r = not (eqb r.mark free_mark)

-- "free rows are all zero"
abbrev pub all_zero : Row → Bool
all_zero r = all (λ (n : ℕ). eqb n 0) (row_words r)

-- "a ladder price for a limit and 0 for ATO and ATC"; paper 02, 1: type 3 is "sound only with price 0"
abbrev pub priced_as : ℕ → ℕ → Bool
priced_as type price = is_limit type && legal price || not (is_limit type) && eqb price 0

-- "the cancel time is 0 if open and at most the clock if cancelled; a cancelled row is a limit"
abbrev pub open_or_cancelled : ℕ → Row → Bool
open_or_cancelled clock r =
    eqb r.mark open_mark && eqb r.cancel_time 0
    || eqb r.mark cancelled_mark && leb r.cancel_time clock && is_limit r.order_type

-- "a marked row has a number above 0 .., a security below S, listed codes, .. volume 1 to 20,000,000"
abbrev pub sound_marked : ℕ → ℕ → Row → Bool
sound_marked securities clock r =
    open_or_cancelled clock r
    && ltb 0 r.number
    && ltb r.security securities
    && leb r.board foreign_board
    && leb r.side sell
    && leb r.order_type mp
    && priced_as r.order_type r.price
    && leb 1 r.volume
    && leb r.volume max_volume

unfoldable pub sound_row : ℕ → ℕ → Row → Bool
sound_row securities clock r = all_zero r || sound_marked securities clock r

-- "marked rows stand first"
unfoldable pub marked_first : List Row → Bool
marked_first [] = true
marked_first (r ∷ rs) = cond (marked r) (marked_first rs) (not (any marked rs))

-- the marked rows that have a number
abbrev pub numbered : ℕ → Row → Bool
numbered n r = marked r && eqb r.number n

-- "a number above 0 that no other marked row of its desk has"
unfoldable pub numbers_differ : List Row → Bool
numbers_differ [] = true
numbers_differ (r ∷ rs) = not (marked r && any (numbered r.number) rs) && numbers_differ rs

unfoldable pub sound_desk : ℕ → ℕ → Desk → Bool
sound_desk securities clock d =
    all (sound_row securities clock) d.rows && marked_first d.rows && numbers_differ d.rows

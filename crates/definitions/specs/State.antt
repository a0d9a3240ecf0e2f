-- Paper 01, "The lent state": where the header, the security records and the desks stand in the words.
use Rattle.std.specs.Prelude.{Bool, ◌&&◌, List, [], ◌∷◌, ◌++◌, ℕ, zero, suc, ◌+◌, ◌-◌, ◌*◌, leb, eqb, length, get_or, take, drop, replicate}
use Rattle.definitions.specs.declared.Header.{Header}
use Rattle.definitions.specs.declared.Terms.{Terms}
use Rattle.definitions.specs.declared.Prices.{Prices}
use Rattle.definitions.specs.declared.Figures.{Figures}
use Rattle.definitions.specs.declared.Security.{Security}
use Rattle.definitions.specs.declared.Row.{Row}
use Rattle.definitions.specs.declared.Desk.{Desk}
use Rattle.definitions.specs.Codes.{max_customers, max_securities, last_time, pre_close, desk_rows}
use Rattle.definitions.specs.Lists.{part, put, repeat}

abbrev pub header_size : ℕ
header_size = 4

abbrev pub security_size : ℕ
security_size = 17

abbrev pub row_size : ℕ
row_size = 9

abbrev pub counters_size : ℕ
counters_size = 3

abbrev pub desk_size : ℕ
desk_size = 291

-- "it has exactly 4 + 13×S + 291×C words"; paper 02, 3: "The security's record gains these four words at its end"
abbrev pub security_place : ℕ → ℕ
security_place s = header_size + security_size * s

abbrev pub desk_place : ℕ → ℕ → ℕ
desk_place securities k = security_place securities + desk_size * k

abbrev pub state_size : ℕ → ℕ → ℕ
state_size customers securities = desk_place securities customers

-- "Header: C, S, clock .., session ..", in its own words, and as the first part of a state's
abbrev pub header_in : List ℕ → Header
header_in h = record { customers = get_or h 0 0; securities = get_or h 1 0; clock = get_or h 2 0; session = get_or h 3 0 }

unfoldable pub header_of : List ℕ → Header
header_of w = header_in (part w 0 header_size)

abbrev pub clock_place : ℕ
clock_place = 2

abbrev pub session_place : ℕ
session_place = 3

-- "Security: lot .., free flag .., first-day flag, prior close, IPO price; then projected, last sale, best bid, best offer for the main board, and
-- the same four for the foreign board"
abbrev pub terms_at : List ℕ → ℕ → Terms
terms_at w at = record { lot = get_or w at 0; free = get_or w (at + 1) 0; first_day = get_or w (at + 2) 0 }

abbrev pub prices_at : List ℕ → ℕ → Prices
prices_at w at = record { projected = get_or w at 0; last_sale = get_or w (at + 1) 0; bid = get_or w (at + 2) 0; offer = get_or w (at + 3) 0 }

abbrev pub prices_words : Prices → List ℕ
prices_words p = p.projected ∷ p.last_sale ∷ p.bid ∷ p.offer ∷ []

-- paper 02, 3: "dividend (4), subscription (4), old shares (2), new shares (2)", "zero without figures"
abbrev pub figures : ℕ → ℕ → ℕ → ℕ → Figures
figures dividend subscription old new = record { dividend = dividend; subscription = subscription; old_shares = old; new_shares = new }

abbrev pub no_figures : Figures
no_figures = figures 0 0 0 0

abbrev pub figures_words : Figures → List ℕ
figures_words f = f.dividend ∷ f.subscription ∷ f.old_shares ∷ f.new_shares ∷ []

unfoldable pub security_of : List ℕ → Security
security_of w =
    record {
      terms = terms_at w 0;
      prior = record { close = get_or w 3 0; ipo = get_or w 4 0 };
      main = prices_at w 5;
      foreign = prices_at w 9;
      figures = figures (get_or w 13 0) (get_or w 14 0) (get_or w 15 0) (get_or w 16 0);
    }

unfoldable pub security_words : Security → List ℕ
security_words s =
    s.terms.lot
    ∷ s.terms.free
    ∷ s.terms.first_day
    ∷ s.prior.close
    ∷ s.prior.ipo
    ∷ (prices_words s.main ++ (prices_words s.foreign ++ figures_words s.figures))

-- "Row: mark .., order number, security, board .., side .., type .., price, volume, cancel time"
abbrev pub row : ℕ → ℕ → ℕ → ℕ → ℕ → ℕ → ℕ → ℕ → ℕ → Row
row mark number security board side type price volume time =
    record {
      mark = mark;
      number = number;
      security = security;
      board = board;
      side = side;
      order_type = type;
      price = price;
      volume = volume;
      cancel_time = time;
    }

unfoldable pub row_of : List ℕ → Row
row_of w = row (get_or w 0 0) (get_or w 1 0) (get_or w 2 0) (get_or w 3 0) (get_or w 4 0) (get_or w 5 0) (get_or w 6 0) (get_or w 7 0) (get_or w 8 0)

unfoldable pub row_words : Row → List ℕ
row_words r =
    r.mark ∷ r.number ∷ r.security ∷ r.board ∷ r.side ∷ r.order_type ∷ r.price ∷ r.volume ∷ r.cancel_time ∷ []

unfoldable pub rows_of : ℕ → List ℕ → List Row
rows_of zero w = []
rows_of (suc n) w = row_of (take row_size w) ∷ rows_of n (drop row_size w)

unfoldable pub rows_words : List Row → List ℕ
rows_words [] = []
rows_words (r ∷ rs) = row_words r ++ rows_words rs

-- "Desk: the customer's three counters and 32 rows"; "Counters: accepted, warned, rejected"
unfoldable pub desk_of : List ℕ → Desk
desk_of w = record { accepted = get_or w 0 0; warned = get_or w 1 0; rejected = get_or w 2 0; rows = rows_of desk_rows (drop counters_size w) }

unfoldable pub desk_words : Desk → List ℕ
desk_words d = d.accepted ∷ d.warned ∷ d.rejected ∷ rows_words d.rows

-- the records of a state, taken out
unfoldable pub security_at : List ℕ → ℕ → Security
security_at w s = security_of (part w (security_place s) security_size)

unfoldable pub desk_at : List ℕ → ℕ → Desk
desk_at w k = desk_of (part w (desk_place (header_of w).securities k) desk_size)

-- and put back
unfoldable pub put_security : List ℕ → ℕ → Security → List ℕ
put_security w s x = put w (security_place s) (security_words x)

unfoldable pub put_desk : List ℕ → ℕ → Desk → List ℕ
put_desk w k d = put w (desk_place (header_of w).securities k) (desk_words d)

-- "For C customers (1 to 256) and S securities (1 to 1,024)"
abbrev pub sizes_fit : ℕ → ℕ → Bool
sizes_fit customers securities =
    leb 1 customers && leb customers max_customers && leb 1 securities && leb securities max_securities

-- condition 1 is met where this does not hold: "C, S, word count, clock or session not as above"
unfoldable pub state_fits : List ℕ → Bool
state_fits w =
    sizes_fit (header_of w).customers (header_of w).securities
    && eqb (length w) (state_size (header_of w).customers (header_of w).securities)
    && leb (header_of w).clock last_time
    && leb (header_of w).session pre_close

-- "A fresh state has its C and S, every lot 100 and zeros elsewhere."; the market's words are the header and the security records
unfoldable pub fresh_market : ℕ → ℕ → List ℕ
fresh_market customers securities = customers ∷ securities ∷ 0 ∷ 0 ∷ repeat securities (100 ∷ replicate (security_size - 1) 0)

unfoldable pub fresh : ℕ → ℕ → List ℕ
fresh customers securities = fresh_market customers securities ++ replicate (desk_size * customers) 0

-- Paper 01, "Verdicts": W and P, the rules that look at the customer's own rows, at each edge, with the counter and the row that follow. One theorem over
-- the whole.
use mathlib.Core.List.{List, [], ◌∷◌, map}
use mathlib.Core.Path.{◌≡◌, refl}
use Prim.Native.Nat.{ℕ}
use Rattle.definitions.specs.declared.Verdict.{Verdict}
use Rattle.definitions.specs.declared.Verdict.TheVariants.{RejectV, RejectQ, RejectW, RejectP, Accept}
use Rattle.definitions.proofs.Run.{performed_on}
use Rattle.definitions.proofs.Corner.{Corner, Entry, performed, right, judged, security, terms, traded, plain, free, untraded, main, foreign, buy, sell, limit, ato, atc, mp, office, online, dma, entry, opened, cancelled}

-- two securities, of which the first has some prices on the main board; the clock is at 100,000
abbrev pub meets : ℕ → List ℕ → List (List ℕ) → Entry → Verdict → Corner
meets session prices rows e v =
    judged 100_000 session (security plain prices untraded ∷ security plain untraded untraded ∷ []) rows e v

-- the customer's one row, number 1, open
abbrev pub own : Entry → List (List ℕ)
own e = opened e ∷ []

-- the second of them has some prices on the foreign board, where the customer has one row and enters an order
abbrev pub others : ℕ → List ℕ → Entry → Entry → Verdict → Corner
others session prices held e v =
    judged 100_000 session (security plain untraded untraded ∷ security plain untraded prices ∷ []) (own held) e v

abbrev pub foreign_at : ℕ → ℕ → ℕ → ℕ → Entry
foreign_at number side type price = entry number 1 foreign side type online price 100

-- 100 shares in security 0, main board, online: a limit at a price, or another type
abbrev pub priced : ℕ → ℕ → ℕ → Entry
priced number side price = entry number 0 main side limit online price 100

abbrev pub typed : ℕ → ℕ → ℕ → Entry
typed number side type = entry number 0 main side type online 0 100

abbrev pub own_sell : ℕ → List (List ℕ)
own_sell price = own (priced 1 sell price)

abbrev pub own_buy : ℕ → List (List ℕ)
own_buy price = own (priced 1 buy price)

-- the projected price 50.00; and bid 49.75, offer 50.25
abbrev pub projected : List ℕ
projected = traded 5000 0 0 0

abbrev pub quoted : List ℕ
quoted = traded 0 0 4975 5025

-- limits in security 0, main board, online, number 2
abbrev pub buys : ℕ → Entry
buys price = priced 2 buy price

abbrev pub sells : ℕ → Entry
sells price = priced 2 sell price

-- P: buys of some volume at 50.00, the first of them cancelled
abbrev pub sized : ℕ → ℕ → Entry
sized number volume = entry number 0 main buy limit online 5000 volume

abbrev pub gone : ℕ → List (List ℕ)
gone volume = cancelled 40_000 (sized 1 volume) ∷ []

-- and by one share: lot 1, and a cancelled buy at 0.15, of which 20,000,000 shares are worth 3 million baht
abbrev pub meets_share : Entry → Verdict → Corner
meets_share e v =
    judged 100_000 2 (security (terms 1 0 0 0 0) untraded untraded ∷ []) (cancelled 40_000 (entry 1 0 main buy limit online 15 20_000_000) ∷ []) e v

abbrev pub corners : List Corner
corners =
    -- W: "Limit buy at or above an own limit sell"
    meets 2 untraded (own_sell 5000) (buys 4975) Accept
    ∷ meets 2 untraded (own_sell 5000) (buys 5000) RejectW
    ∷ meets 2 untraded (own_sell 5000) (buys 5025) RejectW
    ∷ meets 1 untraded (own_sell 5000) (buys 5000) RejectW
    ∷ meets 4 untraded (own_sell 5000) (buys 5000) RejectW
    -- "limit sell at or below an own limit buy"
    ∷ meets 2 untraded (own_buy 5000) (sells 5025) Accept
    ∷ meets 2 untraded (own_buy 5000) (sells 5000) RejectW
    ∷ meets 2 untraded (own_buy 5000) (sells 4975) RejectW
    ∷ meets 1 untraded (own_buy 5000) (sells 5000) RejectW
    ∷ meets 4 untraded (own_buy 5000) (sells 5000) RejectW
    -- "online only"
    ∷ meets 2 untraded (own_sell 5000) (entry 2 0 main buy limit office 5000 100) Accept
    ∷ meets 2 untraded (own_sell 5000) (entry 2 0 main buy limit dma 5000 100) Accept
    -- "own open rows of that security and board, opposite side": any of them
    ∷ meets 2 untraded (cancelled 40_000 (priced 1 sell 5000) ∷ []) (buys 5000) Accept
    ∷ meets 2 untraded (own (entry 1 1 main sell limit online 5000 100)) (buys 5000) Accept
    ∷ meets 2 untraded (own (entry 1 0 foreign sell limit online 5000 100)) (buys 5000) Accept
    ∷ meets 2 untraded (own_sell 5000) (entry 2 1 main buy limit online 5000 100) Accept
    ∷ meets 2 untraded (own_sell 5000) (entry 2 0 foreign buy limit online 5000 100) Accept
    ∷ meets 2 untraded (own (entry 1 0 foreign sell limit online 5000 100)) (entry 2 0 foreign buy limit online 5000 100) RejectW
    ∷ meets 2 untraded (own (entry 1 1 main sell limit online 5000 100)) (entry 2 1 main buy limit online 5000 100) RejectW
    ∷ meets 2 untraded (own (entry 1 1 foreign buy limit online 5000 100)) (entry 2 1 foreign sell limit online 5000 100) RejectW
    ∷ meets 2 untraded (own_buy 5000) (buys 5000) Accept
    ∷ meets 2 untraded (own_sell 5000) (sells 5000) Accept
    ∷ meets 2 untraded (opened (priced 1 buy 4900) ∷ opened (priced 3 sell 5000) ∷ []) (buys 5000) RejectW
    -- "ATO or ATC against ATO or ATC": without a projected price
    ∷ meets 1 untraded (own (typed 1 sell ato)) (typed 2 buy ato) RejectW
    ∷ meets 1 untraded (own (typed 1 buy ato)) (typed 2 sell ato) RejectW
    ∷ meets 1 untraded (own (typed 1 sell atc)) (typed 2 buy ato) RejectW
    ∷ meets 4 untraded (own (typed 1 sell atc)) (typed 2 buy atc) RejectW
    ∷ meets 4 untraded (own (typed 1 buy atc)) (typed 2 sell atc) RejectW
    ∷ meets 4 untraded (own (typed 1 buy ato)) (typed 2 sell atc) RejectW
    ∷ meets 1 projected (own (typed 1 sell ato)) (typed 2 buy ato) RejectW
    ∷ meets 4 projected (own (typed 1 buy atc)) (typed 2 sell atc) RejectW
    ∷ meets 1 untraded (own (typed 1 buy ato)) (typed 2 buy ato) Accept
    ∷ meets 4 untraded (own (typed 1 sell atc)) (typed 2 sell atc) Accept
    ∷ meets 1 untraded (own (entry 1 0 foreign sell ato online 0 100)) (entry 2 0 foreign buy ato online 0 100) RejectW
    ∷ meets 4 untraded (own (entry 1 0 foreign buy atc online 0 100)) (entry 2 0 foreign sell atc online 0 100) RejectW
    -- "With a projected price, in sessions 1 and 4: limit buy at or above it against an own ATO or ATC sell"
    ∷ meets 1 projected (own (typed 1 sell ato)) (buys 4975) Accept
    ∷ meets 1 projected (own (typed 1 sell ato)) (buys 5000) RejectW
    ∷ meets 1 projected (own (typed 1 sell ato)) (buys 5025) RejectW
    ∷ meets 4 projected (own (typed 1 sell atc)) (buys 4975) Accept
    ∷ meets 4 projected (own (typed 1 sell atc)) (buys 5000) RejectW
    ∷ meets 4 projected (own (typed 1 sell atc)) (buys 5025) RejectW
    ∷ meets 1 projected (own (typed 1 sell atc)) (buys 5000) RejectW
    ∷ meets 4 projected (own (typed 1 sell ato)) (buys 5000) RejectW
    ∷ meets 1 projected (own (typed 1 buy atc)) (sells 5000) RejectW
    ∷ meets 4 projected (own (typed 1 buy ato)) (sells 5000) RejectW
    ∷ meets 1 untraded (own (typed 1 sell ato)) (buys 5000) Accept
    ∷ meets 4 untraded (own (typed 1 sell atc)) (buys 5000) Accept
    ∷ meets 2 projected (own (typed 1 sell ato)) (buys 5000) Accept
    ∷ meets 2 projected (own (typed 1 sell atc)) (buys 5000) Accept
    -- "and ATO or ATC buy against an own limit sell at or below it"
    ∷ meets 1 projected (own_sell 4975) (typed 2 buy ato) RejectW
    ∷ meets 1 projected (own_sell 5000) (typed 2 buy ato) RejectW
    ∷ meets 1 projected (own_sell 5025) (typed 2 buy ato) Accept
    ∷ meets 4 projected (own_sell 4975) (typed 2 buy atc) RejectW
    ∷ meets 4 projected (own_sell 5000) (typed 2 buy atc) RejectW
    ∷ meets 4 projected (own_sell 5025) (typed 2 buy atc) Accept
    ∷ meets 1 untraded (own_sell 5000) (typed 2 buy ato) Accept
    ∷ meets 4 untraded (own_sell 5000) (typed 2 buy atc) Accept
    -- "limit sell at or below it against an own ATO or ATC buy"
    ∷ meets 1 projected (own (typed 1 buy ato)) (sells 5025) Accept
    ∷ meets 1 projected (own (typed 1 buy ato)) (sells 5000) RejectW
    ∷ meets 1 projected (own (typed 1 buy ato)) (sells 4975) RejectW
    ∷ meets 4 projected (own (typed 1 buy atc)) (sells 5025) Accept
    ∷ meets 4 projected (own (typed 1 buy atc)) (sells 5000) RejectW
    ∷ meets 4 projected (own (typed 1 buy atc)) (sells 4975) RejectW
    ∷ meets 1 untraded (own (typed 1 buy ato)) (sells 5000) Accept
    ∷ meets 4 untraded (own (typed 1 buy atc)) (sells 5000) Accept
    ∷ meets 2 projected (own (typed 1 buy ato)) (sells 5000) Accept
    ∷ meets 2 projected (own (typed 1 buy atc)) (sells 5000) Accept
    -- "and ATO or ATC sell against an own limit buy at or above it"
    ∷ meets 1 projected (own_buy 5025) (typed 2 sell ato) RejectW
    ∷ meets 1 projected (own_buy 5000) (typed 2 sell ato) RejectW
    ∷ meets 1 projected (own_buy 4975) (typed 2 sell ato) Accept
    ∷ meets 4 projected (own_buy 5025) (typed 2 sell atc) RejectW
    ∷ meets 4 projected (own_buy 5000) (typed 2 sell atc) RejectW
    ∷ meets 4 projected (own_buy 4975) (typed 2 sell atc) Accept
    ∷ meets 1 untraded (own_buy 5000) (typed 2 sell ato) Accept
    ∷ meets 4 untraded (own_buy 5000) (typed 2 sell atc) Accept
    -- which limits against limits do not look at
    ∷ meets 1 projected (own_sell 5000) (buys 4975) Accept
    ∷ meets 1 projected (own_sell 5025) (buys 5000) Accept
    ∷ meets 4 projected (own_buy 5000) (sells 5025) Accept
    ∷ meets 4 projected (own_buy 4975) (sells 5000) Accept
    -- the projected price of the order's board
    ∷ meets 1 projected (own (entry 1 0 foreign sell ato online 0 100)) (entry 2 0 foreign buy limit online 5000 100) Accept
    ∷ meets 1 (traded 0 5000 5000 5000) (own (typed 1 sell ato)) (buys 5000) Accept
    ∷ judged 100_000 1 (security plain untraded projected ∷ []) (own (typed 1 sell ato)) (buys 5000) Accept
    ∷ others 1 projected (foreign_at 1 sell ato 0) (foreign_at 2 buy limit 5000) RejectW
    ∷ others 1 projected (foreign_at 1 sell limit 5000) (foreign_at 2 buy ato 0) RejectW
    ∷ others 4 projected (foreign_at 1 buy atc 0) (foreign_at 2 sell limit 5000) RejectW
    ∷ others 4 projected (foreign_at 1 buy limit 5000) (foreign_at 2 sell atc 0) RejectW
    ∷ others 4 untraded (foreign_at 1 buy atc 0) (foreign_at 2 sell atc 0) RejectW
    -- "MP buy if the best offer equals an own limit sell's price; MP sell likewise with the bid"
    ∷ meets 2 quoted (own_sell 5000) (typed 2 buy mp) Accept
    ∷ meets 2 quoted (own_sell 5025) (typed 2 buy mp) RejectW
    ∷ meets 2 quoted (own_sell 5050) (typed 2 buy mp) Accept
    ∷ meets 2 quoted (own_sell 4975) (typed 2 buy mp) Accept
    ∷ meets 2 quoted (own_buy 4950) (typed 2 sell mp) Accept
    ∷ meets 2 quoted (own_buy 4975) (typed 2 sell mp) RejectW
    ∷ meets 2 quoted (own_buy 5000) (typed 2 sell mp) Accept
    ∷ meets 2 quoted (own_buy 5025) (typed 2 sell mp) Accept
    ∷ meets 2 quoted (own_buy 5025) (typed 2 buy mp) Accept
    ∷ meets 2 quoted (own_sell 4975) (typed 2 sell mp) Accept
    ∷ meets 2 quoted (own_sell 5025) (entry 2 0 main buy mp office 0 100) Accept
    ∷ meets 2 quoted (own_sell 5025) (entry 2 0 main buy mp dma 0 100) Accept
    ∷ judged 100_000 2 (security plain quoted (traded 0 0 5000 5050) ∷ []) (own (entry 1 0 foreign sell limit online 5025 100))
    (entry 2 0 foreign buy mp online 0 100) Accept
    ∷ judged 100_000 2 (security plain quoted (traded 0 0 5000 5050) ∷ []) (own (entry 1 0 foreign buy limit online 5000 100))
    (entry 2 0 foreign sell mp online 0 100) RejectW
    ∷ judged 100_000 2 (security plain quoted (traded 0 0 5000 5050) ∷ []) (own (entry 1 0 foreign buy limit online 4975 100))
    (entry 2 0 foreign sell mp online 0 100) Accept
    ∷ others 2 quoted (foreign_at 1 sell limit 5025) (foreign_at 2 buy mp 0) RejectW
    ∷ others 2 quoted (foreign_at 1 buy limit 4975) (foreign_at 2 sell mp 0) RejectW
    -- and no other type by a best price
    ∷ meets 2 quoted (own_sell 5025) (buys 5000) Accept
    ∷ meets 2 quoted (own_buy 4975) (sells 5000) Accept
    ∷ meets 1 quoted (own_sell 5025) (typed 2 buy ato) Accept
    ∷ meets 4 quoted (own_buy 4975) (typed 2 sell atc) Accept
    -- and against no other type
    ∷ meets 2 (traded 5000 0 4975 5025) (own (typed 1 sell ato)) (typed 2 buy mp) Accept
    ∷ meets 2 (traded 5000 0 4975 5025) (own (typed 1 sell atc)) (typed 2 buy mp) Accept
    ∷ meets 2 (traded 5000 0 4975 5025) (own (typed 1 buy ato)) (typed 2 sell mp) Accept
    ∷ meets 2 (traded 5000 0 4975 5025) (own (typed 1 buy atc)) (typed 2 sell mp) Accept
    -- P: "value at least 3 million baht": 60,000 shares at 50.00
    ∷ meets 2 untraded (gone 100_000) (sized 2 60_000) RejectP
    ∷ meets 2 untraded (gone 100_000) (sized 2 59_900) Accept
    ∷ meets_share (entry 2 0 main buy limit online 15 20_000_000) RejectP
    ∷ meets_share (entry 2 0 main buy limit online 15 19_999_999) Accept
    -- "twice the new volume being at least the cancelled volume"
    ∷ meets 2 untraded (gone 200_000) (sized 2 100_000) RejectP
    ∷ meets 2 untraded (gone 200_100) (sized 2 100_000) Accept
    ∷ meets 2 untraded (gone 120_001) (sized 2 60_000) Accept
    ∷ meets 2 untraded (gone 100) (sized 2 100_000) RejectP
    -- "limits, online, session 2"
    ∷ meets 2 untraded (gone 100_000) (entry 2 0 main buy limit office 5000 60_000) Accept
    ∷ meets 2 untraded (gone 100_000) (entry 2 0 main buy limit dma 5000 60_000) Accept
    ∷ meets 1 untraded (gone 100_000) (sized 2 60_000) Accept
    ∷ meets 4 untraded (gone 100_000) (sized 2 60_000) Accept
    -- "an own row cancelled at most 60,000 ms ago": not an open one; any of them
    ∷ meets 2 untraded (own (sized 1 100_000)) (sized 2 60_000) Accept
    ∷ meets 2 untraded (cancelled 100_000 (sized 1 100_000) ∷ []) (sized 2 60_000) RejectP
    ∷ meets 2 untraded (opened (priced 1 buy 4900) ∷ cancelled 40_000 (sized 3 100_000) ∷ []) (sized 2 60_000) RejectP
    -- "with the same security, board, side and price"
    ∷ meets 2 untraded (gone 100_000) (entry 2 1 main buy limit online 5000 60_000) Accept
    ∷ meets 2 untraded (gone 100_000) (entry 2 0 foreign buy limit online 5000 60_000) Accept
    ∷ meets 2 untraded (gone 100_000) (entry 2 0 main sell limit online 5000 60_000) Accept
    ∷ meets 2 untraded (gone 100_000) (entry 2 0 main buy limit online 5025 60_000) Accept
    ∷ meets 2 untraded (gone 100_000) (entry 2 0 main buy limit online 4975 61_000) Accept
    ∷ meets 2 untraded (cancelled 40_000 (entry 1 0 main sell limit online 5000 100_000) ∷ []) (entry 2 0 main sell limit online 4975 61_000) Accept
    ∷ meets 2 untraded (cancelled 40_000 (entry 1 0 main sell limit online 5000 100_000) ∷ []) (entry 2 0 main sell limit online 5025 60_000) Accept
    ∷ meets 2 untraded (cancelled 40_000 (entry 1 1 main sell limit office 5000 100_000) ∷ [])
    (entry 2 1 main sell limit online 5000 60_000) RejectP
    ∷ meets 2 untraded (cancelled 40_000 (entry 1 1 foreign buy limit office 5000 100_000) ∷ [])
    (entry 2 1 foreign buy limit online 5000 60_000) RejectP
    -- "first that applies": V before W, Q before W, W before P, P before warn 30
    ∷ meets 2 untraded (own_sell 5000) (entry 2 0 main buy limit online 5000 150) RejectV
    ∷ judged 100_000 1 (security free (traded 1000 0 0 0) untraded ∷ []) (own_sell 2000) (buys 2000) RejectQ
    ∷ meets 2 untraded (opened (priced 1 sell 5000) ∷ cancelled 40_000 (sized 3 100_000) ∷ []) (sized 2 60_000) RejectW
    ∷ judged 100_000 2 (security free (traded 0 1000 0 0) untraded ∷ []) (gone 100_000) (sized 2 60_000) RejectP
    ∷ judged 100_000 1 (security plain (traded 2450 0 0 0) untraded ∷ []) (own_sell 5000) (buys 5000) RejectW
    ∷ []

pub all_right : map performed corners ≡ map right corners
unfolding performed_on
all_right = refl

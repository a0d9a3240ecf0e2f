-- Paper 01, "Verdicts": S, V, Q, warn 30 and warn 10, the rules that look at the market's side, at each edge, with the counter and the row that follow. One
-- theorem over the whole.
use mathlib.Core.List.{List, [], ◌∷◌, map}
use mathlib.Core.Path.{◌≡◌, refl}
use Prim.Native.Nat.{ℕ}
use Rattle.definitions.specs.declared.Verdict.{Verdict}
use Rattle.definitions.specs.declared.Verdict.TheVariants.{RejectS, RejectV, RejectQ, Warn30, Warn10, Accept}
use Rattle.definitions.proofs.Run.{performed_on}
use Rattle.definitions.proofs.Corner.{Corner, Entry, performed, right, judged, security, terms, traded, plain, free, untraded, main, foreign, buy, sell, limit, ato, atc, mp, office, online, dma, entry}

-- order number 1 of a customer without rows, in a session, in a lone security and in the second of two
abbrev pub meets : ℕ → List ℕ → Entry → Verdict → Corner
meets session security e v = judged 5_000 session (security ∷ []) [] e v

abbrev pub others : ℕ → List ℕ → Entry → Verdict → Corner
others session second e v = judged 5_000 session (security plain untraded untraded ∷ second ∷ []) [] e v

-- 100 shares: by type, and limits on the main and on the foreign board; 50.00 where the price does not matter
abbrev pub typed : ℕ → ℕ → ℕ → Entry
typed board side type = entry 1 0 board side type office 0 100

abbrev pub priced : ℕ → ℕ → Entry
priced channel price = entry 1 0 main buy limit channel price 100

abbrev pub foreign_at : ℕ → ℕ → Entry
foreign_at channel price = entry 1 0 foreign buy limit channel price 100

abbrev pub sold_at : ℕ → Entry
sold_at price = entry 1 0 main sell limit office price 100

abbrev pub sized : ℕ → ℕ → Entry
sized price volume = entry 1 0 main buy limit office price volume

abbrev pub bare : List ℕ
bare = security plain untraded untraded

-- a bid of 49.75 and an offer of 50.25 on one board or both
abbrev pub quoted : List ℕ
quoted = traded 0 0 4975 5025

-- a free security: the prices of both boards
abbrev pub free_at : List ℕ → List ℕ → List ℕ
free_at on_main on_foreign = security free on_main on_foreign

-- prices of one board: only projected, only the last sale, both
abbrev pub projected : ℕ → List ℕ
projected p = traded p 0 0 0

abbrev pub last : ℕ → List ℕ
last p = traded 0 p 0 0

abbrev pub both : ℕ → ℕ → List ℕ
both p l = traded p l 0 0

abbrev pub corners : List Corner
corners =
    -- S: "session 0 or 3"
    meets 0 bare (priced office 5000) RejectS
    ∷ meets 1 bare (priced office 5000) Accept
    ∷ meets 2 bare (priced office 5000) Accept
    ∷ meets 3 bare (priced office 5000) RejectS
    ∷ meets 4 bare (priced office 5000) Accept
    -- "ATO outside 1"
    ∷ meets 0 bare (typed main buy ato) RejectS
    ∷ meets 1 bare (typed main buy ato) Accept
    ∷ meets 2 bare (typed main buy ato) RejectS
    ∷ meets 3 bare (typed main buy ato) RejectS
    ∷ meets 4 bare (typed main buy ato) RejectS
    -- "ATC outside 4"
    ∷ meets 0 bare (typed main buy atc) RejectS
    ∷ meets 1 bare (typed main buy atc) RejectS
    ∷ meets 2 bare (typed main buy atc) RejectS
    ∷ meets 3 bare (typed main buy atc) RejectS
    ∷ meets 4 bare (typed main buy atc) Accept
    -- "MP outside 2"
    ∷ meets 0 (security plain quoted quoted) (typed main buy mp) RejectS
    ∷ meets 1 (security plain quoted quoted) (typed main buy mp) RejectS
    ∷ meets 2 (security plain quoted quoted) (typed main buy mp) Accept
    ∷ meets 3 (security plain quoted quoted) (typed main buy mp) RejectS
    ∷ meets 4 (security plain quoted quoted) (typed main buy mp) RejectS
    -- "MP with no best price opposite on its board"
    ∷ meets 2 (security plain (traded 0 0 0 5025) untraded) (typed main buy mp) Accept
    ∷ meets 2 (security plain (traded 5000 5000 4975 0) quoted) (typed main buy mp) RejectS
    ∷ meets 2 (security plain (traded 0 0 4975 0) untraded) (typed main sell mp) Accept
    ∷ meets 2 (security plain (traded 5000 5000 0 5025) quoted) (typed main sell mp) RejectS
    ∷ meets 2 (security plain untraded (traded 0 0 0 5025)) (typed foreign buy mp) Accept
    ∷ meets 2 (security plain quoted (traded 5000 5000 4975 0)) (typed foreign buy mp) RejectS
    ∷ meets 2 (security plain untraded (traded 0 0 4975 0)) (typed foreign sell mp) Accept
    ∷ meets 2 (security plain quoted (traded 5000 5000 0 5025)) (typed foreign sell mp) RejectS
    -- V: "volume 0, over 20,000,000"; of another type too
    ∷ meets 2 bare (sized 1 0) RejectV
    ∷ meets 2 bare (sized 1 20_000_000) Accept
    ∷ meets 2 bare (sized 1 20_000_100) RejectV
    ∷ meets 1 bare (entry 1 0 main buy ato office 0 0) RejectV
    ∷ meets 1 bare (entry 1 0 main buy ato office 0 20_000_000) Accept
    ∷ meets 1 bare (entry 1 0 main buy ato office 0 20_000_100) RejectV
    ∷ meets 2 (security plain quoted untraded) (entry 1 0 main buy mp office 0 0) RejectV
    ∷ meets 2 (security plain quoted untraded) (entry 1 0 main buy mp office 0 20_000_100) RejectV
    ∷ meets 1 bare (entry 1 0 main buy ato office 0 50) RejectV
    ∷ meets 4 bare (entry 1 0 main buy atc office 0 50) RejectV
    -- "or no multiple of the lot"
    ∷ meets 2 bare (sized 5000 50) RejectV
    ∷ meets 2 bare (sized 5000 101) RejectV
    ∷ meets 2 (security (terms 50 0 0 0 0) untraded untraded) (sized 5000 150) Accept
    ∷ meets 2 (security (terms 50 0 0 0 0) untraded untraded) (sized 5000 25) RejectV
    ∷ meets 2 (security (terms 1 0 0 0 0) untraded untraded) (sized 5000 1) Accept
    ∷ meets 2 (security plain quoted untraded) (entry 1 0 main buy mp office 0 50) RejectV
    -- "limit value over 500 million baht"
    ∷ meets 2 bare (sized 5000 10_000_000) Accept
    ∷ meets 2 bare (sized 5000 10_000_100) RejectV
    ∷ meets 2 (security (terms 1 0 0 0 0) untraded untraded) (sized 3850 12_987_013) RejectV
    ∷ meets 2 bare (sized 10_000_000 5_000) Accept
    ∷ meets 2 bare (sized 10_000_000 5_100) RejectV
    ∷ meets 2 bare (entry 1 0 main sell limit office 5000 10_000_000) Accept
    ∷ meets 2 bare (entry 1 0 main sell limit office 5000 10_000_100) RejectV
    ∷ meets 2 (security (terms 1 0 0 0 0) untraded untraded) (sized 5000 10_000_000) Accept
    ∷ meets 2 (security (terms 1 0 0 0 0) untraded untraded) (sized 5000 10_000_001) RejectV
    -- Q: "limits, sessions 1 and 4, free security, every channel: price above 150% or below 50% of the reference"
    ∷ meets 1 (free_at (projected 1000) untraded) (priced office 1500) Accept
    ∷ meets 1 (free_at (projected 1000) untraded) (priced office 1510) RejectQ
    ∷ meets 1 (free_at (projected 1000) untraded) (priced online 1510) RejectQ
    ∷ meets 1 (free_at (projected 1000) untraded) (priced dma 1510) RejectQ
    ∷ meets 4 (free_at (projected 1000) untraded) (priced office 500) Accept
    ∷ meets 4 (free_at (projected 1000) untraded) (priced office 498) RejectQ
    ∷ meets 1 (free_at (projected 1000) untraded) (sold_at 1510) RejectQ
    ∷ meets 4 (free_at (projected 1000) untraded) (sold_at 498) RejectQ
    ∷ meets 1 (free_at (projected 3) untraded) (priced office 1) RejectQ
    ∷ meets 1 (free_at (projected 3) untraded) (priced office 2) Accept
    ∷ meets 1 (free_at (projected 3) untraded) (priced office 4) Accept
    ∷ meets 1 (free_at (projected 3) untraded) (priced office 5) RejectQ
    ∷ meets 4 (free_at (projected 199) untraded) (priced office 99) RejectQ
    ∷ meets 4 (free_at (projected 199) untraded) (priced office 100) Accept
    ∷ meets 1 (free_at (projected 1) untraded) (priced office 2) RejectQ
    ∷ meets 2 (free_at (projected 1000) untraded) (priced office 1510) Accept
    ∷ meets 1 (security plain (projected 1000) untraded) (priced office 1510) Accept
    ∷ meets 1 (security (terms 100 0 1 0 1000) (projected 1000) untraded) (priced office 1510) Accept
    ∷ meets 1 (free_at (projected 1000) untraded) (typed main buy ato) Accept
    ∷ meets 4 (free_at (projected 1000) untraded) (typed main sell atc) Accept
    -- "Reference: projected, else last sale": of the order's board, and no bid or offer
    ∷ meets 1 (free_at (both 1000 2000) (both 2000 2000)) (priced office 1510) RejectQ
    ∷ meets 1 (free_at (both 2000 1000) (both 1000 1000)) (priced office 1510) Accept
    ∷ meets 1 (free_at (last 1000) (both 2000 2000)) (priced office 1510) RejectQ
    ∷ meets 1 (free_at (last 2000) (both 1000 1000)) (priced office 1510) Accept
    ∷ meets 1 (free_at (traded 0 0 1000 1000) (both 1000 1000)) (priced office 1510) Accept
    -- "on the foreign board else the main board's last sale", and never its projected price
    ∷ meets 1 (free_at (both 2000 2000) (both 1000 2000)) (foreign_at office 1510) RejectQ
    ∷ meets 1 (free_at (both 1000 1000) (both 2000 1000)) (foreign_at office 1510) Accept
    ∷ meets 1 (free_at (both 2000 2000) (last 1000)) (foreign_at office 1510) RejectQ
    ∷ meets 1 (free_at (both 1000 1000) (last 2000)) (foreign_at office 1510) Accept
    ∷ meets 4 (free_at (both 2000 1000) untraded) (foreign_at office 1510) RejectQ
    ∷ meets 4 (free_at (both 1000 2000) untraded) (foreign_at office 1510) Accept
    ∷ meets 4 (free_at (projected 1000) untraded) (foreign_at office 1510) Accept
    -- "else the IPO price if first day and not 0; else no check", and never the prior close
    ∷ meets 1 (security (terms 100 1 1 0 1000) untraded untraded) (priced office 1510) RejectQ
    ∷ meets 1 (security (terms 100 1 1 0 1000) untraded untraded) (foreign_at office 1510) RejectQ
    ∷ meets 1 (security (terms 100 1 1 1000 2000) untraded untraded) (priced office 1510) Accept
    ∷ meets 1 (security (terms 100 1 1 2000 1000) untraded untraded) (priced office 1510) RejectQ
    ∷ meets 1 (security (terms 100 1 0 0 1000) untraded untraded) (priced office 1510) Accept
    ∷ meets 1 (security (terms 100 1 1 1000 0) untraded untraded) (priced office 1510) Accept
    ∷ meets 1 (security (terms 100 1 0 1000 0) untraded untraded) (priced office 1510) Accept
    ∷ meets 1 (security (terms 100 1 1 0 1000) (last 2000) untraded) (priced office 1510) Accept
    ∷ meets 1 (security (terms 100 1 1 0 1000) (last 2000) untraded) (foreign_at office 1510) Accept
    ∷ meets 1 (security (terms 100 1 1 0 1000) untraded (last 2000)) (priced office 1510) RejectQ
    -- warn 30: "limits, session 2, free: above 130% or below 70% of the last sale"
    ∷ meets 2 (free_at (last 1000) untraded) (priced office 1300) Accept
    ∷ meets 2 (free_at (last 1000) untraded) (priced office 1310) Warn30
    ∷ meets 2 (free_at (last 1000) untraded) (priced online 700) Accept
    ∷ meets 2 (free_at (last 1000) untraded) (priced online 695) Warn30
    ∷ meets 2 (free_at (last 199) untraded) (priced office 139) Warn30
    ∷ meets 2 (free_at (last 199) untraded) (priced office 140) Accept
    ∷ meets 2 (free_at (last 1000) untraded) (priced dma 1310) Warn30
    ∷ meets 2 (free_at (last 1000) untraded) (sold_at 1310) Warn30
    ∷ meets 2 (free_at (last 1000) untraded) (sold_at 695) Warn30
    ∷ meets 2 (free_at (last 3) untraded) (priced office 2) Warn30
    ∷ meets 2 (free_at (last 3) untraded) (priced office 3) Accept
    ∷ meets 2 (free_at (last 3) untraded) (priced office 4) Warn30
    ∷ meets 1 (free_at (last 1000) untraded) (priced office 1310) Accept
    ∷ meets 4 (free_at (last 1000) untraded) (priced office 695) Accept
    ∷ meets 2 (security plain (last 1000) untraded) (priced office 1310) Accept
    ∷ meets 2 (security (terms 100 0 1 0 0) (last 1000) untraded) (priced office 1310) Accept
    ∷ meets 2 (free_at (traded 0 1000 4975 5025) untraded) (typed main buy mp) Accept
    -- no other price of its board, and no prior close or IPO price
    ∷ meets 2 (free_at (both 2000 1000) (last 2000)) (priced office 1310) Warn30
    ∷ meets 2 (free_at (both 1000 2000) (last 1000)) (priced office 1500) Accept
    ∷ meets 2 (free_at (traded 1000 0 1000 1000) (last 1000)) (priced office 1310) Accept
    ∷ meets 2 (security (terms 100 1 1 1000 1000) untraded untraded) (priced office 1310) Accept
    -- "(foreign board: else the main board's)"
    ∷ meets 2 (free_at (last 2000) (last 1000)) (foreign_at office 1310) Warn30
    ∷ meets 2 (free_at (last 1000) (last 2000)) (foreign_at office 1500) Accept
    ∷ meets 2 (free_at (both 2000 1000) (projected 2000)) (foreign_at office 1310) Warn30
    ∷ meets 2 (free_at (both 1000 2000) (projected 1000)) (foreign_at office 1500) Accept
    ∷ meets 2 (free_at (projected 1000) untraded) (foreign_at office 1310) Accept
    -- warn 10: "limits, main board, sessions 1 and 4, online and DMA: more than 10 ladder positions"
    ∷ meets 1 (security plain (projected 2450) untraded) (priced online 2625) Accept
    ∷ meets 1 (security plain (projected 2450) untraded) (priced online 2650) Warn10
    ∷ meets 4 (security plain (projected 2450) untraded) (priced dma 2350) Accept
    ∷ meets 4 (security plain (projected 2450) untraded) (priced dma 2340) Warn10
    ∷ meets 4 (security plain (projected 2450) untraded) (entry 1 0 main sell limit online 2650 100) Warn10
    ∷ meets 1 (security plain (projected 2450) untraded) (priced office 2650) Accept
    ∷ meets 2 (security plain (projected 2450) untraded) (priced online 2650) Accept
    ∷ meets 1 (security plain (projected 2450) (projected 2450)) (foreign_at online 2650) Accept
    ∷ meets 1 (security plain (projected 2450) untraded) (entry 1 0 main buy ato online 0 100) Accept
    ∷ meets 4 (security plain (projected 2450) untraded) (entry 1 0 main sell atc dma 0 100) Accept
    -- "from the projected price, else last sale, else prior close; none, no check": of the main board, and no IPO price
    ∷ meets 1 (security (terms 100 0 1 2650 2650) (both 2450 2650) (both 2650 2650)) (priced online 2650) Warn10
    ∷ meets 1 (security (terms 100 0 1 2450 2450) (both 2650 2450) (both 2450 2450)) (priced online 2650) Accept
    ∷ meets 1 (security (terms 100 0 1 2650 2650) (last 2450) (both 2650 2650)) (priced online 2650) Warn10
    ∷ meets 1 (security (terms 100 0 1 2450 2450) (last 2650) (both 2450 2450)) (priced online 2650) Accept
    ∷ meets 1 (security (terms 100 0 1 2450 2650) (traded 0 0 2650 2650) (both 2650 2650)) (priced dma 2650) Warn10
    ∷ meets 1 (security (terms 100 0 1 0 2450) (traded 0 0 2450 2450) (both 2450 2450)) (priced online 2650) Accept
    -- each rule of a sell by DMA or online in the second of two securities, on the foreign board but for warn 10
    ∷ others 2 (security plain quoted (traded 0 0 0 5025)) (entry 1 1 foreign sell mp dma 0 100) RejectS
    ∷ others 2 bare (entry 1 1 foreign sell limit dma 5000 10_000_100) RejectV
    ∷ others 1 (free_at untraded (projected 1000)) (entry 1 1 foreign sell limit dma 1510 100) RejectQ
    ∷ others 2 (free_at untraded (last 1000)) (entry 1 1 foreign sell limit dma 1310 100) Warn30
    ∷ others 1 (security plain (projected 2450) untraded) (entry 1 1 main sell limit dma 2650 100) Warn10
    -- "first that applies"
    ∷ meets 3 bare (sized 5000 0) RejectS
    ∷ meets 1 (free_at (projected 1000) untraded) (sized 1510 50) RejectV
    ∷ meets 1 (free_at (projected 1000) untraded) (priced online 1500) Warn10
    ∷ meets 2 (free_at (both 1000 1000) untraded) (priced online 1500) Warn30
    ∷ []

pub all_right : map performed corners ≡ map right corners
unfolding performed_on
all_right = refl

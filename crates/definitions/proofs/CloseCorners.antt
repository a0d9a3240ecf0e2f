-- Paper 02, 2, "Closing prices after a right has gone": orders ten and eleven positions from each side of a prior close on and off the ladder, and what a
-- setup and a record may hold, run on the definitions; one theorem over each table. When such a record is sound is in SoundCorners.antt.
use mathlib.Core.List.{List, [], ◌∷◌, ◌++◌, map}
use mathlib.Core.Path.{◌≡◌, refl}
use Prim.Native.Nat.{ℕ}
use Rattle.definitions.specs.declared.Verdict.{Verdict}
use Rattle.definitions.specs.declared.Verdict.TheVariants.{Warn10, Accept}
use Rattle.definitions.proofs.Bytes.{session, setup, prices}
use Rattle.definitions.proofs.Run.{result_on, performed_on}
use Rattle.definitions.proofs.Corner.{Corner, Entry, found, performed, right, refused, done, verdict, judged, state, security_at, desk_at, row_at, security, terms, traded, untraded, desk, main, foreign, buy, sell, limit, office, online, dma, entry, bytes_of, follows}

-- a security with a prior close and the prices of its main board
abbrev pub closed_at : ℕ → List ℕ → List ℕ
closed_at close on_main = security (terms 100 0 0 close 0) on_main untraded

-- a free one, which has no range (paper 02, 3)
abbrev pub free_closed_at : ℕ → List ℕ
free_closed_at close = security (terms 100 1 0 close 0) untraded untraded

-- an order of a customer without rows, in a session
abbrev pub meets : ℕ → List ℕ → Entry → Verdict → Corner
meets now security e v = judged 5_000 now (security ∷ []) [] e v

abbrev pub limit_at : ℕ → ℕ → ℕ → Entry
limit_at side channel price = entry 1 0 main side limit channel price 100

-- eleven and ten positions down from the upper position of the prior close, ten and eleven up from its lower one
abbrev pub around : ℕ → ℕ → ℕ → ℕ → ℕ → List Corner
around close below least most above =
    meets 1 (closed_at close untraded) (limit_at buy online below) Warn10
    ∷ meets 4 (closed_at close untraded) (limit_at sell dma least) Accept
    ∷ meets 4 (closed_at close untraded) (limit_at buy dma most) Accept
    ∷ meets 1 (closed_at close untraded) (limit_at sell online above) Warn10
    ∷ []

abbrev pub closes : List Corner
closes =
    -- "adjusted prior closes such as 65.60, which lies between two steps", 65.50 and 65.75
    around 6560 6300 6325 6800 6825
    -- one satang below and above 2.00 (1.99 is legal)
    ++ around 199 188 189 218 220
    ++ around 201 190 191 220 222
    -- one satang below and above 5.00
    ++ around 499 478 480 545 550
    ++ around 501 480 482 550 555
    -- one satang below and above 10.00
    ++ around 999 945 950 1090 1100
    ++ around 1001 950 955 1100 1110
    -- one satang below and above 25.00
    ++ around 2499 2390 2400 2725 2750
    ++ around 2501 2400 2410 2750 2775
    -- one satang below and above 100.00
    ++ around 9999 9725 9750 10_450 10_500
    ++ around 10_001 9750 9775 10_500 10_550
    -- one satang below and above 200.00
    ++ around 19_999 19_450 19_500 20_900 21_000
    ++ around 20_001 19_500 19_550 21_000 21_100
    -- one satang below and above 400.00
    ++ around 39_999 38_900 39_000 41_800 42_000
    ++ around 40_001 39_000 39_100 42_000 42_200
    -- on a step, and one satang from it on either side
    ++ around 6549 6275 6300 6775 6800
    ++ around 6550 6275 6300 6800 6825
    ++ around 6551 6300 6325 6800 6825

pub closes-right : map performed closes ≡ map right closes
unfolding performed_on
closes-right = refl

abbrev pub ends : List Corner
ends =
    -- 0.01, the first price: nothing is below; up from position 1
    meets 1 (closed_at 1 untraded) (limit_at buy online 1) Accept
    ∷ meets 1 (free_closed_at 1) (limit_at buy online 11) Accept
    ∷ meets 1 (free_closed_at 1) (limit_at buy online 12) Warn10
    ∷ meets 1 (closed_at 11 untraded) (limit_at buy online 1) Accept
    ∷ meets 1 (closed_at 12 untraded) (limit_at buy online 1) Warn10
    -- 100,000.00, the last price: nothing is above; down from position 51,100
    ∷ meets 4 (closed_at 10_000_000 untraded) (limit_at sell dma 10_000_000) Accept
    ∷ meets 4 (closed_at 10_000_000 untraded) (limit_at sell dma 9_998_000) Accept
    ∷ meets 4 (closed_at 10_000_000 untraded) (limit_at sell dma 9_997_800) Warn10
    -- 99,999.99 and 99,998.01, between the last two prices
    ∷ meets 4 (closed_at 9_999_999 untraded) (limit_at sell dma 10_000_000) Accept
    ∷ meets 4 (closed_at 9_999_999 untraded) (limit_at sell dma 9_998_000) Accept
    ∷ meets 4 (closed_at 9_999_999 untraded) (limit_at sell dma 9_997_800) Warn10
    ∷ meets 4 (closed_at 9_999_801 untraded) (limit_at sell dma 9_998_000) Accept
    ∷ meets 4 (closed_at 9_999_801 untraded) (limit_at sell dma 9_997_800) Warn10
    -- the last price ten positions up from the lower position, and eleven
    ∷ meets 4 (closed_at 9_998_001 untraded) (limit_at sell dma 10_000_000) Accept
    ∷ meets 4 (closed_at 9_997_999 untraded) (limit_at sell dma 10_000_000) Warn10
    -- the projected price and the last sale go before it, and no other session, channel or board is looked at
    ∷ meets 1 (closed_at 6560 (traded 0 6825 0 0)) (limit_at buy online 6825) Accept
    ∷ meets 1 (closed_at 6560 (traded 6825 0 0 0)) (limit_at buy online 6825) Accept
    ∷ meets 1 (closed_at 6560 (traded 0 0 6825 6825)) (limit_at buy online 6825) Warn10
    ∷ meets 1 (closed_at 6560 (traded 0 6825 0 0)) (limit_at buy online 6550) Warn10
    ∷ meets 2 (closed_at 6560 untraded) (limit_at buy online 6825) Accept
    ∷ meets 1 (closed_at 6560 untraded) (limit_at buy office 6825) Accept
    ∷ meets 1 (closed_at 6560 untraded) (entry 1 0 foreign buy limit online 6825 100) Accept
    ∷ []

pub ends-right : map performed ends ≡ map right ends
unfolding performed_on
ends-right = refl

-- a customer without rows and a security with a prior close, before the opening
abbrev pub words : ℕ → List ℕ
words close = state 5_000 1 (closed_at close untraded ∷ []) (desk [] ∷ [])

abbrev pub sets : ℕ → Corner
sets close = done (words 0) (setup 0 100 0 0 close 0) ((security_at 0, terms 100 0 0 close 0) ∷ [])

abbrev pub held : ℕ → ℕ → Verdict → Corner
held close price v =
    verdict (words close) (bytes_of 0 (limit_at buy online price)) v (follows (desk_at 1 0) (row_at 1 0 0) (limit_at buy online price) v)

abbrev pub answers : List Corner
answers =
    -- "Refusal 6 .. now take[s] any prior close up to 10,000,000"
    sets 6560
    ∷ sets 1
    ∷ sets 201
    ∷ sets 40_001
    ∷ sets 9_999_999
    ∷ sets 10_000_000
    ∷ refused (words 0) (setup 0 100 0 0 10_000_001 0) 6
    ∷ refused (words 0) (setup 0 100 0 0 4_294_967_295 0) 6
    -- "and soundness": by each kind that reads the security
    ∷ held 6560 6800 Accept
    ∷ held 6560 6825 Warn10
    ∷ done (words 9_999_999) (session 1) []
    ∷ refused (words 10_000_001) (bytes_of 0 (limit_at buy online 6800)) 8
    ∷ refused (words 10_000_001) (setup 0 100 0 0 6560 0) 8
    ∷ refused (words 10_000_001) (prices 0 main 0 0 0 0) 8
    ∷ refused (words 10_000_001) (session 1) 8
    ∷ refused (words 4_294_967_295) (session 1) 8
    -- the market's prices stay on the ladder
    ∷ refused (words 6560) (prices 0 main 6560 0 0 0) 6
    ∷ refused (words 6560) (prices 0 main 0 6560 0 0) 6
    ∷ refused (words 6560) (bytes_of 0 (limit_at buy online 6560)) 6
    ∷ []

pub answers-right : map found answers ≡ map right answers
unfolding result_on
answers-right = refl

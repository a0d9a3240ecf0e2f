-- Paper 02, 3, "Daily ceiling and floor": orders on both sides of each edge of a range and of what has none, kind 9 with its refusals, when figures are sound, and
-- the range that a caller is given, run on the definitions; one theorem over each table.
use mathlib.Core.List.{List, [], ◌∷◌, ◌++◌, map}
use mathlib.Core.Path.{◌≡◌, refl}
use Prim.Native.Nat.{ℕ, ◌+◌}
use Rattle.definitions.specs.declared.Verdict.{Verdict}
use Rattle.definitions.specs.declared.Verdict.TheVariants.{RejectS, RejectV, RejectC, RejectW, RejectP, Warn10, Accept}
use Rattle.definitions.specs.Gate.{daily_range, floor_number, ceiling_number}
use Rattle.definitions.proofs.Bytes.{session, setup, prices, figures}
use Rattle.definitions.proofs.Run.{result_on, performed_on}
use Rattle.definitions.proofs.Corner.{Corner, Entry, found, performed, right, refused, done, judged, state, security_at, with_figures, terms, traded, untraded, counting, desk, main, foreign, buy, sell, limit, ato, atc, mp, office, online, dma, entry, bytes_of, opened, cancelled}

-- dividend, subscription, old and new shares
abbrev pub set : ℕ → ℕ → ℕ → ℕ → List ℕ
set dividend subscription old new = dividend ∷ subscription ∷ old ∷ new ∷ []

abbrev pub none : List ℕ
none = set 0 0 0 0

-- a security that is not free, with a prior close and figures
abbrev pub ranged : ℕ → List ℕ → List ℕ
ranged close f = with_figures f (terms 100 0 0 close 0) untraded untraded

abbrev pub limit_at : ℕ → ℕ → ℕ → Entry
limit_at side channel price = entry 1 0 main side limit channel price 100

abbrev pub meets : ℕ → List ℕ → Entry → Verdict → Corner
meets now security e v = judged 100_000 now (security ∷ []) [] e v

-- one step below the floor, at it, at the ceiling and one step above it
abbrev pub edges : ℕ → List ℕ → ℕ → ℕ → ℕ → ℕ → List Corner
edges close f below floor ceiling above =
    meets 2 (ranged close f) (limit_at buy online below) RejectC
    ∷ meets 2 (ranged close f) (limit_at sell dma floor) Accept
    ∷ meets 2 (ranged close f) (limit_at buy office ceiling) Accept
    ∷ meets 2 (ranged close f) (limit_at sell online above) RejectC
    ∷ []

-- rows of the customer: an open sell at 100.00, and a buy of 60,000 at 100.00 cancelled just now
abbrev pub owned : List (List ℕ)
owned = opened (entry 7 0 main sell limit online 10_000 100) ∷ cancelled 100_000 (entry 8 0 main buy limit online 10_000 60_000) ∷ []

abbrev pub orders : List Corner
orders =
    -- the request's figures, and the prior close without them
    edges 15_000 (set 0 1000 2 3) 4600 4625 8575 8600
    ++ edges 15_000 none 10_450 10_500 19_500 19_550
    -- 1.00: 0.70 and 1.30; one satang more is between two: 0.71 and 1.31
    ++ edges 100 none 69 70 130 131
    ++ edges 101 none 70 71 131 132
    -- 65.60, between two steps: 45.92 and 85.28
    ++ edges 6560 none 4575 4600 8525 8550
    -- across a change of the step: 2.00, 3.33 and 9.99 (6.993 and 12.987)
    ++ edges 200 none 139 140 260 262
    ++ edges 333 none 232 234 432 434
    ++ edges 999 none 695 700 1290 1300
    -- 400.00: 280.00 and 520.00
    ++ edges 40_000 none 27_900 28_000 52_000 52_200
    -- a base that is no whole number: (99.99 x 2 + 0.01 x 1) / 3, 46.667 and 86.667
    ++ edges 10_000 (set 1 1 2 1) 4650 4675 8650 8675
    -- a dividend alone
    ++ edges 10_000 (set 1000 0 1 0) 6275 6300 11_700 11_750
    ++ (
    -- 0.99: 0.01 and 1.98; 0.01: 0.01 and 0.02; whatever the figures
    meets 2 (ranged 99 none) (limit_at buy online 1) Accept
    ∷ meets 2 (ranged 99 none) (limit_at buy online 198) Accept
    ∷ meets 2 (ranged 99 none) (limit_at buy online 199) RejectC
    ∷ meets 2 (ranged 99 (set 98 0 1 65_535)) (limit_at buy online 198) Accept
    ∷ meets 2 (ranged 1 none) (limit_at sell online 2) Accept
    ∷ meets 2 (ranged 1 none) (limit_at sell online 3) RejectC
    -- 100,000.00: nothing is above; 70,000.00
    ∷ meets 2 (ranged 10_000_000 none) (limit_at sell online 10_000_000) Accept
    ∷ meets 2 (ranged 10_000_000 none) (limit_at sell online 7_000_000) Accept
    ∷ meets 2 (ranged 10_000_000 none) (limit_at sell online 6_999_800) RejectC
    -- "both are at least 1": a base of 1/65,536 satang, and one of 1.5, for which no price is within
    ∷ meets 2 (ranged 1000 (set 999 0 1 65_535)) (limit_at buy online 1) Accept
    ∷ meets 2 (ranged 1000 (set 999 0 1 65_535)) (limit_at buy online 2) RejectC
    ∷ meets 2 (ranged 100 (set 99 2 1 1)) (limit_at buy online 1) RejectC
    ∷ meets 2 (ranged 100 (set 99 2 1 1)) (limit_at buy online 2) RejectC
    -- 10/7 and 20/13 satang themselves: 0.01 and no other, 0.02 and no other
    ∷ meets 2 (ranged 100 (set 98 1 3 4)) (limit_at buy online 1) Accept
    ∷ meets 2 (ranged 100 (set 98 1 3 4)) (limit_at buy online 2) RejectC
    ∷ meets 2 (ranged 100 (set 99 2 6 7)) (limit_at buy online 1) RejectC
    ∷ meets 2 (ranged 100 (set 99 2 6 7)) (limit_at buy online 2) Accept
    ∷ meets 2 (ranged 100 (set 99 2 6 7)) (limit_at buy online 3) RejectC
    -- "securities that are not free and have a prior close, a main-board limit": no other
    ∷ meets 2 (with_figures (set 0 1000 2 3) (terms 100 1 0 15_000 0) untraded untraded) (limit_at buy online 1) Accept
    ∷ meets 2 (ranged 0 none) (limit_at buy online 1) Accept
    ∷ meets 2 (ranged 15_000 none) (entry 1 0 foreign buy limit online 1 100) Accept
    ∷ meets 2 (with_figures none (terms 100 0 1 15_000 10_000_000) untraded untraded) (limit_at buy online 20_000) RejectC
    ∷ meets 1 (ranged 15_000 none) (entry 1 0 main buy ato online 0 100) Accept
    ∷ meets 4 (ranged 15_000 none) (entry 1 0 main sell atc online 0 100) Accept
    ∷ meets 2 (with_figures none (terms 100 0 0 15_000 0) (traded 0 0 0 10_000) untraded) (entry 1 0 main buy mp online 0 100) Accept
    -- in each session in which a limit may be entered, and after S and V
    ∷ meets 1 (ranged 15_000 none) (limit_at buy office 1) RejectC
    ∷ meets 4 (ranged 15_000 none) (limit_at sell dma 1) RejectC
    ∷ meets 0 (ranged 15_000 none) (limit_at buy office 1) RejectS
    ∷ meets 3 (ranged 15_000 none) (limit_at buy office 1) RejectS
    ∷ meets 2 (ranged 15_000 none) (entry 1 0 main buy limit online 1 150) RejectV
    -- the market's prices are not looked at
    ∷ meets 2 (with_figures none (terms 100 0 0 15_000 0) (traded 30_000 30_000 30_000 30_000) untraded) (limit_at buy online 19_550) RejectC
    -- before W, P and warn 10
    ∷ judged 100_000 2 (ranged 15_000 none ∷ []) owned (entry 1 0 main buy limit online 10_000 60_000) RejectC
    ∷ judged 100_000 2 (ranged 10_000 none ∷ []) owned (entry 1 0 main buy limit online 10_000 60_000) RejectW
    ∷ judged 100_000 2 (ranged 15_000 none ∷ []) (cancelled 100_000 (entry 8 0 main buy limit online 10_000 60_000) ∷ []) (entry 1 0 main buy limit online 10_000 60_000) RejectC
    ∷ judged 100_000 2 (ranged 10_000 none ∷ []) (cancelled 100_000 (entry 8 0 main buy limit online 10_000 60_000) ∷ []) (entry 1 0 main buy limit online 10_000 60_000) RejectP
    ∷ meets 1 (ranged 15_000 none) (limit_at buy online 19_500) Warn10
    ∷ meets 1 (ranged 15_000 none) (limit_at buy online 19_550) RejectC
    ∷ []
    )

pub orders-right : map performed orders ≡ map right orders
unfolding performed_on
orders-right = refl

-- three securities: 100.00 with figures, 150.00 without, and one without a prior close
abbrev pub words : List ℕ
words = state 5_000 1 (ranged 10_000 (set 1 2 3 4) ∷ ranged 15_000 none ∷ ranged 0 none ∷ []) (desk [] ∷ [])

-- a security with some figures, alone
abbrev pub damaged : ℕ → List ℕ → List ℕ
damaged close f = state 5_000 1 (ranged close f ∷ []) (desk [] ∷ [])

abbrev pub set_at : ℕ → List ℕ → List (ℕ × List ℕ)
set_at s f = (security_at s + 13, f) ∷ []

abbrev pub answers : List Corner
answers =
    -- kind 9 sets the four words, and sets them anew; the other words stay
    done words (figures 1 0 1000 2 3) (set_at 1 (set 0 1000 2 3))
    ∷ done words (figures 0 9_999 4_294_967_295 65_535 65_535) (set_at 0 (set 9_999 4_294_967_295 65_535 65_535))
    ∷ done words (figures 1 0 0 1 0) (set_at 1 (set 0 0 1 0))
    ∷ done (state 0 0 (with_figures none (terms 1 1 1 500 0) untraded untraded ∷ []) (desk [] ∷ [])) (figures 0 499 0 7 0) (set_at 0 (set 499 0 7 0))
    -- "kind 3 clears it"; kinds 2 and 4 leave it
    ∷ done words (setup 0 100 0 0 10_000 0) (set_at 0 none)
    ∷ done words (prices 0 main 0 0 0 0) []
    ∷ done words (session 2) ((3, 2 ∷ []) ∷ [])
    -- 4, before 8
    ∷ refused words (figures 3 0 1000 2 3) 4
    ∷ refused words (figures 256 0 1000 2 3) 4
    ∷ refused (damaged 10_000 (set 10_000 0 1 0)) (figures 1 0 1000 2 3) 4
    -- "13 if old is 0 or the dividend is not below the prior close", and where there is none
    ∷ refused words (figures 0 0 1000 0 3) 13
    ∷ refused words (figures 0 10_000 0 1 0) 13
    ∷ refused words (figures 0 10_001 0 1 0) 13
    ∷ refused words (figures 0 4_294_967_295 0 1 0) 13
    ∷ refused words (figures 2 0 1000 2 3) 13
    ∷ refused words (figures 1 0 0 0 0) 13
    -- "checked after 8 on the security"
    ∷ refused (damaged 10_000 (set 10_000 0 1 0)) (figures 0 0 1000 0 3) 8
    -- "sound if all zero or as kind 9 could have set them", by each kind that reads the security
    ∷ done (damaged 10_000 (set 9_999 4_294_967_295 65_535 65_535)) (session 1) []
    ∷ done (damaged 10_000 (set 0 0 1 0)) (session 1) []
    ∷ refused (damaged 10_000 (set 1 0 0 0)) (session 1) 8
    ∷ refused (damaged 10_000 (set 0 1 0 0)) (session 1) 8
    ∷ refused (damaged 10_000 (set 0 0 0 1)) (session 1) 8
    ∷ refused (damaged 10_000 (set 10_000 0 1 0)) (session 1) 8
    ∷ refused (damaged 10_000 (set 0 0 65_536 0)) (session 1) 8
    ∷ refused (damaged 10_000 (set 0 0 1 65_536)) (session 1) 8
    ∷ refused (damaged 0 (set 0 0 1 0)) (session 1) 8
    ∷ refused (damaged 10_000 (set 0 0 65_536 0)) (setup 0 100 0 0 0 0) 8
    ∷ refused (damaged 10_000 (set 0 0 65_536 0)) (prices 0 main 0 0 0 0) 8
    ∷ refused (damaged 10_000 (set 0 0 65_536 0)) (bytes_of 0 (limit_at buy online 10_000)) 8
    ∷ refused (damaged 10_000 (set 0 0 65_536 0)) (figures 0 0 0 1 0) 8
    ∷ []

pub answers-right : map found answers ≡ map right answers
unfolding result_on
answers-right = refl

-- words and the number of a security, and what a caller is given
abbrev pub given : List ((List ℕ × ℕ) × (ℕ × ℕ))
given =
    ((words, 0), (3025, 5550))
    ∷ ((words, 1), (10_500, 19_500))
    ∷ ((words, 2), (0, 0))
    ∷ ((words, 3), (0, 0))
    ∷ ((words, 4_294_967_295), (0, 0))
    ∷ ((damaged 15_000 (set 0 1000 2 3), 0), (4625, 8575))
    ∷ ((damaged 100 (set 99 2 1 1), 0), (2, 1))
    ∷ ((damaged 15_000 (set 0 1000 0 3), 0), (0, 0))
    ∷ ((state 5_000 1 (with_figures none (terms 100 1 0 15_000 0) untraded untraded ∷ []) (desk [] ∷ []), 0), (0, 0))
    ∷ ((state 5_000 5 (ranged 15_000 none ∷ []) (desk [] ∷ []), 0), (0, 0))
    -- behind the last security stands the first desk, whose first words may read as a sound one
    ∷ ((state 5_000 1 (ranged 15_000 none ∷ []) (counting 1 0 0 (opened (entry 1 0 main buy limit online 5000 100) ∷ []) ∷ []), 1), (0, 0))
    ∷ (([], 0), (0, 0))
    ∷ []

pub given-right : map (λ (c : (List ℕ × ℕ) × (ℕ × ℕ)). (floor_number (daily_range c.0.0 c.0.1), ceiling_number (daily_range c.0.0 c.0.1))) given ≡ map (λ (c : (List ℕ × ℕ) × (ℕ × ℕ)). c.1) given
unfolding result_on
given-right = refl

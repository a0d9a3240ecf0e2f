-- Paper 01, "Where an event is turned back": the corners of the table, run on the definitions, and one theorem over the whole. What else condition 8 asks of
-- a record is in SoundCorners.antt.
use mathlib.Core.Bool.{true, false}
use mathlib.Core.List.{List, [], ◌∷◌, ◌++◌, map}
use mathlib.Core.Path.{◌≡◌, refl}
use Prim.Native.Nat.{ℕ, zero, suc, ◌+◌}
use lib.ListN.{replicate, take}
use Rattle.definitions.specs.Answers.{Answer}
use Rattle.definitions.specs.Answers as answer
use Rattle.definitions.specs.declared.Verdict.TheVariants.{Accept, RejectS, RejectV, RejectW, RejectP}
use Rattle.definitions.specs.State.{sizes_fit}
use Rattle.definitions.specs.Gate as gate
use Rattle.definitions.specs.Gate.{answer_of, made}
use Rattle.definitions.proofs.Bytes.{clock, session, setup, prices, order, cancel, match}
use Rattle.definitions.proofs.Run.{result_on, words_of}
use Rattle.definitions.proofs.Corner.{Corner, found, right, refused, done, verdict, written, joined, state, clock_at, session_at, desk_at, row_at, security, plain, free, traded, untraded, counting, desk, main, foreign, buy, sell, limit, ato, atc, mp, online, entry, opened, cancelled, follows, bought, buys, open_rows, two_customers}

-- one customer, one security, session 2, the clock at 5,000: no row, and an open row number 1
abbrev pub bare : List ℕ
bare = state 5_000 2 (security plain untraded untraded ∷ []) (desk [] ∷ [])

abbrev pub held : List ℕ
held = state 5_000 2 (security plain untraded untraded ∷ []) (desk (opened (bought 1) ∷ []) ∷ [])

-- the row cancelled at 5,000, and a later clock
abbrev pub cancelled_row : ℕ → List ℕ
cancelled_row now = state now 2 (security plain untraded untraded ∷ []) (desk (cancelled 5_000 (bought 1) ∷ []) ∷ [])

-- a row and 31 open ones, a best offer, and a clock
abbrev pub full : ℕ → List ℕ → List ℕ
full now first = state now 2 (security free (traded 0 1000 0 5025) untraded ∷ []) (desk (first ∷ open_rows 31) ∷ [])

-- and the other way round: the row is the last
abbrev pub full_to : List ℕ → List ℕ
full_to last = state 5_000 2 (security free (traded 0 1000 0 5025) untraded ∷ []) (desk (open_rows 31 ++ (last ∷ [])) ∷ [])

-- 32 orders leave such a desk
abbrev pub orders : ℕ → List (List ℕ)
orders zero = []
orders (suc n) = orders n ++ (buys 0 (suc n) ∷ [])

pub full-words : words_of 1 1 (session 2 ∷ buys 0 32 ∷ orders 31) ≡ state 0 2 (security plain untraded untraded ∷ []) (counting 32 0 0 (opened (bought 32) ∷ open_rows 31) ∷ [])
unfolding words_of
full-words = refl

-- one customer and two securities
abbrev pub two_securities : List ℕ
two_securities = state 5_000 2 (security plain untraded untraded ∷ security plain untraded untraded ∷ []) (desk [] ∷ [])

abbrev pub corners : List Corner
corners =
    -- 1: sizes, word count, clock and session; before the bytes are looked at
    refused (state 0 2 (security plain untraded untraded ∷ []) []) (session 2) 1
    ∷ refused (state 0 2 [] (desk [] ∷ [])) (session 2) 1
    ∷ refused [] (session 2) 1
    ∷ refused (take 311 bare) (session 2) 1
    ∷ refused (bare ++ (0 ∷ [])) (session 2) 1
    ∷ refused (written bare clock_at (86_400_000 ∷ [])) (session 2) 1
    ∷ done (written bare clock_at (86_399_999 ∷ [])) (session 2) []
    ∷ refused (written bare session_at (5 ∷ [])) [] 1
    ∷ done (written bare session_at (4 ∷ [])) (session 4) []
    -- 2 and 3: nothing at all is 2, an unknown kind comes before a wrong length
    ∷ refused bare [] 2
    ∷ refused bare (1 ∷ []) 2
    ∷ refused bare (2 ∷ 1 ∷ 0 ∷ []) 2
    ∷ refused bare (3 ∷ 0 ∷ 0 ∷ []) 2
    ∷ refused bare (4 ∷ 0 ∷ 0 ∷ []) 2
    ∷ refused bare (take 20 (buys 0 1)) 2
    ∷ refused bare (buys 0 1 ++ (0 ∷ [])) 2
    ∷ refused bare (6 ∷ []) 2
    ∷ refused bare (7 ∷ []) 2
    ∷ refused bare (0 ∷ []) 3
    ∷ refused bare (9 ∷ 1 ∷ []) 2
    ∷ refused bare (10 ∷ 1 ∷ []) 3
    -- 4: customer or security at least C or S, also by the high byte; and before 5
    ∷ refused bare (buys 1 1) 4
    ∷ refused bare (buys 256 1) 4
    ∷ refused bare (order 0 1 1 main buy limit online 5000 100) 4
    ∷ refused bare (order 0 1 256 main buy limit online 5000 100) 4
    ∷ refused held (cancel 1 1) 4
    ∷ refused held (cancel 256 1) 4
    ∷ refused held (match 1 1 50) 4
    ∷ refused bare (setup 1 100 0 0 0 0) 4
    ∷ refused bare (prices 1 main 0 0 0 0) 4
    ∷ refused two_securities (buys 1 1) 4
    ∷ refused two_customers (order 0 1 1 main buy limit online 5000 100) 4
    ∷ refused two_customers (setup 1 100 0 0 0 0) 4
    ∷ refused two_securities (cancel 1 1) 4
    ∷ verdict two_securities (order 0 1 1 main buy limit online 5000 100) Accept (follows (desk_at 2 0) (row_at 2 0 0) (entry 1 1 main buy limit online 5000 100) Accept)
    ∷ verdict two_customers (buys 1 2) Accept (follows (desk_at 1 1) (row_at 1 1 1) (bought 2) Accept)
    ∷ refused bare (cancel 1 0) 4
    ∷ refused bare (match 1 0 0) 4
    ∷ refused bare (setup 1 10 0 0 0 0) 4
    ∷ refused bare (prices 1 2 0 0 0 0) 4
    ∷ refused bare (buys 1 0) 4
    -- 5: each code one beyond its list, a lot beside each of the list; and before 6
    ∷ refused bare (clock 86_400_000) 5
    ∷ refused bare (session 5) 5
    ∷ refused bare (setup 0 0 0 0 0 0) 5
    ∷ refused bare (setup 0 2 0 0 0 0) 5
    ∷ refused bare (setup 0 49 0 0 0 0) 5
    ∷ refused bare (setup 0 51 0 0 0 0) 5
    ∷ refused bare (setup 0 99 0 0 0 0) 5
    ∷ refused bare (setup 0 101 0 0 0 0) 5
    ∷ refused bare (setup 0 50 2 0 0 0) 5
    ∷ refused bare (setup 0 50 0 2 0 0) 5
    ∷ refused bare (prices 0 2 0 0 0 0) 5
    ∷ refused bare (order 0 0 0 main buy limit online 5000 100) 5
    ∷ refused bare (order 0 1 0 2 buy limit online 5000 100) 5
    ∷ refused bare (order 0 1 0 main 2 limit online 5000 100) 5
    ∷ refused bare (order 0 1 0 main buy 4 online 0 100) 5
    ∷ refused bare (order 0 1 0 main buy limit 3 5000 100) 5
    ∷ refused bare (cancel 0 0) 5
    ∷ refused bare (match 0 0 50) 5
    ∷ refused bare (setup 0 10 0 0 10_000_001 0) 5
    ∷ refused bare (prices 0 2 0 0 0 201) 5
    ∷ refused bare (order 0 0 0 main buy limit online 5001 100) 5
    -- 6: each price off the ladder, and at its end; a prior close beyond the end (paper 02, 2)
    ∷ refused bare (setup 0 100 0 0 10_000_001 0) 6
    ∷ refused bare (setup 0 100 0 0 0 10_000_001) 6
    ∷ refused bare (prices 0 main 201 0 0 0) 6
    ∷ refused bare (prices 0 main 0 201 0 0) 6
    ∷ refused bare (prices 0 main 0 0 201 0) 6
    ∷ refused bare (prices 0 foreign 0 0 0 201) 6
    ∷ refused bare (order 0 1 0 main buy limit online 0 100) 6
    ∷ refused bare (order 0 1 0 main buy limit online 5001 100) 6
    ∷ refused bare (order 0 1 0 main buy limit online 10_000_200 100) 6
    ∷ refused bare (order 0 1 0 main buy ato online 5000 100) 6
    ∷ refused bare (order 0 1 0 main buy atc online 5000 100) 6
    ∷ refused bare (order 0 1 0 main buy mp online 5000 100) 6
    -- 7
    ∷ refused bare (clock 4_999) 7
    ∷ done bare (clock 5_000) []
    -- 9: for MP too; a cancelled row holds its number for 60,000 ms
    ∷ refused held (buys 0 1) 9
    ∷ refused (state 5_000 2 (security plain untraded untraded ∷ security plain untraded untraded ∷ []) (desk (opened (bought 1) ∷ []) ∷ [])) (order 0 1 1 main buy limit online 5000 100) 9
    ∷ refused held (order 0 1 0 main buy mp online 0 100) 9
    ∷ refused (cancelled_row 65_000) (buys 0 1) 9
    ∷ verdict (cancelled_row 65_001) (buys 0 1) Accept (follows (desk_at 1 0) (row_at 1 0 0) (bought 1) Accept)
    -- 10: a cancelled row is not open; and before 11
    ∷ refused held (cancel 0 2) 10
    ∷ refused (cancelled_row 5_000) (cancel 0 1) 10
    ∷ refused (cancelled_row 5_000) (match 0 1 50) 10
    ∷ refused held (match 0 2 0) 10
    ∷ refused two_customers (cancel 0 1) 10
    -- 11
    ∷ refused held (match 0 1 0) 11
    ∷ refused held (match 0 1 101) 11
    ∷ done held (match 0 1 100) ((row_at 1 0 0, replicate 9 0) ∷ [])
    -- 12: accept and warn; after 9, and not for an order that is rejected; a row cancelled in the minute counts
    ∷ refused (full 5_000 (opened (bought 32))) (buys 0 1) 9
    ∷ refused (full 5_000 (opened (bought 32))) (order 0 33 0 main buy limit online 1000 100) 12
    ∷ refused (full 5_000 (opened (bought 32))) (buys 0 33) 12
    ∷ refused (written (full 5_000 (opened (bought 32))) session_at (1 ∷ [])) (order 0 33 0 main buy ato online 0 100) 12
    ∷ refused (full 5_000 (opened (bought 32))) (order 0 33 0 main buy mp online 0 100) 12
    ∷ verdict (full 5_000 (opened (bought 32))) (order 0 33 0 main buy ato online 0 100) RejectS ((desk_at 1 0 + 2, 31 ∷ []) ∷ [])
    ∷ verdict (full 5_000 (opened (bought 32))) (order 0 33 0 main buy limit online 5000 150) RejectV ((desk_at 1 0 + 2, 31 ∷ []) ∷ [])
    ∷ refused (full 65_000 (cancelled 5_000 (bought 32))) (order 0 33 0 main buy limit online 1000 100) 12
    ∷ verdict (full 65_001 (cancelled 5_000 (bought 32))) (order 0 33 0 main buy limit online 1000 100) Accept
    ((desk_at 1 0, 11 ∷ []) ∷ (row_at 1 0 0, joined (open_rows 31 ++ (opened (entry 33 0 main buy limit online 1000 100) ∷ []))) ∷ [])
    -- 9, 10, 11, W and P look at the last of the 32 rows too
    ∷ refused (full_to (opened (bought 32))) (buys 0 32) 9
    ∷ done (full_to (opened (bought 32))) (cancel 0 32) ((row_at 1 0 31, cancelled 5_000 (bought 32)) ∷ [])
    ∷ done (full_to (opened (bought 32))) (match 0 32 100) ((row_at 1 0 31, replicate 9 0) ∷ [])
    ∷ refused (full_to (opened (bought 32))) (match 0 32 101) 11
    ∷ verdict (full_to (opened (entry 32 0 main sell limit online 5100 100))) (order 0 33 0 main buy limit online 5100 100) RejectW
    ((desk_at 1 0 + 2, 31 ∷ []) ∷ [])
    ∷ verdict (full_to (cancelled 5_000 (entry 32 0 main buy limit online 5000 60_000))) (order 0 33 0 main buy limit online 5000 60_000) RejectP
    ((desk_at 1 0 + 2, 31 ∷ []) ∷ [])
    ∷ []

pub all_right : map found corners ≡ map right corners
unfolding result_on
all_right = refl

-- 1, "also on making a fresh state": the answer over so many words, for C customers and S securities
abbrev pub making : ℕ → ℕ → ℕ → Answer
making words customers securities = answer_of (made (replicate words 7) customers securities)

abbrev pub sizes : List (Answer × Answer)
sizes =
    (making 312 1 1, answer.Ok)
    ∷ (making 311 1 1, answer.Refused 1)
    ∷ (making 313 1 1, answer.Refused 1)
    ∷ (making 21 0 1, answer.Refused 1)
    ∷ (making 295 1 0, answer.Refused 1)
    ∷ []

pub sizes-right : map (λ (c : Answer × Answer). c.0) sizes ≡ map (λ (c : Answer × Answer). c.1) sizes
unfolding made
sizes-right = refl

-- "C customers (1 to 256) and S securities (1 to 1,024)": the test that a state and the making of one share, at its edges
pub edges-right : (sizes_fit 256 1_024 ≡ true) × (sizes_fit 257 1 ≡ false) × (sizes_fit 1 1_025 ≡ false) × (sizes_fit 0 1 ≡ false) × (sizes_fit 1 0 ≡ false)
edges-right = (refl, refl, refl, refl, refl)

-- "A fresh state has its C and S, every lot 100 and zeros elsewhere."
pub fresh-right : made (replicate 637 7) 2 3 ≡ gate.done answer.Ok (2 ∷ 3 ∷ 0 ∷ 0 ∷ (joined (replicate 3 (100 ∷ replicate 16 0)) ++ replicate 582 0))
unfolding made result_on
fresh-right = refl

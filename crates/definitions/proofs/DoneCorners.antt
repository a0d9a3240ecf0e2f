-- Paper 01, "Events": what each of its kinds does to the words, run on the definitions over two customers and three securities, and one theorem over the
-- whole. Kind 8 is in RestCorners.antt, the refusals of kind 9 in RangeCorners.antt.
use mathlib.Core.List.{List, [], ◌∷◌, ◌++◌, map}
use mathlib.Core.Path.{◌≡◌, refl}
use Prim.Native.Nat.{ℕ, ◌+◌}
use lib.ListN.{drop, replicate}
use Rattle.definitions.specs.declared.Verdict.TheVariants.{RejectV, RejectW, Warn30, Accept}
use Rattle.definitions.proofs.Bytes.{clock, session, setup, prices, cancel, match, figures}
use Rattle.definitions.specs.Lone.{market_words, customer_words}
use Rattle.definitions.proofs.Run.{result_on}
use Rattle.definitions.proofs.Corner.{Corner, ChangedWords, Entry, found, right, done, verdict, joined, state, clock_at, session_at, security_at, desk_at, row_at, with_figures, security, terms, traded, counting, desk, main, foreign, buy, sell, limit, ato, atc, mp, online, entry, bytes_of, opened, cancelled}

-- three securities, of which no two words are alike that might be taken for each other
abbrev pub first : List ℕ
first = with_figures (12 ∷ 13 ∷ 14 ∷ 15 ∷ []) (terms 50 1 1 1000 2001) (traded 5000 5025 4975 5050) (traded 6000 6025 5975 6050)

abbrev pub second : List ℕ
second = with_figures (16 ∷ 7777 ∷ 17 ∷ 18 ∷ []) (terms 100 0 0 7100 2101) (traded 7000 7025 6975 7050) (traded 8000 8025 7975 8050)

abbrev pub third : List ℕ
third = security (terms 1 0 1 1200 2201) (traded 9000 9025 8975 9050) (traded 9500 9525 9475 9550)

-- limits of 100 shares and 200 shares, ATO and ATC; security, board and side differ from each other in one of them or another
abbrev pub bought : ℕ → Entry
bought number = entry number 1 foreign buy limit online 4900 100

abbrev pub sold : ℕ → Entry
sold number = entry number 1 main sell limit online 8100 200

abbrev pub at_open : ℕ → Entry
at_open number = entry number 1 main sell ato online 0 300

abbrev pub at_close : ℕ → Entry
at_close number = entry number 0 foreign buy atc online 0 400

-- rows of all types, and rows cancelled long ago, 60,001 ms and 60,000 ms before 100,000
abbrev pub mixed : List (List ℕ)
mixed =
    opened (bought 1)
    ∷ opened (at_open 2)
    ∷ cancelled 0 (sold 3)
    ∷ opened (at_close 4)
    ∷ cancelled 39_999 (bought 5)
    ∷ opened (sold 6)
    ∷ cancelled 40_000 (bought 7)
    ∷ opened (at_open 8)
    ∷ []

abbrev pub few : List (List ℕ)
few = opened (at_close 1) ∷ opened (sold 2) ∷ []

abbrev pub free_rows : ℕ → List (List ℕ)
free_rows n = replicate n (replicate 9 0)

-- at 100,000 in a session
abbrev pub words : ℕ → List ℕ
words now = state 100_000 now (first ∷ second ∷ third ∷ []) (desk mixed ∷ desk few ∷ [])

abbrev pub rows : ℕ → List (List ℕ) → ℕ × List ℕ
rows k after = (row_at 3 k 0, joined after)

-- every projected price absent, and only limits left
abbrev pub changed_session : ℕ → ChangedWords
changed_session to =
    (session_at, to ∷ [])
    ∷ (security_at 0 + 5, 0 ∷ [])
    ∷ (security_at 0 + 9, 0 ∷ [])
    ∷ (security_at 1 + 5, 0 ∷ [])
    ∷ (security_at 1 + 9, 0 ∷ [])
    ∷ (security_at 2 + 5, 0 ∷ [])
    ∷ (security_at 2 + 9, 0 ∷ [])
    ∷ rows 0 (opened (bought 1) ∷ cancelled 0 (sold 3) ∷ cancelled 39_999 (bought 5) ∷ opened (sold 6) ∷ cancelled 40_000 (bought 7) ∷ free_rows 3)
    ∷ rows 1 (opened (sold 2) ∷ free_rows 1)
    ∷ []

-- an order of 100 shares in security 1, which stands last where those cancelled more than 60,000 ms ago have gone
abbrev pub ordered : Entry
ordered = entry 4_294_967_295 1 main buy limit online 7000 100

abbrev pub with_order : Entry → List (List ℕ)
with_order e =
    opened (bought 1)
    ∷ opened (at_open 2)
    ∷ opened (at_close 4)
    ∷ opened (sold 6)
    ∷ cancelled 40_000 (bought 7)
    ∷ opened (at_open 8)
    ∷ opened e
    ∷ free_rows 1

-- one customer without rows and with some counters, in session 2
abbrev pub counters : ℕ → ℕ → ℕ → List ℕ
counters accepted warned rejected = state 0 2 (first ∷ []) (counting accepted warned rejected [] ∷ [])

abbrev pub limits : ℕ → ℕ → Entry
limits price volume = entry 1 0 main buy limit online price volume

-- a setup's fields, and no figures any more
abbrev pub set_anew : ℕ → List ℕ → ChangedWords
set_anew s fields = (security_at s, fields) ∷ (security_at s + 13, replicate 4 0) ∷ []

abbrev pub corners : List Corner
corners =
    -- "Only kind 1 moves the clock."
    done (words 2) (clock 86_399_999) ((clock_at, 86_399_999 ∷ []) ∷ [])
    -- "A session that differs from the present one removes all ATO and ATC rows and makes every projected price absent; the same session changes nothing."
    ∷ done (words 1) (session 0) (changed_session 0)
    ∷ done (words 2) (session 1) (changed_session 1)
    ∷ done (words 1) (session 2) (changed_session 2)
    ∷ done (words 2) (session 3) (changed_session 3)
    ∷ done (words 2) (session 4) (changed_session 4)
    ∷ done (words 1) (session 1) []
    ∷ done (words 2) (session 2) []
    -- "Kinds 3 and 4 replace the fields they name."; paper 02, 3, of the figures: "kind 3 clears it"
    ∷ done (words 2) (setup 0 1 0 0 9_999_800 9_999_999) (set_anew 0 (terms 1 0 0 9_999_800 9_999_999))
    ∷ done (words 2) (setup 1 50 1 0 0 10_000_000) (set_anew 1 (terms 50 1 0 0 10_000_000))
    ∷ done (words 2) (setup 1 100 0 1 10_000_000 0) (set_anew 1 (terms 100 0 1 10_000_000 0))
    ∷ done (words 2) (setup 2 100 0 0 0 0) (set_anew 2 (terms 100 0 0 0 0))
    ∷ done (words 2) (prices 0 main 10_000_000 9_999_800 9_999_600 9_999_400)
    ((security_at 0 + 5, traded 10_000_000 9_999_800 9_999_600 9_999_400) ∷ [])
    ∷ done (words 2) (prices 0 foreign 5 6 7 8) ((security_at 0 + 9, traded 5 6 7 8) ∷ [])
    ∷ done (words 2) (prices 1 foreign 1 2 3 4) ((security_at 1 + 9, traded 1 2 3 4) ∷ [])
    ∷ done (words 2) (prices 2 main 0 0 0 0) ((security_at 2 + 5, traded 0 0 0 0) ∷ [])
    -- paper 02, 3: kind 9 sets the figures, and nothing else
    ∷ done (words 2) (figures 0 19 20 21 22) ((security_at 0 + 13, 19 ∷ 20 ∷ 21 ∷ 22 ∷ []) ∷ [])
    ∷ done (words 2) (figures 1 7_099 4_294_967_295 65_535 0) ((security_at 1 + 13, 7_099 ∷ 4_294_967_295 ∷ 65_535 ∷ 0 ∷ []) ∷ [])
    ∷ done (words 2) (figures 2 0 0 1 65_535) ((security_at 2 + 13, 0 ∷ 0 ∷ 1 ∷ 65_535 ∷ []) ∷ [])
    -- "An accepted or warned order .. first removes that customer's rows cancelled more than 60,000 ms ago, then is added last."; since paper 02, 1, an MP order too
    ∷ verdict (words 2) (bytes_of 0 ordered) Accept ((desk_at 3 0, 11 ∷ []) ∷ rows 0 (with_order ordered) ∷ [])
    ∷ verdict (words 2) (bytes_of 0 (entry 9 0 main buy limit online 1000 100)) Warn30
    ((desk_at 3 0 + 1, 21 ∷ []) ∷ rows 0 (with_order (entry 9 0 main buy limit online 1000 100)) ∷ [])
    ∷ verdict (words 2) (bytes_of 0 (entry 5 0 main buy limit online 4900 100)) Accept
    ((desk_at 3 0, 11 ∷ []) ∷ rows 0 (with_order (entry 5 0 main buy limit online 4900 100)) ∷ [])
    ∷ verdict (words 1) (bytes_of 0 (entry 9 0 main buy ato online 0 100)) Accept ((desk_at 3 0, 11 ∷ []) ∷ rows 0 (with_order (entry 9 0 main buy ato online 0 100)) ∷ [])
    ∷ verdict (words 2) (bytes_of 1 ordered) Accept ((desk_at 3 1, 11 ∷ []) ∷ (row_at 3 1 2, opened ordered) ∷ [])
    ∷ verdict (words 2) (bytes_of 0 (entry 9 0 main buy mp online 0 100)) Accept ((desk_at 3 0, 11 ∷ []) ∷ rows 0 (with_order (entry 9 0 main buy mp online 0 100)) ∷ [])
    -- a rejected order leaves the rows
    ∷ verdict (words 2) (bytes_of 0 (entry 9 0 main buy limit online 4900 0)) RejectV ((desk_at 3 0 + 2, 31 ∷ []) ∷ [])
    ∷ verdict (words 2) (bytes_of 0 (entry 9 1 foreign sell limit online 4900 100)) RejectW ((desk_at 3 0 + 2, 31 ∷ []) ∷ [])
    -- "A cancel marks an open limit row cancelled at the present clock, and removes an ATO or ATC row."
    ∷ done (words 2) (cancel 0 6) ((row_at 3 0 5, cancelled 100_000 (sold 6)) ∷ [])
    ∷ done (words 2) (cancel 0 1) ((row_at 3 0 0, cancelled 100_000 (bought 1)) ∷ [])
    ∷ done (words 2) (cancel 1 2) ((row_at 3 1 1, cancelled 100_000 (sold 2)) ∷ [])
    ∷ done (words 1) (cancel 0 2)
    (rows 0 (opened (bought 1) ∷ (drop 2 mixed ++ free_rows 1)) ∷ [])
    ∷ done (words 4) (cancel 1 1) (rows 1 (opened (sold 2) ∷ free_rows 1) ∷ [])
    -- "A match lowers the volume; at 0 the row is removed."
    ∷ done (words 2) (match 0 6 199) ((row_at 3 0 5, opened (entry 6 1 main sell limit online 8100 1)) ∷ [])
    ∷ done (words 2) (match 0 1 1) ((row_at 3 0 0, opened (entry 1 1 foreign buy limit online 4900 99)) ∷ [])
    ∷ done (words 2) (match 0 4 1) ((row_at 3 0 3, opened (entry 4 0 foreign buy atc online 0 399)) ∷ [])
    ∷ done (words 2) (match 0 2 1) ((row_at 3 0 1, opened (entry 2 1 main sell ato online 0 299)) ∷ [])
    ∷ done (words 2) (match 1 2 200) (rows 1 (opened (at_close 1) ∷ free_rows 1) ∷ [])
    ∷ done (words 2) (match 0 1 100)
    (rows 0 (drop 1 mixed ++ free_rows 1) ∷ [])
    -- "each stays at 4,294,967,295 once there"
    ∷ verdict (counters 4_294_967_294 1 2) (bytes_of 0 (limits 5000 100)) Accept ((desk_at 1 0, 4_294_967_295 ∷ []) ∷ (row_at 1 0 0, opened (limits 5000 100)) ∷ [])
    ∷ verdict (counters 4_294_967_295 1 2) (bytes_of 0 (limits 5000 100)) Accept ((row_at 1 0 0, opened (limits 5000 100)) ∷ [])
    ∷ verdict (counters 0 4_294_967_294 2) (bytes_of 0 (limits 1000 100)) Warn30
    ((desk_at 1 0 + 1, 4_294_967_295 ∷ []) ∷ (row_at 1 0 0, opened (limits 1000 100)) ∷ [])
    ∷ verdict (counters 0 4_294_967_295 2) (bytes_of 0 (limits 1000 100)) Warn30 ((row_at 1 0 0, opened (limits 1000 100)) ∷ [])
    ∷ verdict (counters 0 1 4_294_967_294) (bytes_of 0 (limits 5000 0)) RejectV ((desk_at 1 0 + 2, 4_294_967_295 ∷ []) ∷ [])
    ∷ verdict (counters 0 1 4_294_967_295) (bytes_of 0 (limits 5000 0)) RejectV []
    ∷ []

pub all_right : map found corners ≡ map right corners
unfolding result_on
all_right = refl

-- "Compared are .. the market's words and every word of k's desk."
pub market-right : market_words (words 2) ≡ 2 ∷ 3 ∷ 100_000 ∷ 2 ∷ joined (first ∷ second ∷ third ∷ [])
unfolding result_on market_words
market-right = refl

pub desk-right : customer_words (words 2) 1 ≡ desk few
unfolding result_on customer_words
desk-right = refl

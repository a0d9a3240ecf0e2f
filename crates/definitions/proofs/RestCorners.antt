-- Paper 02, 1, "What is left of a market order": the row of an MP order, and kind 8, at each edge, run on the definitions; one theorem over each
-- table. When such a row is sound is in SoundCorners.antt.
use mathlib.Core.List.{List, [], ◌∷◌, ◌++◌, map}
use mathlib.Core.Path.{◌≡◌, refl}
use Prim.Native.Nat.{ℕ, ◌+◌}
use lib.ListN.{replicate, take}
use Rattle.definitions.specs.declared.Verdict.{Verdict}
use Rattle.definitions.specs.declared.Verdict.TheVariants.{RejectS, RejectV, RejectW, Accept}
use Rattle.definitions.proofs.Bytes.{session, cancel, match, rest}
use Rattle.definitions.proofs.Run.{result_on, performed_on}
use Rattle.definitions.proofs.Corner.{Corner, Entry, found, performed, right, refused, done, verdict, judged, written, state, session_at, security_at, desk_at, row_at, security, plain, traded, untraded, desk, main, foreign, buy, sell, limit, ato, atc, mp, office, online, dma, entry, bytes_of, opened, cancelled, bought, open_rows}

-- MP orders, and what is left of them at a price; security, board and side are other than those of `bought`
abbrev pub at_market : ℕ → Entry
at_market number = entry number 1 foreign sell mp dma 0 300

abbrev pub left_at : ℕ → ℕ → Entry
left_at number price = entry number 1 foreign sell limit dma price 300

-- two securities with best prices on both boards
abbrev pub quoted : List ℕ
quoted = security plain (traded 0 5000 4975 5025) (traded 0 6000 5975 6025)

-- rows of all types; number 2 is a row of both customers
abbrev pub mixed : List ℕ → List (List ℕ)
mixed second =
    opened (bought 1)
    ∷ second
    ∷ cancelled 40_000 (bought 3)
    ∷ opened (entry 4 0 main buy ato online 0 100)
    ∷ opened (entry 5 0 main buy atc online 0 100)
    ∷ []

abbrev pub few : List (List ℕ)
few = opened (bought 1) ∷ opened (bought 2) ∷ opened (at_market 6) ∷ []

abbrev pub words_with : ℕ → List ℕ → List ℕ
words_with now second = state 100_000 now (quoted ∷ quoted ∷ []) (desk (mixed second) ∷ desk few ∷ [])

-- number 2 is an MP row, and what kind 8 made of it
abbrev pub words : ℕ → List ℕ
words now = words_with now (opened (at_market 2))

abbrev pub limited : ℕ → List ℕ
limited now = words_with now (opened (left_at 2 5975))

-- so many open limits and another row, of the lone customer
abbrev pub rows_and : ℕ → List (List ℕ) → List ℕ
rows_and n more = state 100_000 2 (quoted ∷ quoted ∷ []) (desk (open_rows n ++ more) ∷ [])

-- the lone customer has an MP row of 300 in security 0, or what is left of it at 50.00, in a session with a projected price
abbrev pub against : ℕ → Entry → Entry → Verdict → Corner
against now own e v = judged 100_000 now (security plain (traded 5000 5000 4975 5025) untraded ∷ []) (opened own ∷ []) e v

abbrev pub own_at_market : ℕ → Entry
own_at_market side = entry 1 0 main side mp office 0 300

abbrev pub own_left : ℕ → Entry
own_left side = entry 1 0 main side limit office 5000 300

abbrev pub enters : ℕ → ℕ → ℕ → Entry
enters side type price = entry 2 0 main side type online price 100

abbrev pub corners : List Corner
corners =
    -- "An accepted MP order now takes a row as others do, of type 3": with 31 rows the last place; rows cancelled more than 60,000 ms ago go first
    verdict (rows_and 31 []) (bytes_of 0 (at_market 33)) Accept ((desk_at 2 0, 11 ∷ []) ∷ (row_at 2 0 31, opened (at_market 33)) ∷ [])
    ∷ verdict (rows_and 30 (cancelled 39_999 (bought 40) ∷ opened (bought 41) ∷ [])) (bytes_of 0 (at_market 33)) Accept
    ((desk_at 2 0, 11 ∷ []) ∷ (row_at 2 0 30, opened (bought 41) ++ opened (at_market 33)) ∷ [])
    -- "and refusal 12 covers it": not where it is rejected
    ∷ refused (rows_and 31 (opened (bought 40) ∷ [])) (bytes_of 0 (at_market 33)) 12
    ∷ refused (rows_and 31 (opened (at_market 40) ∷ [])) (bytes_of 0 (at_market 33)) 12
    ∷ refused (rows_and 31 (cancelled 40_000 (bought 40) ∷ [])) (bytes_of 0 (at_market 33)) 12
    ∷ verdict (rows_and 31 (opened (bought 40) ∷ [])) (bytes_of 0 (entry 33 1 foreign sell mp dma 0 50)) RejectV ((desk_at 2 0 + 2, 31 ∷ []) ∷ [])
    ∷ verdict (rows_and 31 (opened (entry 40 0 main sell limit dma 5025 100) ∷ [])) (bytes_of 0 (entry 33 0 main buy mp online 0 100)) RejectW
    ((desk_at 2 0 + 2, 31 ∷ []) ∷ [])
    ∷ verdict (words 1) (bytes_of 0 (at_market 33)) RejectS ((desk_at 2 0 + 2, 31 ∷ []) ∷ [])
    -- its number is taken
    ∷ refused (words 2) (bytes_of 0 (bought 2)) 9
    ∷ refused (words 2) (bytes_of 0 (at_market 2)) 9
    -- "It makes an open type 3 row a limit at that ladder price", in every session, in its place, and of its customer alone
    ∷ done (words 2) (rest 0 2 5975) ((row_at 2 0 1, opened (left_at 2 5975)) ∷ [])
    ∷ done (words 2) (rest 0 2 1) ((row_at 2 0 1, opened (left_at 2 1)) ∷ [])
    ∷ done (words 2) (rest 0 2 10_000_000) ((row_at 2 0 1, opened (left_at 2 10_000_000)) ∷ [])
    ∷ done (words 0) (rest 0 2 5975) ((row_at 2 0 1, opened (left_at 2 5975)) ∷ [])
    ∷ done (words 1) (rest 0 2 5975) ((row_at 2 0 1, opened (left_at 2 5975)) ∷ [])
    ∷ done (words 3) (rest 0 2 5975) ((row_at 2 0 1, opened (left_at 2 5975)) ∷ [])
    ∷ done (words 4) (rest 0 2 5975) ((row_at 2 0 1, opened (left_at 2 5975)) ∷ [])
    ∷ done (words 2) (rest 1 6 5975) ((row_at 2 1 2, opened (left_at 6 5975)) ∷ [])
    ∷ done (rows_and 31 (opened (at_market 40) ∷ [])) (rest 0 40 5975) ((row_at 2 0 31, opened (left_at 40 5975)) ∷ [])
    ∷ done (rows_and 1 (opened (at_market 40) ∷ opened (at_market 41) ∷ [])) (rest 0 41 5975) ((row_at 2 0 2, opened (left_at 41 5975)) ∷ [])
    -- it is no order: value, lot and own orders are not asked, and no row goes whose minute is over
    ∷ done (rows_and 1 (opened (entry 40 0 main sell mp online 0 20_000_000) ∷ [])) (rest 0 40 10_000_000)
    ((row_at 2 0 1, opened (entry 40 0 main sell limit online 10_000_000 20_000_000)) ∷ [])
    ∷ done (rows_and 1 (opened (entry 40 0 main sell mp online 0 1) ∷ [])) (rest 0 40 5000) ((row_at 2 0 1, opened (entry 40 0 main sell limit online 5000 1)) ∷ [])
    ∷ done (rows_and 1 (cancelled 39_999 (bought 39) ∷ opened (at_market 40) ∷ [])) (rest 0 40 5975) ((row_at 2 0 2, opened (left_at 40 5975)) ∷ [])
    -- "without such a row it gets refusal 10": a limit, a cancelled row, ATO, ATC, another's row, none, and for the second time
    ∷ refused (words 2) (rest 0 1 5975) 10
    ∷ refused (words 2) (rest 0 3 5975) 10
    ∷ refused (words 2) (rest 0 4 5975) 10
    ∷ refused (words 2) (rest 0 5 5975) 10
    ∷ refused (words 2) (rest 0 6 5975) 10
    ∷ refused (words 2) (rest 1 2 5975) 10
    ∷ refused (words 2) (rest 0 7 5975) 10
    ∷ refused (limited 2) (rest 0 2 5975) 10
    -- the table's order: 2, 4, 5, "a price off the ladder 6", 8 of its desk alone, 10
    ∷ refused (words 2) (take 10 (rest 0 2 5975)) 2
    ∷ refused (words 2) (rest 0 2 5975 ++ (0 ∷ [])) 2
    ∷ refused (words 2) (rest 2 0 0) 4
    ∷ refused (words 2) (rest 256 2 5975) 4
    ∷ refused (words 2) (rest 0 0 0) 5
    ∷ refused (words 2) (rest 0 2 0) 6
    ∷ refused (words 2) (rest 0 2 5976) 6
    ∷ refused (words 2) (rest 0 2 10_000_200) 6
    ∷ refused (words 2) (rest 0 7 5976) 6
    ∷ refused (written (words 2) (row_at 2 0 0) (3 ∷ [])) (rest 0 2 5976) 6
    ∷ refused (written (words 2) (row_at 2 0 0) (3 ∷ [])) (rest 0 2 5975) 8
    ∷ refused (written (words 2) (row_at 2 0 0) (3 ∷ [])) (rest 0 7 5975) 8
    ∷ done (written (words 2) (row_at 2 1 0) (3 ∷ [])) (rest 0 2 5975) ((row_at 2 0 1, opened (left_at 2 5975)) ∷ [])
    ∷ done (written (words 2) (security_at 0) (10 ∷ [])) (rest 0 2 5975) ((row_at 2 0 1, opened (left_at 2 5975)) ∷ [])
    ∷ done (written (words 2) (security_at 1) (10 ∷ [])) (rest 0 2 5975) ((row_at 2 0 1, opened (left_at 2 5975)) ∷ [])
    -- "Cancel .. treat[s] type 3 as ATO"; once it is a limit, as a limit
    ∷ done (rows_and 1 (opened (at_market 40) ∷ opened (bought 41) ∷ [])) (cancel 0 40) ((row_at 2 0 1, opened (bought 41) ++ replicate 9 0) ∷ [])
    ∷ done (limited 2) (cancel 0 2) ((row_at 2 0 1, cancelled 100_000 (left_at 2 5975)) ∷ [])
    -- "and session change": likewise
    ∷ done (rows_and 1 (opened (at_market 40) ∷ opened (bought 41) ∷ opened (at_market 42) ∷ [])) (session 3)
    ((session_at, 3 ∷ []) ∷ (row_at 2 0 1, opened (bought 41) ++ replicate 18 0) ∷ [])
    ∷ done (rows_and 1 (opened (left_at 40 5975) ∷ opened (bought 41) ∷ opened (at_market 42) ∷ [])) (session 3)
    ((session_at, 3 ∷ []) ∷ (row_at 2 0 3, replicate 9 0) ∷ [])
    ∷ done (words 2) (session 2) []
    -- a match report lowers it like any other
    ∷ done (words 2) (match 0 2 299) ((row_at 2 0 1, opened (entry 2 1 foreign sell mp dma 0 1)) ∷ [])
    ∷ done (limited 2) (match 0 2 299) ((row_at 2 0 1, opened (entry 2 1 foreign sell limit dma 5975 1)) ∷ [])
    ∷ done (rows_and 1 (opened (at_market 40) ∷ opened (bought 41) ∷ [])) (match 0 40 300) ((row_at 2 0 1, opened (bought 41) ++ replicate 9 0) ∷ [])
    ∷ refused (words 2) (match 0 2 301) 11
    ∷ []

pub all_right : map found corners ≡ map right corners
unfolding result_on
all_right = refl

-- "W compares with such a row only once it is a limit": no order meets a row of type 3
abbrev pub meetings : List Corner
meetings =
    against 2 (own_at_market sell) (enters buy limit 10_000_000) Accept
    ∷ against 2 (own_at_market sell) (enters buy mp 0) Accept
    ∷ against 1 (own_at_market sell) (enters buy ato 0) Accept
    ∷ against 4 (own_at_market sell) (enters buy atc 0) Accept
    ∷ against 1 (own_at_market sell) (enters buy limit 5000) Accept
    ∷ against 2 (own_at_market buy) (enters sell limit 1) Accept
    ∷ against 2 (own_at_market buy) (enters sell mp 0) Accept
    ∷ against 1 (own_at_market buy) (enters sell ato 0) Accept
    ∷ against 4 (own_at_market buy) (enters sell atc 0) Accept
    ∷ against 4 (own_at_market buy) (enters sell limit 5000) Accept
    ∷ against 2 (own_left sell) (enters buy limit 5000) RejectW
    ∷ against 2 (own_left sell) (enters buy limit 4975) Accept
    ∷ against 2 (own_left buy) (enters sell limit 5000) RejectW
    ∷ against 2 (own_left buy) (enters sell limit 5025) Accept
    ∷ against 1 (own_left sell) (enters buy ato 0) RejectW
    ∷ against 4 (own_left buy) (enters sell atc 0) RejectW
    ∷ []

pub meetings-right : map performed meetings ≡ map right meetings
unfolding performed_on
meetings-right = refl

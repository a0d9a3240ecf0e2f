-- Paper 01, condition 8: which records a kind reads (kind 8 is in RestCorners.antt), and each clause of "A record is sound if: ..", at each edge, run on the definitions; one theorem over each
-- table.
use mathlib.Core.List.{List, [], ◌∷◌, ◌++◌, map}
use mathlib.Core.Path.{◌≡◌, refl}
use Prim.Native.Nat.{ℕ, ◌+◌}
use lib.ListN.{replicate}
use Rattle.definitions.specs.declared.Verdict.TheVariants.{Accept}
use Rattle.definitions.proofs.Bytes.{clock, session, setup, prices, order, cancel, match, figures}
use Rattle.definitions.proofs.Run.{result_on}
use Rattle.definitions.proofs.Corner.{Corner, found, right, refused, done, verdict, written, state, clock_at, security_at, desk_at, row_at, security, terms, traded, plain, untraded, desk, main, foreign, buy, sell, limit, ato, atc, mp, online, opened, cancelled, follows, bought, buys, two_customers}

-- two customers, each with an open row number 1, and three securities; and a security, or the row of a customer, that is not sound
abbrev pub pair : List ℕ
pair =
    state 5_000 2 (replicate 3 (security plain untraded untraded))
    (desk (opened (bought 1) ∷ []) ∷ desk (opened (bought 1) ∷ []) ∷ [])

abbrev pub bad_security : ℕ → List ℕ
bad_security s = written pair (security_at s) (10 ∷ [])

abbrev pub bad_desk : ℕ → List ℕ
bad_desk k = written pair (row_at 3 k 0) (3 ∷ [])

-- with a prior close of 10.00, of which kind 9's figures may take something
abbrev pub closed : List ℕ → List ℕ
closed w = written w (security_at 0 + 3) (1000 ∷ [])

abbrev pub readers : List Corner
readers =
    -- a session event reads every record, also where the session stays
    refused (bad_security 0) (session 2) 8
    ∷ refused (bad_security 1) (session 2) 8
    ∷ refused (bad_security 2) (session 2) 8
    ∷ refused (bad_desk 0) (session 2) 8
    ∷ refused (bad_desk 1) (session 1) 8
    ∷ refused (written two_customers (row_at 1 1 0) (3 ∷ [])) (session 2) 8
    -- setup, prices and figures read the security, and an order the security and its customer's desk
    ∷ refused (bad_security 0) (setup 0 100 0 0 0 0) 8
    ∷ refused (bad_security 1) (prices 1 main 0 0 0 0) 8
    ∷ refused (closed (bad_security 0)) (figures 0 0 0 1 0) 8
    ∷ refused (bad_security 0) (buys 0 2) 8
    ∷ refused (bad_security 0) (buys 1 2) 8
    ∷ refused (bad_desk 0) (buys 0 2) 8
    ∷ refused (bad_desk 1) (buys 1 2) 8
    -- cancel and match read their customer's desk
    ∷ refused (bad_desk 0) (cancel 0 1) 8
    ∷ refused (bad_desk 1) (match 1 1 50) 8
    -- no kind reads another record, and a clock event reads none
    ∷ done (bad_security 0) (clock 6_000) ((clock_at, 6_000 ∷ []) ∷ [])
    ∷ done (bad_desk 0) (clock 6_000) ((clock_at, 6_000 ∷ []) ∷ [])
    ∷ done (bad_security 0) (setup 1 50 0 0 0 0) ((security_at 1, 50 ∷ []) ∷ [])
    ∷ done (bad_security 1) (prices 0 main 5000 0 0 0) ((security_at 0, 100 ∷ 0 ∷ 0 ∷ 0 ∷ 0 ∷ 5000 ∷ []) ∷ [])
    ∷ done (bad_desk 0) (setup 0 50 0 0 0 0) ((security_at 0, 50 ∷ []) ∷ [])
    ∷ verdict (bad_security 1) (buys 0 2) Accept (follows (desk_at 3 0) (row_at 3 0 1) (bought 2) Accept)
    ∷ verdict (bad_desk 1) (buys 0 2) Accept (follows (desk_at 3 0) (row_at 3 0 1) (bought 2) Accept)
    ∷ verdict (bad_desk 0) (buys 1 2) Accept (follows (desk_at 3 1) (row_at 3 1 1) (bought 2) Accept)
    ∷ done (bad_security 0) (cancel 0 1) ((row_at 3 0 0, cancelled 5_000 (bought 1)) ∷ [])
    ∷ done (bad_desk 0) (cancel 1 1) ((row_at 3 1 0, cancelled 5_000 (bought 1)) ∷ [])
    ∷ done (bad_desk 1) (match 0 1 100) ((row_at 3 0 0, replicate 9 0) ∷ [])
    ∷ done (bad_desk 0) (prices 0 main 5000 0 0 0) ((security_at 0 + 5, 5000 ∷ []) ∷ [])
    ∷ done (bad_security 0) (match 0 1 100) ((row_at 3 0 0, replicate 9 0) ∷ [])
    ∷ done (closed (bad_desk 0)) (figures 0 0 0 1 0) ((security_at 0 + 15, 1 ∷ []) ∷ [])
    ∷ done (closed (bad_security 1)) (figures 0 0 0 1 0) ((security_at 0 + 15, 1 ∷ []) ∷ [])
    -- 4 to 7 come before it, and it before 9 and 10
    ∷ refused (bad_security 0) (setup 3 100 0 0 0 0) 4
    ∷ refused (bad_desk 0) (cancel 0 0) 5
    ∷ refused (bad_security 0) (order 0 2 0 main buy limit online 5001 100) 6
    ∷ refused (bad_security 0) (buys 0 1) 8
    ∷ refused (bad_desk 0) (cancel 0 2) 8
    ∷ []

pub readers-right : map found readers ≡ map right readers
unfolding result_on
readers-right = refl

-- the present session once more over one customer and one security: what is sound stays as it is, and what is not is refused with 8
abbrev pub over : List ℕ → List (List ℕ) → List ℕ
over terms rows = state 5_000 2 (terms ∷ []) (desk rows ∷ [])

abbrev pub sound_security : List ℕ → List ℕ → List ℕ → Corner
sound_security terms main foreign = done (over (security terms main foreign) []) (session 2) []

abbrev pub bad_security_of : List ℕ → List ℕ → List ℕ → Corner
bad_security_of terms main foreign = refused (over (security terms main foreign) []) (session 2) 8

abbrev pub sound_rows : List (List ℕ) → Corner
sound_rows rows = done (over (security plain untraded untraded) rows) (session 2) []

abbrev pub bad_rows : List (List ℕ) → Corner
bad_rows rows = refused (over (security plain untraded untraded) rows) (session 2) 8

-- an open row, and one of another mark or cancel time
abbrev pub row : ℕ → ℕ → ℕ → ℕ → ℕ → ℕ → ℕ → ℕ → ℕ → List ℕ
row mark number security board side type price volume time =
    mark ∷ number ∷ security ∷ board ∷ side ∷ type ∷ price ∷ volume ∷ time ∷ []

abbrev pub records : List Corner
records =
    -- "lot and flags have listed values"
    sound_security (terms 1 0 0 0 0) untraded untraded
    ∷ sound_security (terms 50 0 0 0 0) untraded untraded
    ∷ sound_security (terms 100 1 1 0 0) untraded untraded
    ∷ bad_security_of (terms 0 0 0 0 0) untraded untraded
    ∷ bad_security_of (terms 2 0 0 0 0) untraded untraded
    ∷ bad_security_of (terms 49 0 0 0 0) untraded untraded
    ∷ bad_security_of (terms 51 0 0 0 0) untraded untraded
    ∷ bad_security_of (terms 99 0 0 0 0) untraded untraded
    ∷ bad_security_of (terms 101 0 0 0 0) untraded untraded
    ∷ bad_security_of (terms 100 2 0 0 0) untraded untraded
    ∷ bad_security_of (terms 100 0 2 0 0) untraded untraded
    -- "prices are absent or on the ladder (IPO: 0 to 10,000,000)"
    ∷ sound_security (terms 100 0 0 0 10_000_000) (traded 1 200 10_000_000 6575) (traded 10_000_000 6575 1 200)
    ∷ sound_security (terms 100 0 0 0 201) untraded untraded
    ∷ bad_security_of (terms 100 0 0 0 10_000_001) untraded untraded
    ∷ bad_security_of plain (traded 201 0 0 0) untraded
    ∷ bad_security_of plain (traded 0 201 0 0) untraded
    ∷ bad_security_of plain (traded 0 0 201 0) untraded
    ∷ bad_security_of plain (traded 0 0 0 201) untraded
    ∷ bad_security_of plain untraded (traded 201 0 0 0)
    ∷ bad_security_of plain untraded (traded 0 201 0 0)
    ∷ bad_security_of plain untraded (traded 0 0 201 0)
    ∷ bad_security_of plain untraded (traded 0 0 0 201)
    -- paper 02, 2: "soundness now take[s] any prior close up to 10,000,000"
    ∷ sound_security (terms 100 0 0 1 0) untraded untraded
    ∷ sound_security (terms 100 0 0 201 0) untraded untraded
    ∷ sound_security (terms 100 0 0 6560 0) untraded untraded
    ∷ sound_security (terms 100 0 0 10_000_000 0) untraded untraded
    ∷ bad_security_of (terms 100 0 0 10_000_001 0) untraded untraded
    -- "marked rows stand first and free rows are all zero"
    ∷ sound_rows (replicate 32 (replicate 9 0))
    ∷ bad_rows (replicate 9 0 ∷ opened (bought 1) ∷ [])
    ∷ bad_rows (replicate 9 0 ∷ cancelled 0 (bought 1) ∷ [])
    ∷ bad_rows (opened (bought 1) ∷ replicate 9 0 ∷ replicate 9 0 ∷ opened (bought 2) ∷ [])
    ∷ bad_rows (row 0 1 0 0 0 0 0 0 0 ∷ [])
    ∷ bad_rows (row 0 0 1 0 0 0 0 0 0 ∷ [])
    ∷ bad_rows (row 0 0 0 1 0 0 0 0 0 ∷ [])
    ∷ bad_rows (row 0 0 0 0 1 0 0 0 0 ∷ [])
    ∷ bad_rows (row 0 0 0 0 0 1 0 0 0 ∷ [])
    ∷ bad_rows (row 0 0 0 0 0 0 1 0 0 ∷ [])
    ∷ bad_rows (row 0 0 0 0 0 0 0 1 0 ∷ [])
    ∷ bad_rows (row 0 0 0 0 0 0 0 0 1 ∷ [])
    ∷ bad_rows (row 0 1 0 main buy limit 5000 100 0 ∷ [])
    -- the last of 32 rows, and rows after a marked one, are asked too
    ∷ bad_rows (replicate 31 (replicate 9 0) ++ (row 0 0 0 0 0 0 0 0 1 ∷ []))
    ∷ bad_rows (opened (bought 1) ∷ row 3 2 0 main buy limit 5000 100 0 ∷ [])
    -- mark (0 free, 1 open, 2 cancelled); "the cancel time is 0 if open and at most the clock if cancelled; a cancelled row is a limit"
    ∷ sound_rows (row 1 1 0 main buy limit 5000 100 0 ∷ [])
    ∷ sound_rows (row 2 1 0 main buy limit 5000 100 0 ∷ [])
    ∷ sound_rows (row 2 1 0 main buy limit 5000 100 5_000 ∷ [])
    ∷ bad_rows (row 2 1 0 main buy limit 5000 100 5_001 ∷ [])
    ∷ bad_rows (row 1 1 0 main buy limit 5000 100 1 ∷ [])
    ∷ bad_rows (row 1 1 0 main buy limit 5000 100 5_000 ∷ [])
    ∷ bad_rows (row 3 1 0 main buy limit 5000 100 0 ∷ [])
    ∷ bad_rows (row 2 1 0 main buy ato 0 100 0 ∷ [])
    ∷ bad_rows (row 2 1 0 main buy atc 0 100 5_000 ∷ [])
    ∷ bad_rows (row 2 1 0 main buy mp 0 100 5_000 ∷ [])
    -- "a number above 0 that no other marked row of its desk has"
    ∷ bad_rows (row 1 0 0 main buy limit 5000 100 0 ∷ [])
    ∷ sound_rows (opened (bought 4_294_967_295) ∷ opened (bought 1) ∷ cancelled 0 (bought 2) ∷ [])
    ∷ bad_rows (opened (bought 1) ∷ opened (bought 1) ∷ [])
    ∷ bad_rows (opened (bought 1) ∷ opened (bought 2) ∷ cancelled 0 (bought 1) ∷ [])
    ∷ bad_rows (opened (bought 2) ∷ cancelled 0 (bought 1) ∷ cancelled 0 (bought 1) ∷ [])
    -- "a security below S, listed codes"
    ∷ bad_rows (row 1 1 1 main buy limit 5000 100 0 ∷ [])
    ∷ sound_rows (row 1 1 0 foreign sell limit 5000 100 0 ∷ [])
    ∷ bad_rows (row 1 1 0 2 buy limit 5000 100 0 ∷ [])
    ∷ bad_rows (row 1 1 0 main 2 limit 5000 100 0 ∷ [])
    ∷ bad_rows (row 1 1 0 main buy 4 0 100 0 ∷ [])
    -- "a ladder price for a limit and 0 for ATO and ATC"; paper 02, 1: "of type 3, sound only with price 0"
    ∷ sound_rows (row 1 1 0 main buy mp 0 100 0 ∷ row 1 2 0 foreign sell mp 0 1 0 ∷ [])
    ∷ bad_rows (row 1 1 0 main buy mp 5000 100 0 ∷ [])
    ∷ bad_rows (row 1 1 0 main buy mp 1 100 0 ∷ [])
    ∷ bad_rows (row 1 1 0 main buy mp 0 100 1 ∷ [])
    ∷ sound_rows (row 1 1 0 main buy limit 10_000_000 100 0 ∷ row 1 2 0 main buy limit 1 100 0 ∷ [])
    ∷ sound_rows (row 1 1 0 main buy ato 0 100 0 ∷ row 1 2 0 main sell atc 0 100 0 ∷ [])
    ∷ bad_rows (row 1 1 0 main buy limit 0 100 0 ∷ [])
    ∷ bad_rows (row 1 1 0 main buy limit 201 100 0 ∷ [])
    ∷ bad_rows (row 1 1 0 main buy limit 10_000_200 100 0 ∷ [])
    ∷ bad_rows (row 1 1 0 main buy ato 5000 100 0 ∷ [])
    ∷ bad_rows (row 1 1 0 main buy atc 5000 100 0 ∷ [])
    -- "volume 1 to 20,000,000"
    ∷ sound_rows (row 1 1 0 main buy limit 1 1 0 ∷ row 1 2 0 main buy limit 1 20_000_000 0 ∷ [])
    ∷ bad_rows (row 1 1 0 main buy limit 1 0 0 ∷ [])
    ∷ bad_rows (row 1 1 0 main buy limit 1 20_000_001 0 ∷ [])
    ∷ bad_rows (row 2 1 0 main buy limit 1 0 0 ∷ [])
    ∷ bad_rows (row 2 1 0 main buy limit 1 20_000_001 0 ∷ [])
    ∷ bad_rows (row 2 1 1 main buy limit 1 100 0 ∷ [])
    ∷ bad_rows (row 2 0 0 main buy limit 1 100 0 ∷ [])
    ∷ bad_rows (row 2 1 0 2 buy limit 1 100 0 ∷ [])
    ∷ bad_rows (row 2 1 0 main 2 limit 1 100 0 ∷ [])
    ∷ bad_rows (row 2 1 0 main buy limit 201 100 0 ∷ [])
    ∷ []

pub records-right : map found records ≡ map right records
unfolding result_on
records-right = refl

-- Paper 01, "Events", and paper 02: the fields of each kind in its bytes, to whom an event belongs, and where events end in lent bytes. One theorem over each table.
use mathlib.Core.Bool.{Bool, true, false}
use mathlib.Core.List.{List, [], ◌∷◌, ◌++◌, map}
use mathlib.Core.Path.{◌≡◌, refl}
use Prim.Native.Nat.{ℕ, zero, suc}
use lib.ListN.{take}
use Rattle.definitions.specs.declared.Event.{Event}
use Rattle.definitions.specs.declared.Event.TheVariants as event
use Rattle.definitions.specs.Events.{event_in}
use Rattle.definitions.specs.Changes.{Owner, market, customer, nobody, owner_of}
use Rattle.definitions.specs.Lone.{is_fed}
use Rattle.definitions.specs.Walk.{taken, split}
use Rattle.definitions.proofs.Bytes.{clock, session, setup, prices, order, cancel, match, rest, figures}
use Rattle.definitions.proofs.Run.{answers_of}
use Rattle.definitions.proofs.Corner.{joined}

-- bytes 1, 2, 3 and so on, so that each field has a number of its own: two from 1 on are 1 + 256 × 2
abbrev pub ascending : ℕ → List ℕ
ascending zero = []
ascending (suc n) = ascending n ++ (suc n ∷ [])

abbrev pub read : List (List ℕ × Event)
read =
    (1 ∷ ascending 4, event.Clock 67_305_985)
    ∷ (2 ∷ ascending 1, event.Session 1)
    ∷ (
      3 ∷ ascending 13,
      event.Setup
          (record {
            security = 513;
            terms = record { lot = 3; free = 4; first_day = 5 };
            prior = record { close = 151_521_030; ipo = 218_893_066 };
          }),
    )
    ∷ (
      4 ∷ ascending 19,
      event.Prices
          (record {
            security = 513;
            board = 3;
            prices = record { projected = 117_835_012; last_sale = 185_207_048; bid = 252_579_084; offer = 319_951_120 };
          }),
    )
    ∷ (
      5 ∷ ascending 20,
      event.Order
          513
          (record {
            number = 100_992_003;
            security = 2_055;
            board = 9;
            side = 10;
            order_type = 11;
            channel = 12;
            price = 269_422_093;
            volume = 336_794_129;
          }),
    )
    ∷ (6 ∷ ascending 6, event.Cancel 513 (record { number = 100_992_003 }))
    ∷ (7 ∷ ascending 10, event.Match 513 (record { number = 100_992_003; volume = 168_364_039 }))
    ∷ (8 ∷ ascending 10, event.Rest 513 (record { number = 100_992_003; price = 168_364_039 }))
    ∷ (9 ∷ ascending 14, event.Figures (record { security = 513; figures = record { dividend = 100_992_003; subscription = 168_364_039; old_shares = 3_083; new_shares = 3_597 } }))
    ∷ []

pub read_right : map (λ (c : List ℕ × Event). event_in c.0) read ≡ map (λ (c : List ℕ × Event). c.1) read
unfolding answers_of
read_right = refl

-- of two customers
abbrev pub belongs : List (List ℕ × Owner)
belongs =
    (clock 0, market)
    ∷ (session 0, market)
    ∷ (setup 0 100 0 0 0 0, market)
    ∷ (prices 0 0 0 0 0 0, market)
    ∷ (order 0 1 0 0 0 0 1 5000 100, customer 0)
    ∷ (order 1 1 0 0 0 0 1 5000 100, customer 1)
    ∷ (order 2 1 0 0 0 0 1 5000 100, nobody)
    ∷ (order 256 1 0 0 0 0 1 5000 100, nobody)
    ∷ (cancel 1 1, customer 1)
    ∷ (cancel 2 1, nobody)
    ∷ (match 1 1 100, customer 1)
    ∷ (match 2 1 100, nobody)
    ∷ (rest 0 1 5000, customer 0)
    ∷ (rest 1 1 5000, customer 1)
    ∷ (rest 2 1 5000, nobody)
    ∷ (rest 256 1 5000, nobody)
    ∷ (figures 0 0 1000 2 3, market)
    ∷ (figures 2 0 1000 2 3, market)
    -- turned back all the same, but not by condition 2, 3 or its customer
    ∷ (session 5, market)
    ∷ (setup 1_024 10 0 0 0 0, market)
    ∷ (order 1 0 1_024 2 2 4 3 0 0, customer 1)
    ∷ (cancel 0 0, customer 0)
    ∷ (rest 1 0 0, customer 1)
    -- conditions 2 and 3
    ∷ ([], nobody)
    ∷ (1 ∷ [], nobody)
    ∷ (2 ∷ 0 ∷ 0 ∷ [], nobody)
    ∷ (take 20 (order 0 1 0 0 0 0 1 5000 100), nobody)
    ∷ (0 ∷ [], nobody)
    ∷ (8 ∷ 0 ∷ 0 ∷ [], nobody)
    ∷ (take 10 (rest 0 1 5000), nobody)
    ∷ (9 ∷ 0 ∷ 0 ∷ [], nobody)
    ∷ (10 ∷ 0 ∷ 0 ∷ [], nobody)
    ∷ []

pub belongs-right : map (λ (c : List ℕ × Owner). owner_of 2 c.0) belongs ≡ map (λ (c : List ℕ × Owner). c.1) belongs
unfolding answers_of owner_of
belongs-right = refl

-- "fed .. the bytes of the history's market events and of k's own, turned-back ones too": the lone runs of customers 0 and 1 of two
abbrev pub fed : List (List ℕ × (Bool × Bool))
fed =
    (clock 0, (true, true))
    ∷ (session 5, (true, true))
    ∷ (setup 0 10 0 0 0 0, (true, true))
    ∷ (prices 9 0 0 0 0 0, (true, true))
    ∷ (order 0 1 0 0 0 0 1 5000 100, (true, false))
    ∷ (order 1 1 0 0 0 0 1 5000 100, (false, true))
    ∷ (order 2 1 0 0 0 0 1 5000 100, (false, false))
    ∷ (cancel 0 0, (true, false))
    ∷ (cancel 1 1, (false, true))
    ∷ (match 0 1 0, (true, false))
    ∷ (match 2 1 0, (false, false))
    ∷ (rest 0 0 0, (true, false))
    ∷ (rest 1 1 5000, (false, true))
    ∷ (rest 2 1 5000, (false, false))
    ∷ (figures 9 0 0 0 0, (true, true))
    ∷ ([], (false, false))
    ∷ (8 ∷ [], (false, false))
    ∷ (9 ∷ [], (false, false))
    ∷ (10 ∷ [], (false, false))
    ∷ []

pub fed-right : map (λ (c : List ℕ × (Bool × Bool)). (is_fed 2 0 c.0, is_fed 2 1 c.0)) fed ≡ map (λ (c : List ℕ × (Bool × Bool)). c.1) fed
unfolding answers_of owner_of is_fed
fed-right = refl

-- events one after another
abbrev pub kinds : List (List ℕ)
kinds =
    clock 2
    ∷ session 3
    ∷ setup 4 100 0 0 0 0
    ∷ prices 5 0 0 0 0 0
    ∷ order 6 1 0 0 0 0 1 5000 100
    ∷ cancel 7 1
    ∷ match 8 1 100
    ∷ rest 1 1 5000
    ∷ figures 9 0 1000 2 3
    ∷ []

-- bytes, at most so many events of them, and the events
abbrev pub walked : List ((ℕ × List ℕ) × List (List ℕ))
walked =
    ((9, joined kinds), kinds)
    ∷ ((100, joined kinds), kinds)
    ∷ ((2, joined kinds), clock 2 ∷ session 3 ∷ [])
    ∷ ((0, joined kinds), [])
    ∷ ((3, []), [])
    -- an unknown kind, or fewer bytes than the kind's length, takes what is left
    ∷ ((9, session 2 ++ (10 ∷ session 1)), session 2 ∷ (10 ∷ session 1) ∷ [])
    ∷ ((9, session 2 ++ (9 ∷ session 1)), session 2 ∷ (9 ∷ session 1) ∷ [])
    ∷ ((9, session 2 ++ (8 ∷ session 1)), session 2 ∷ (8 ∷ session 1) ∷ [])
    ∷ ((9, session 2 ++ (0 ∷ session 1)), session 2 ∷ (0 ∷ session 1) ∷ [])
    ∷ ((9, session 2 ++ (1 ∷ session 1)), session 2 ∷ (1 ∷ session 1) ∷ [])
    ∷ ((9, 2 ∷ []), (2 ∷ []) ∷ [])
    ∷ ((9, session 3 ++ session 1), session 3 ∷ session 1 ∷ [])
    ∷ []

pub walked-right : map (λ (c : (ℕ × List ℕ) × List (List ℕ)). split c.0.0 c.0.1) walked ≡ map (λ (c : (ℕ × List ℕ) × List (List ℕ)). c.1) walked
unfolding answers_of taken split
walked-right = refl

-- Books by name: those of source documents 002 and 003, and one for each step and each edge.
-- Assumes nothing.
use mathlib.Core.List.{List, [], ◌∷◌, ◌++◌}
use Prim.Native.Nat.{ℕ}
use lib.ListN.{replicate}
use Rattle.auction_definitions.specs.declared.AuctionOrder.{AuctionOrder}

abbrev pub buying : ℕ → ℕ → AuctionOrder
buying p v = record { side = 0; price = p; volume = v }

abbrev pub selling : ℕ → ℕ → AuctionOrder
selling p v = record { side = 1; price = p; volume = v }

-- source document 002, 3: A to G buy, H to M sell; G is ATO
abbrev pub book002 : List AuctionOrder
book002 =
    buying 0 1_000
    ∷ buying 10_300 1_000
    ∷ buying 10_300 1_300
    ∷ buying 10_200 500
    ∷ buying 10_200 1_100
    ∷ buying 10_100 800
    ∷ buying 10_100 300
    ∷ selling 10_200 2_500
    ∷ selling 10_200 1_000
    ∷ selling 10_300 500
    ∷ selling 10_400 1_000
    ∷ selling 10_500 1_500
    ∷ selling 10_600 500
    ∷ []

-- source document 003, table 1: A and B buy, C to E sell; E is ATO or ATC
abbrev pub book003 : List AuctionOrder
book003 = buying 4_900 900 ∷ buying 4_800 300 ∷ selling 4_900 400 ∷ selling 5_200 4_400 ∷ selling 0 600 ∷ []

-- equal volume at 10.00 and 10.20, and the difference is less at the higher
abbrev pub higher_by_difference : List AuctionOrder
higher_by_difference = buying 1_020 100 ∷ buying 1_000 200 ∷ selling 1_000 100 ∷ []

-- and at the lower
abbrev pub lower_by_difference : List AuctionOrder
lower_by_difference = buying 1_020 100 ∷ selling 1_000 100 ∷ selling 1_020 200 ∷ []

-- equal volume and difference at 10.00 and 10.20
abbrev pub even_book : List AuctionOrder
even_book = buying 1_020 100 ∷ selling 1_000 100 ∷ []

-- limits with ATO on both sides
abbrev pub ato_both_sides : List AuctionOrder
ato_both_sides = buying 0 300 ∷ selling 0 500 ∷ buying 900 100 ∷ []

-- a book with one order last
abbrev pub ending_in : AuctionOrder → List AuctionOrder
ending_in o = even_book ++ (o ∷ [])

-- ATO orders to buy, the largest that may be entered
abbrev pub many : ℕ → List AuctionOrder
many n = replicate n (buying 0 20_000_000)

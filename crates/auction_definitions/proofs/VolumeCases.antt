-- Request 6's answers and numbers on the books of request 5, and both sides of each edge, as entries of one table with one theorem.
-- Assumes nothing.
use mathlib.Core.List.{List, [], ◌∷◌, map}
use mathlib.Core.Path.{◌≡◌, refl}
use Prim.Native.Nat.{ℕ}
use lib.ListN.{drop, replicate, take}
use Rattle.auction_definitions.specs.declared.AuctionOrder.{AuctionOrder}
use Rattle.auction_definitions.specs.Answers.{AuctionAnswer, Price, None, Refused}
use Rattle.auction_definitions.specs.Auction.{auction, bad_order, beats, candidates, line_at, refusal, sum_of, traded, unbeaten}
use Rattle.auction_definitions.specs.Volumes.{auction_in_one, place_volume, volumes_after, volumes_in}
use Rattle.definitions.specs.Lists.{any, first_met, keep}
use Rattle.ladder.specs.Ladder.{legal, band_of_price, last_band}
use Rattle.auction_definitions.proofs.Books.{ato_both_sides, book002, book003, buying, ending_in, even_book, many, selling}

-- the orders, the reference, how many places the scratch list has, each holding 7 before, the answer, and what stands from a place on
pub record Case : Type 0 where
  pub orders : List AuctionOrder
  pub reference : ℕ
  pub places : ℕ
  pub right : AuctionAnswer
  pub from : ℕ
  pub held : List ℕ

-- reference 0
abbrev of : List AuctionOrder → ℕ → AuctionAnswer → ℕ → List ℕ → Case
of orders places right from held = record { orders = orders; reference = 0; places = places; right = right; from = from; held = held }

-- the answer, and sixteen numbers, or as many as there are left
abbrev run : Case → AuctionAnswer × List ℕ
run c = (auction_in_one c.orders c.reference (replicate c.places 7), take 16 (drop c.from (volumes_after c.orders (replicate c.places 7))))

abbrev sixteen : ℕ → List ℕ
sixteen n = replicate 16 n

pub cases : List Case
cases =
    of book002 1_024 (Price 10_200 3_500) 0 (0 ∷ 3_300 ∷ 3_300 ∷ 3_500 ∷ 3_500 ∷ 0 ∷ 0 ∷ 3_500 ∷ 3_500 ∷ 3_300 ∷ 1_000 ∷ 1_000 ∷ 1_000 ∷ 0 ∷ 0 ∷ 0 ∷ [])
    ∷ of book003 1_024 (Price 4_900 900) 0 (900 ∷ 600 ∷ 900 ∷ replicate 13 0)
    ∷ of book003 1_024 (Price 4_900 900) 1_022 (0 ∷ 0 ∷ [])
    ∷ of book003 1_025 (Price 4_900 900) 1_022 (0 ∷ 0 ∷ 0 ∷ [])
    ∷ of book003 1_023 (Refused 14) 0 (sixteen 7)
    ∷ of even_book 1_024 (Price 1_000 100) 0 (100 ∷ 100 ∷ replicate 14 0)
    ∷ record { orders = even_book; reference = 1_010; places = 1_024; right = Price 1_020 100; from = 0; held = 100 ∷ 100 ∷ replicate 14 0 }
    ∷ of ato_both_sides 1_024 (Price 900 400) 0 (0 ∷ 0 ∷ 400 ∷ replicate 13 0)
    ∷ of (buying 1_000 100 ∷ selling 1_010 100 ∷ []) 1_024 None 0 (sixteen 0)
    ∷ of (buying 1_010 1 ∷ selling 1_010 100 ∷ []) 1_024 (Price 1_010 1) 0 (1 ∷ 1 ∷ replicate 14 0)
    ∷ of (buying 0 100 ∷ selling 0 100 ∷ []) 1_024 None 0 (sixteen 0)
    ∷ of [] 1_024 None 0 (sixteen 0)
    ∷ of [] 1_023 (Refused 14) 1_022 (7 ∷ [])
    ∷ of (buying 1_005 100 ∷ even_book) 1_024 (Refused 15) 0 (sixteen 7)
    ∷ of (ending_in (selling 1_005 100)) 1_024 (Refused 15) 0 (sixteen 7)
    ∷ of (ending_in (selling 1_005 100)) 1_023 (Refused 14) 0 (sixteen 7)
    ∷ of (ending_in (selling 1_000 50)) 1_024 (Price 1_000 100) 0 (100 ∷ 100 ∷ 100 ∷ replicate 13 0)
    ∷ of (many 1_024) 1_024 None 1_020 (0 ∷ 0 ∷ 0 ∷ 0 ∷ [])
    ∷ of (many 1_025) 1_025 (Refused 14) 1_020 (7 ∷ 7 ∷ 7 ∷ 7 ∷ 7 ∷ [])
    ∷ []

pub as-in-the-request : map run cases ≡ map (λ c. (c.right, c.held)) cases
unfolding cases auction_in_one volumes_in place_volume auction refusal first_met any bad_order legal band_of_price last_band traded keep candidates line_at sum_of beats unbeaten
as-in-the-request = refl

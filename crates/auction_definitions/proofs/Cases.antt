-- Request 5's worked figures and both sides of each edge, as entries of one table with one theorem; and the tables that source documents 002 and 003 print.
-- Assumes nothing.
use mathlib.Core.List.{List, [], ◌∷◌, map}
use mathlib.Core.Path.{◌≡◌, refl}
use Prim.Native.Nat.{ℕ}
use lib.ListN.{replicate, take}
use Rattle.auction_definitions.specs.declared.AuctionOrder.{AuctionOrder}
use Rattle.auction_definitions.specs.Answers.{AuctionAnswer, Price, None, Refused}
use Rattle.auction_definitions.specs.Auction.{auction, auction_numbers, bad_order, beats, buyers_after, candidates, line_at, place_line, refusal, sellers_after, sum_of, sums_in, traded, unbeaten, volume_of}
use Rattle.definitions.specs.Lists.{any, first_met, keep}
use Rattle.ladder.specs.Ladder.{legal, band_of_price, last_band}
use Rattle.auction_definitions.proofs.Books.{ato_both_sides, book002, book003, buying, ending_in, even_book, higher_by_difference, lower_by_difference, many, selling}

pub record Case : Type 0 where
  pub orders : List AuctionOrder
  pub reference : ℕ
  pub buyers : ℕ
  pub sellers : ℕ
  pub right : AuctionAnswer

-- two scratch lists of 1,024 places
abbrev of : List AuctionOrder → ℕ → AuctionAnswer → Case
of orders reference right = record { orders = orders; reference = reference; buyers = 1_024; sellers = 1_024; right = right }

abbrev answer : Case → AuctionAnswer
answer c = auction c.orders c.reference (replicate c.buyers 7) (replicate c.sellers 7)

pub cases : List Case
cases =
    of book002 0 (Price 10_200 3_500)
    ∷ of book002 4_294_967_295 (Price 10_200 3_500)
    ∷ of book003 0 (Price 4_900 900)
    ∷ of book003 4_294_967_295 (Price 4_900 900)
    ∷ of higher_by_difference 1_000 (Price 1_020 100)
    ∷ of lower_by_difference 1_020 (Price 1_000 100)
    ∷ of even_book 0 (Price 1_000 100)
    ∷ of even_book 1_000 (Price 1_000 100)
    ∷ of even_book 1_009 (Price 1_000 100)
    ∷ of even_book 1_010 (Price 1_020 100)
    ∷ of even_book 1_011 (Price 1_020 100)
    ∷ of even_book 4_294_967_295 (Price 1_020 100)
    ∷ of ato_both_sides 0 (Price 900 400)
    ∷ of [] 0 None
    ∷ of (buying 0 100 ∷ selling 0 100 ∷ []) 0 None
    ∷ of (buying 1_000 100 ∷ buying 1_020 100 ∷ buying 0 100 ∷ []) 0 None
    ∷ of (selling 1_000 100 ∷ selling 0 100 ∷ []) 0 None
    ∷ of (buying 1_000 100 ∷ selling 1_010 100 ∷ []) 0 None
    ∷ of (buying 1_010 100 ∷ selling 1_010 100 ∷ []) 0 (Price 1_010 100)
    ∷ of (buying 1_010 1 ∷ selling 1_010 100 ∷ []) 0 (Price 1_010 1)
    ∷ of (buying 1 100 ∷ selling 1 100 ∷ []) 0 (Price 1 100)
    ∷ of (ending_in (buying 1_000 0)) 0 (Refused 15)
    ∷ of (ending_in (buying 1_000 1)) 0 (Price 1_020 100)
    ∷ of (ending_in (buying 1_000 20_000_000)) 0 (Price 1_020 100)
    ∷ of (ending_in (buying 1_000 20_000_001)) 0 (Refused 15)
    ∷ of (ending_in (selling 1_000 0)) 0 (Refused 15)
    ∷ of (ending_in (record { side = 2; price = 1_000; volume = 100 })) 0 (Refused 15)
    ∷ of (ending_in (record { side = 2; price = 0; volume = 100 })) 0 (Refused 15)
    ∷ of (ending_in (buying 1_005 100)) 0 (Refused 15)
    ∷ of (ending_in (selling 10_000_000 100)) 0 (Price 1_000 100)
    ∷ of (ending_in (selling 10_000_001 100)) 0 (Refused 15)
    ∷ of (buying 0 0 ∷ []) 0 (Refused 15)
    ∷ of (buying 1_005 100 ∷ even_book) 0 (Refused 15)
    ∷ record { orders = even_book; reference = 0; buyers = 1_023; sellers = 1_024; right = Refused 14 }
    ∷ record { orders = even_book; reference = 0; buyers = 1_024; sellers = 1_023; right = Refused 14 }
    ∷ record { orders = even_book; reference = 0; buyers = 1_025; sellers = 1_025; right = Price 1_000 100 }
    ∷ record { orders = buying 1_005 100 ∷ []; reference = 0; buyers = 0; sellers = 1_024; right = Refused 14 }
    ∷ of (many 1_024) 0 None
    ∷ of (many 1_025) 0 (Refused 14)
    ∷ []

pub as-in-the-request : map answer cases ≡ map (λ c. c.right) cases
unfolding cases auction refusal first_met any bad_order legal band_of_price last_band traded keep candidates line_at sum_of beats unbeaten
as-in-the-request = refl

-- a line as printed: price, buyers' and sellers' sums, volume
abbrev printed : List AuctionOrder → ℕ → List ℕ
printed orders p = p ∷ (line_at orders p).buyers ∷ (line_at orders p).sellers ∷ volume_of (line_at orders p) ∷ []

-- source document 002, 3
pub table-002 : map (printed book002) (10_100 ∷ 10_200 ∷ 10_300 ∷ 10_400 ∷ 10_500 ∷ 10_600 ∷ [])
    ≡ (10_100 ∷ 6_000 ∷ 0 ∷ 0 ∷ []) ∷ (10_200 ∷ 4_900 ∷ 3_500 ∷ 3_500 ∷ []) ∷ (10_300 ∷ 3_300 ∷ 4_000 ∷ 3_300 ∷ []) ∷ (10_400 ∷ 1_000 ∷ 5_000 ∷ 1_000 ∷ []) ∷ (10_500 ∷ 1_000 ∷ 6_500 ∷ 1_000 ∷ []) ∷ (10_600 ∷ 1_000 ∷ 7_000 ∷ 1_000 ∷ []) ∷ []
unfolding line_at sum_of
table-002 = refl

-- source document 003, table 2; 50 is no limit's price, and is printed there all the same
pub table-003 : map (printed book003) (4_800 ∷ 4_900 ∷ 5_000 ∷ 5_200 ∷ [])
    ≡ (4_800 ∷ 1_200 ∷ 600 ∷ 600 ∷ []) ∷ (4_900 ∷ 900 ∷ 1_000 ∷ 900 ∷ []) ∷ (5_000 ∷ 0 ∷ 1_000 ∷ 0 ∷ []) ∷ (5_200 ∷ 0 ∷ 5_400 ∷ 0 ∷ []) ∷ []
unfolding line_at sum_of
table-003 = refl

-- what the scratch lists hold: the sums at each limit's place, 0 at the ATO's, and behind the last order what they held
pub buyers-003 : take 6 (buyers_after book003 (replicate 1_024 7) (replicate 1_024 7)) ≡ 900 ∷ 1_200 ∷ 900 ∷ 0 ∷ 0 ∷ 7 ∷ []
unfolding refusal first_met any bad_order legal band_of_price last_band sums_in place_line line_at sum_of
buyers-003 = refl

pub sellers-003 : take 6 (sellers_after book003 (replicate 1_024 7) (replicate 1_024 7)) ≡ 1_000 ∷ 600 ∷ 1_000 ∷ 5_400 ∷ 0 ∷ 7 ∷ []
unfolding refusal first_met any bad_order legal band_of_price last_band sums_in place_line line_at sum_of
sellers-003 = refl

-- and a refusal leaves them equal
pub left-equal : take 2 (buyers_after (buying 1_005 100 ∷ []) (replicate 1_024 7) (replicate 1_024 7)) ≡ 7 ∷ 7 ∷ []
unfolding refusal first_met any bad_order legal band_of_price last_band sums_in place_line line_at sum_of
left-equal = refl

-- each answer's numbers
pub numbers : map auction_numbers (Price 10_200 3_500 ∷ None ∷ Refused 14 ∷ Refused 15 ∷ [])
    ≡ record { volume = 3_500; price = 10_200; refusal = 0 } ∷ record { volume = 0; price = 0; refusal = 0 } ∷ record { volume = 0; price = 0; refusal = 14 } ∷ record { volume = 0; price = 0; refusal = 15 } ∷ []
numbers = refl

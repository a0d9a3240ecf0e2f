-- Request 7's calls on the books of source documents 002 and 003, and both sides of each edge, as entries of one table with one theorem.
-- Assumes nothing.
use mathlib.Core.List.{List, [], ◌∷◌, ◌++◌, map}
use mathlib.Core.Path.{◌≡◌, refl}
use Prim.Native.Nat.{ℕ, ◌-◌}
use lib.ListN.{drop, length, replicate, take}
use Rattle.auction_definitions.specs.declared.AuctionOrder.{AuctionOrder}
use Rattle.auction_definitions.specs.Answers.{AuctionAnswer, Price, None, Refused}
use Rattle.auction_definitions.specs.Auction.{auction, bad_order, beats, candidates, line_at, refusal, sum_of, traded, unbeaten}
use Rattle.auction_definitions.specs.Volumes.{auction_in_one, place_volume, volumes_in}
use Rattle.auction_definitions.specs.Current.{Add, Call, Lent, Take, call_answer, call_refusal, changed, held, lent, lent_after, lent_of, list_of}
use Rattle.definitions.specs.Lists.{any, first_met, keep}
use Rattle.ladder.specs.Ladder.{legal, band_of_price, last_band}
use Rattle.auction_definitions.proofs.Books.{book002, book003, buying, even_book, many, selling}
use Rattle.auction_definitions.proofs.CallHistory.{History}

-- after a call: the answer, the count, and sixteen places of the list and of the scratch list, or as many as there are left
pub record Seen : Type 0 where
  pub answer : AuctionAnswer
  pub count : ℕ
  pub list : List AuctionOrder
  pub scratch : List ℕ

abbrev seen : AuctionAnswer → ℕ → List AuctionOrder → List ℕ → Seen
seen answer count list scratch = record { answer = answer; count = count; list = list; scratch = scratch }

abbrev look : ℕ → AuctionAnswer → Lent → Seen
look from answer l = seen answer l.count (take 16 (drop from l.orders)) (take 16 (drop from l.volumes))

-- what is lent, the calls one after the other, the first of the sixteen places, and what is right after each call
pub record Case : Type 0 where
  pub first : Lent
  pub history : History
  pub from : ℕ
  pub right : List Seen

abbrev run : ℕ → Lent → History → List Seen
run from l [] = []
run from l (c ∷ cs) = look from (call_answer c.0 c.1 l) (lent_after c.0 l) ∷ run from (lent_after c.0 l) cs

abbrev zero : AuctionOrder
zero = record { side = 0; price = 0; volume = 0 }

-- bad by its side, its price and its volume
abbrev bad : AuctionOrder
bad = record { side = 2; price = 1_005; volume = 0 }

-- orders at the first of so many places, with a bad one at every place past them, and a scratch list of so many places
abbrev lending : List AuctionOrder → ℕ → ℕ → Lent
lending os places scratch = lent (os ++ replicate (places - length os) bad) (length os) (replicate scratch 7)

-- and how these places stand afterwards: zero past the orders
abbrev standing : ℕ → List AuctionOrder → List AuctionOrder
standing places os = os ++ replicate (places - length os) zero

abbrev numbers : List ℕ → List ℕ
numbers vs = vs ++ replicate (16 - length vs) 0

-- calls from the first place on, with reference 0
abbrev calls : Lent → List Call → List Seen → Case
calls l cs right = record { first = l; history = map (λ c. (c, 0)) cs; from = 0; right = right }

-- one call, not refused: what stands from a place on
abbrev does : Lent → Call → ℕ → Seen → Case
does l c from right = record { first = l; history = (c, 0) ∷ []; from = from; right = right ∷ [] }

-- one call, refused: the count and what is looked at stand as they stood
abbrev refuses : Lent → Call → ℕ → Case
refuses l c n = does l c 0 (look 0 (Refused n) l)

-- two orders, or these and another, in a list of so many places
abbrev two : ℕ → Lent
two places = lending even_book places 1_024

abbrev three : AuctionOrder → Lent
three o = lending (even_book ++ (o ∷ [])) 4 1_024

abbrev one : AuctionOrder
one = selling 1_000 100

-- source document 003's book built up, and taken out again: its second order, then the last, the first, the last and the only one, and one more, which is refused
abbrev book003_taken : List Call
book003_taken = map Add book003 ++ (Take 1 ∷ Take 3 ∷ Take 0 ∷ Take 1 ∷ Take 0 ∷ Take 0 ∷ [])

abbrev seen003 : List Seen
seen003 =
    seen None 1 (standing 6 (take 1 book003)) (numbers [])
    ∷ seen None 2 (standing 6 (take 2 book003)) (numbers [])
    ∷ seen (Price 4_900 400) 3 (standing 6 (take 3 book003)) (numbers (400 ∷ 0 ∷ 400 ∷ []))
    ∷ seen (Price 4_900 400) 4 (standing 6 (take 4 book003)) (numbers (400 ∷ 0 ∷ 400 ∷ []))
    ∷ seen (Price 4_900 900) 5 (standing 6 book003) (numbers (900 ∷ 600 ∷ 900 ∷ []))
    ∷ seen (Price 4_900 900) 4 (standing 6 (buying 4_900 900 ∷ selling 4_900 400 ∷ selling 5_200 4_400 ∷ selling 0 600 ∷ [])) (numbers (900 ∷ 900 ∷ []))
    ∷ seen (Price 4_900 400) 3 (standing 6 (buying 4_900 900 ∷ selling 4_900 400 ∷ selling 5_200 4_400 ∷ [])) (numbers (400 ∷ 400 ∷ []))
    ∷ seen None 2 (standing 6 (selling 4_900 400 ∷ selling 5_200 4_400 ∷ [])) (numbers [])
    ∷ seen None 1 (standing 6 (selling 4_900 400 ∷ [])) (numbers [])
    ∷ seen None 0 (standing 6 []) (numbers [])
    ∷ seen (Refused 16) 0 (standing 6 []) (numbers [])
    ∷ []

-- source document 002's book built up, and the first to sell taken out
abbrev book002_taken : List Call
book002_taken = map Add book002 ++ (Take 7 ∷ [])

abbrev seen002 : List Seen
seen002 =
    seen None 1 (standing 14 (take 1 book002)) (numbers [])
    ∷ seen None 2 (standing 14 (take 2 book002)) (numbers [])
    ∷ seen None 3 (standing 14 (take 3 book002)) (numbers [])
    ∷ seen None 4 (standing 14 (take 4 book002)) (numbers [])
    ∷ seen None 5 (standing 14 (take 5 book002)) (numbers [])
    ∷ seen None 6 (standing 14 (take 6 book002)) (numbers [])
    ∷ seen None 7 (standing 14 (take 7 book002)) (numbers [])
    ∷ seen (Price 10_300 2_500) 8 (standing 14 (take 8 book002)) (numbers (0 ∷ 2_500 ∷ 2_500 ∷ 2_500 ∷ 2_500 ∷ 0 ∷ 0 ∷ 2_500 ∷ []))
    ∷ seen (Price 10_200 3_500) 9 (standing 14 (take 9 book002)) (numbers (0 ∷ 3_300 ∷ 3_300 ∷ 3_500 ∷ 3_500 ∷ 0 ∷ 0 ∷ 3_500 ∷ 3_500 ∷ []))
    ∷ seen (Price 10_200 3_500) 10 (standing 14 (take 10 book002)) (numbers (0 ∷ 3_300 ∷ 3_300 ∷ 3_500 ∷ 3_500 ∷ 0 ∷ 0 ∷ 3_500 ∷ 3_500 ∷ 3_300 ∷ []))
    ∷ seen (Price 10_200 3_500) 11 (standing 14 (take 11 book002)) (numbers (0 ∷ 3_300 ∷ 3_300 ∷ 3_500 ∷ 3_500 ∷ 0 ∷ 0 ∷ 3_500 ∷ 3_500 ∷ 3_300 ∷ 1_000 ∷ []))
    ∷ seen (Price 10_200 3_500) 12 (standing 14 (take 12 book002)) (numbers (0 ∷ 3_300 ∷ 3_300 ∷ 3_500 ∷ 3_500 ∷ 0 ∷ 0 ∷ 3_500 ∷ 3_500 ∷ 3_300 ∷ 1_000 ∷ 1_000 ∷ []))
    ∷ seen (Price 10_200 3_500) 13 (standing 14 book002) (numbers (0 ∷ 3_300 ∷ 3_300 ∷ 3_500 ∷ 3_500 ∷ 0 ∷ 0 ∷ 3_500 ∷ 3_500 ∷ 3_300 ∷ 1_000 ∷ 1_000 ∷ 1_000 ∷ []))
    ∷ seen (Price 10_300 1_500) 12 (standing 14 (take 7 book002 ++ drop 8 book002)) (numbers (0 ∷ 1_500 ∷ 1_500 ∷ 1_000 ∷ 1_000 ∷ 0 ∷ 0 ∷ 1_000 ∷ 1_500 ∷ 1_000 ∷ 1_000 ∷ 1_000 ∷ []))
    ∷ []

pub cases : List Case
cases =
    calls (lending [] 6 1_024) book003_taken seen003
    ∷ calls (lending [] 14 1_024) book002_taken seen002
    -- the reference
    ∷ record { first = lending (buying 1_020 100 ∷ []) 2 1_024; history = (Add one, 1_009) ∷ []; from = 0; right = seen (Price 1_000 100) 2 even_book (numbers (100 ∷ 100 ∷ [])) ∷ [] }
    ∷ record { first = lending (buying 1_020 100 ∷ []) 2 1_024; history = (Add one, 1_010) ∷ []; from = 0; right = seen (Price 1_020 100) 2 even_book (numbers (100 ∷ 100 ∷ [])) ∷ [] }
    -- the count and the list's length
    ∷ does (two 3) (Add one) 0 (seen (Price 1_000 100) 3 (even_book ++ (one ∷ [])) (numbers (100 ∷ 100 ∷ 100 ∷ [])))
    ∷ refuses (two 2) (Add one) 14
    ∷ does (two 2) (Take 0) 0 (seen None 1 (standing 2 (one ∷ [])) (numbers []))
    ∷ does (lent even_book 1 (replicate 1_024 7)) (Add (selling 1_010 100)) 0 (seen (Price 1_010 100) 2 (buying 1_020 100 ∷ selling 1_010 100 ∷ []) (numbers (100 ∷ 100 ∷ [])))
    ∷ refuses (lent even_book 3 (replicate 1_024 7)) (Add one) 14
    ∷ refuses (lent even_book 3 (replicate 1_024 7)) (Take 0) 14
    ∷ refuses (lent [] 0 (replicate 1_024 7)) (Add one) 14
    ∷ refuses (lent [] 0 (replicate 1_024 7)) (Take 0) 16
    -- the count and 1,024
    ∷ does (lending (many 1_023) 1_024 1_024) (Add one) 1_021 (seen (Price 1_000 100) 1_024 (many 2 ++ (one ∷ [])) (0 ∷ 0 ∷ 100 ∷ []))
    ∷ does (lending (many 1_023) 1_030 1_030) (Add one) 1_021 (seen (Price 1_000 100) 1_024 (standing 9 (many 2 ++ (one ∷ []))) (0 ∷ 0 ∷ 100 ∷ replicate 6 0))
    ∷ refuses (lending (many 1_023) 1_023 1_024) (Add one) 14
    ∷ refuses (lending (many 1_024) 1_024 1_024) (Add one) 14
    ∷ refuses (lending (many 1_024) 1_025 1_025) (Add one) 14
    ∷ refuses (lending (many 1_024) 1_030 1_024) (Add one) 14
    ∷ refuses (lending (many 1_025) 1_030 1_030) (Add one) 14
    ∷ does (lending (many 1_024) 1_024 1_024) (Take 1_023) 1_021 (seen None 1_023 (standing 3 (many 2)) (0 ∷ 0 ∷ 0 ∷ []))
    ∷ does (lending (many 1_024) 1_030 1_030) (Take 0) 1_021 (seen None 1_023 (standing 9 (many 2)) (replicate 9 0))
    ∷ refuses (lending (many 1_025) 1_025 1_025) (Take 0) 14
    ∷ refuses (lending (many 1_025) 1_030 1_030) (Take 1_024) 14
    -- the scratch list
    ∷ refuses (lending even_book 3 1_023) (Add one) 14
    ∷ refuses (lending even_book 3 1_023) (Take 0) 14
    ∷ does (lending even_book 1_030 1_030) (Add one) 1_021 (seen (Price 1_000 100) 3 (standing 9 []) (replicate 9 0))
    ∷ does (lending even_book 1_030 1_030) (Take 1) 1_021 (seen None 1 (standing 9 []) (replicate 9 0))
    -- a bad order, new
    ∷ refuses (two 3) (Add (record { side = 2; price = 1_000; volume = 100 })) 15
    ∷ refuses (two 3) (Add (selling 1_005 100)) 15
    ∷ refuses (two 3) (Add (buying 1_000 0)) 15
    ∷ refuses (two 3) (Add (buying 1_000 20_000_001)) 15
    ∷ refuses (two 3) (Add zero) 15
    ∷ does (two 3) (Add (buying 1_000 20_000_000)) 0 (seen (Price 1_020 100) 3 (even_book ++ (buying 1_000 20_000_000 ∷ [])) (numbers (100 ∷ 100 ∷ 100 ∷ [])))
    -- or held: first, last, and at the place
    ∷ refuses (lending (bad ∷ even_book) 4 1_024) (Add one) 15
    ∷ refuses (three (selling 1_005 100)) (Add one) 15
    ∷ refuses (lending (bad ∷ even_book) 4 1_024) (Take 1) 15
    ∷ refuses (lending (bad ∷ even_book) 4 1_024) (Take 0) 15
    ∷ refuses (three (selling 1_005 100)) (Take 1) 15
    ∷ refuses (three (selling 1_005 100)) (Take 2) 15
    ∷ does (three one) (Take 2) 0 (seen (Price 1_000 100) 2 (standing 4 even_book) (numbers (100 ∷ 100 ∷ [])))
    -- the place and the count
    ∷ refuses (three one) (Take 3) 16
    ∷ refuses (three one) (Take 4) 16
    ∷ refuses (three one) (Take 4_294_967_295) 16
    -- 14 before 15 before 16
    ∷ refuses (lending (bad ∷ even_book) 4 1_023) (Take 3) 14
    ∷ refuses (lending (bad ∷ even_book) 4 1_024) (Take 3) 15
    ∷ refuses (lending even_book 4 1_023) (Take 3) 14
    ∷ refuses (two 2) (Add bad) 14
    ∷ refuses (lending (bad ∷ []) 1 1_024) (Add bad) 14
    ∷ []

pub as-in-the-request : map (λ c. run c.from c.first c.history) cases ≡ map (λ c. c.right) cases
unfolding cases call_answer call_refusal changed held lent_after lent_of list_of auction_in_one volumes_in place_volume auction refusal first_met any bad_order legal band_of_price last_band traded keep candidates line_at sum_of beats unbeaten
as-in-the-request = refl

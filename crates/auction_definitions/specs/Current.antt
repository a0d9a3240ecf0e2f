-- Paper 02, 7: "Auction price kept current". The answer and the scratch list are request 6's (`Volumes`), and a bad order is request 5's (`Auction`).
use Rattle.std.specs.Prelude.{Bool, true, false, cond, not, ◌&&◌, List, [], ◌∷◌, ◌++◌, ℕ, ◌+◌, ◌-◌, leb, ltb, eqb, length, take, drop, replicate}
use Rattle.definitions.specs.Lists.{any, first_met}
use Rattle.auction_definitions.specs.declared.AuctionOrder.{AuctionOrder}
use Rattle.auction_definitions.specs.Answers.{AuctionAnswer, Price, None, Refused}
use Rattle.auction_definitions.specs.Auction.{bad_order, max_orders}
use Rattle.auction_definitions.specs.Volumes.{auction_in_one, volumes_in}

-- what is lent to a call: the list of orders "with its count", and "request 6's scratch list"
pub record Lent : Type 0 where
  pub orders : List AuctionOrder
  pub count : ℕ
  pub volumes : List ℕ

abbrev pub lent : List AuctionOrder → ℕ → List ℕ → Lent
lent orders count volumes = record { orders = orders; count = count; volumes = volumes }

-- the orders held: those at the places below the count
unfoldable pub held : Lent → List AuctionOrder
held l = take l.count l.orders

-- "two calls": "one adds an order at the end, one takes out the order at a given place"
pub data Call : Type 0 where
  Add : AuctionOrder → Call
  Take : ℕ → Call

-- the orders held after a call, "at the end", and with the gap closed
unfoldable pub changed : Call → List AuctionOrder → List AuctionOrder
changed (Add o) os = os ++ (o ∷ [])
changed (Take place) os = take place os ++ drop (place + 1) os

-- "Adding where the count is the list's length or 1,024, .. with a count above one of these, or a short scratch list gives 14": of the count, the list's length and the scratch list's, where it does not
abbrev pub add_fits : ℕ → ℕ → ℕ → Bool
add_fits count places volumes = ltb count places && ltb count max_orders && leb max_orders volumes

-- "either call with a count above one of these, or a short scratch list"
abbrev pub take_fits : ℕ → ℕ → ℕ → Bool
take_fits count places volumes = leb count places && leb count max_orders && leb max_orders volumes

abbrev pub fits : Call → ℕ → ℕ → ℕ → Bool
fits (Add o) = add_fits
fits (Take place) = take_fits

-- "a bad order, new or held"
abbrev pub asked : Call → List AuctionOrder → List AuctionOrder
asked (Add o) os = os ++ (o ∷ [])
asked (Take place) os = os

-- "if the place is at or beyond the count"
abbrev pub beyond : Call → ℕ → Bool
beyond (Add o) count = false
beyond (Take place) count = leb count place

-- ".. or a short scratch list gives 14, and a bad order, new or held, 15 .. Turned away: 16, last, if .."
abbrev pub call_conditions : Call → Lent → List (ℕ × Bool)
call_conditions c l =
    (14, not (fits c l.count (length l.orders) (length l.volumes))) ∷ (15, any bad_order (asked c (held l))) ∷ (16, beyond c l.count) ∷ []

-- 0 where none is met
unfoldable pub call_refusal : Call → Lent → ℕ
call_refusal c l = first_met (call_conditions c l)

-- "zero"
abbrev pub zero_order : AuctionOrder
zero_order = record { side = 0; price = 0; volume = 0 }

-- orders at the first of so many places, and "places past the count are zero"
unfoldable pub list_of : ℕ → List AuctionOrder → List AuctionOrder
list_of places os = os ++ replicate (places - length os) zero_order

-- "After each call not refused, answer and scratch are request 6's, worked out afresh from the list."
unfoldable pub call_answer : Call → ℕ → Lent → AuctionAnswer
call_answer c reference l =
    cond (eqb (call_refusal c l) 0) (auction_in_one (changed c (held l)) reference l.volumes) (Refused (call_refusal c l))

-- the list with its count, and request 6's scratch list, of the orders held
unfoldable pub lent_of : ℕ → List AuctionOrder → List ℕ → Lent
lent_of places os volumes = lent (list_of places os) (length os) (volumes_in os volumes)

-- "a refusal leaves list, count and scratch equal"
unfoldable pub lent_after : Call → Lent → Lent
lent_after c l = cond (eqb (call_refusal c l) 0) (lent_of (length l.orders) (changed c (held l)) l.volumes) l

-- whether a call was refused, read off its answer
abbrev pub is_refused : AuctionAnswer → Bool
is_refused (Price p v) = false
is_refused None = false
is_refused (Refused n) = true

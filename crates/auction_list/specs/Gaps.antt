-- What the functions over a lent list of orders leave.
use Rattle.std.specs.Prelude.{List, ◌∷◌, ◌++◌, ℕ, ◌+◌, ◌-◌, length, take, drop, replicate}
use Rattle.auction_definitions.specs.declared.AuctionOrder.{AuctionOrder}
use Rattle.auction_definitions.specs.Current.{zero_order}

-- zero from a place to the list's end
unfoldable pub zero_from : ℕ → List AuctionOrder → List AuctionOrder
zero_from place xs = take place xs ++ replicate (length xs - place) zero_order

-- of the orders below the count, those from a place on stand one place higher, the new one in the gap, and the last has no place any more
unfoldable pub gap_opened : ℕ → ℕ → AuctionOrder → List AuctionOrder → List AuctionOrder
gap_opened place count o xs = take place xs ++ (o ∷ (take (count - (place + 1)) (drop place xs) ++ drop count xs))

-- those behind a place stand one place lower, and the last place is zero
unfoldable pub gap_closed : ℕ → ℕ → List AuctionOrder → List AuctionOrder
gap_closed place count xs = take place xs ++ (take (count - (place + 1)) (drop (place + 1) xs) ++ (zero_order ∷ drop count xs))

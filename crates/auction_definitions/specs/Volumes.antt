-- Paper 02, 6: "Half the scratch for the auction". Orders, candidates, sums, the choice of the price and the refusals are request 5's (`Auction`).
use Rattle.std.specs.Prelude.{cond, List, ◌++◌, map, ℕ, ◌-◌, eqb, length, replicate}
use Rattle.auction_definitions.specs.declared.AuctionOrder.{AuctionOrder}
use Rattle.auction_definitions.specs.Answers.{AuctionAnswer}
use Rattle.auction_definitions.specs.Auction.{auction, is_limit, line_at, refusal, volume_of}

-- "The price, the volume, "none" and the refusals must be the ones given before": before, with the one list lent in the place of both
unfoldable pub auction_in_one : List AuctionOrder → ℕ → List ℕ → AuctionAnswer
auction_in_one orders reference volumes = auction orders reference volumes volumes

-- "at each limit's place in the order list, the volume at that price, and 0
unfoldable pub place_volume : List AuctionOrder → AuctionOrder → ℕ
place_volume orders o = cond (is_limit o) (volume_of (line_at orders o.price)) 0

-- elsewhere", which is an ATO's or ATC's place and every place behind the orders
unfoldable pub volumes_in : List AuctionOrder → List ℕ → List ℕ
volumes_in orders volumes = map (place_volume orders) orders ++ replicate (length volumes - length orders) 0

-- "After a call not refused it holds ..": a refusal leaves it equal
abbrev pub volumes_after : List AuctionOrder → List ℕ → List ℕ
volumes_after orders volumes = cond (eqb (refusal orders volumes volumes) 0) (volumes_in orders volumes) volumes

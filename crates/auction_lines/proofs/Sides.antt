-- What an order adds to a line: an order to buy nothing to the sellers, any other nothing to the buyers.
-- Assumes nothing.
use mathlib.Core.Bool.{Bool, true, false, cond, not, ◌&&◌, ◌||◌}
use mathlib.Core.Path.{◌≡◌}
use Prim.Native.Nat.{ℕ, ◌+◌}
use native.Mathlib.Nat.{add-zero}
use lib.Dec.{eqb, leb}
use borrow.Author.Tests.{ne_eqb}
use Rattle.definitions.specs.Codes.{buy, sell}
use Rattle.auction_definitions.specs.declared.AuctionOrder.{AuctionOrder}
use Rattle.auction_definitions.specs.declared.Line.{Line}
use Rattle.auction_definitions.specs.Auction.{is_auction}
use Rattle.auction_lines.specs.Lines.{with_order}

nothing-added : (candidate : Bool) (n : ℕ) (volume : ℕ) → n + cond (candidate && false) volume 0 ≡ n
nothing-added true n volume = add-zero n
nothing-added false n volume = add-zero n

module _ (l : Line) (o : AuctionOrder) where
  abbrev candidate : Bool
  candidate = not (eqb l.price 0)

  pub with-buyer : {sum : ℕ} → o.side ≡ buy → sum ≡ l.buyers + cond (candidate && (is_auction o || leb l.price o.price)) o.volume 0
      → record { price = l.price; buyers = sum; sellers = l.sellers } ≡ with_order l o
  unfolding with_order
  with-buyer side e = rw (side, e, nothing-added candidate l.sellers o.volume)

  pub with-seller : {sum : ℕ} → (o.side ≡ buy → ⊥) → sum ≡ l.sellers + cond (candidate && (eqb o.side sell && (is_auction o || leb o.price l.price))) o.volume 0
      → record { price = l.price; buyers = l.buyers; sellers = sum } ≡ with_order l o
  unfolding with_order
  with-seller side e = rw (e, ne_eqb o.side buy side, nothing-added candidate l.buyers o.volume)

-- A candidate is the price of a limit in the list: the order that it is the price of, and back.
-- Assumes nothing.
use mathlib.Core.Bool.{true}
use mathlib.Core.List.{List}
use mathlib.Core.Path.{◌≡◌, sym, subst}
use Prim.Native.Nat.{ℕ}
use Rattle.definitions.specs.Lists.{keep}
use Rattle.auction_definitions.specs.declared.AuctionOrder.{AuctionOrder}
use Rattle.auction_definitions.specs.Auction.{candidates, is_limit}
use Rattle.auction_definitions.proofs.Among.{Among, From, kept, mapped, of-kept, of-mapped}

pub record LimitAt (orders : List AuctionOrder) (p : ℕ) : Type 0 where
  pub order : AuctionOrder
  pub among : Among order orders
  pub limit : is_limit order ≡ true
  pub price : p ≡ order.price

module _ (orders : List AuctionOrder) {p : ℕ} where
  pub limit-of : Among p (candidates orders) → LimitAt orders p
  unfolding candidates
  limit-of at =
      let found : From (λ (o : AuctionOrder). o.price) p (keep is_limit orders) = of-mapped (λ o. o.price) p (keep is_limit orders) at in
      let parts : Among found.of orders × (is_limit found.of ≡ true) = of-kept is_limit found.of orders found.among in
      record { order = found.of; among = parts.0; limit = parts.1; price = found.same }

  pub candidate-of : LimitAt orders p → Among p (candidates orders)
  unfolding candidates
  candidate-of its =
      subst (λ (q : ℕ). Among q (candidates orders)) (sym its.price)
      (mapped (λ o. o.price) its.order (keep is_limit orders) (kept is_limit its.order orders its.among its.limit))

-- A list in another order: what does not depend on the order of its elements.
-- Assumes nothing.
use mathlib.Core.Bool.{Bool, true, false, cond, ◌||◌}
use mathlib.Core.List.{List, [], ◌∷◌}
use mathlib.Core.Path.{◌≡◌, refl, ◌∙◌, ap}
use Prim.Native.Nat.{ℕ, suc, ◌+◌}
use native.Mathlib.Omega.{arith}
use lib.ListN.{length}
use Rattle.definitions.specs.Lists.{any}
use Rattle.auction_definitions.specs.declared.AuctionOrder.{AuctionOrder}
use Rattle.auction_definitions.specs.Auction.{candidates, line_at, sum_of, buys_at, sells_at}
use Rattle.auction_definitions.proofs.Among.{Among, first, later}
use Rattle.auction_definitions.proofs.Limits.{LimitAt, candidate-of, limit-of}

-- the same elements, each as often, in another order
pub data Permuted {A : Type 0} : List A → List A → Type 0 where
  none : Permuted [] []
  both : {x : A} {xs ys : List A} → Permuted xs ys → Permuted (x ∷ xs) (x ∷ ys)
  swap : {x y : A} {xs : List A} → Permuted (x ∷ y ∷ xs) (y ∷ x ∷ xs)
  through : {xs ys zs : List A} → Permuted xs ys → Permuted ys zs → Permuted xs zs

or_swap : (a b c : Bool) → (a || (b || c)) ≡ (b || (a || c))
or_swap true true c = refl
or_swap true false c = refl
or_swap false b c = refl

module _ {A : Type 0} where
  pub back : {xs ys : List A} → Permuted xs ys → Permuted ys xs
  back none = none
  back (both p) = both (back p)
  back swap = swap
  back (through p q) = through (back q) (back p)

  pub among-permuted : {x : A} {xs ys : List A} → Permuted xs ys → Among x xs → Among x ys
  among-permuted none at = elim at [ ]
  among-permuted (both p) first = first
  among-permuted (both p) (later at) = later (among-permuted p at)
  among-permuted swap first = later first
  among-permuted swap (later first) = first
  among-permuted swap (later (later at)) = later (later at)
  among-permuted (through p q) at = among-permuted q (among-permuted p at)

  pub length-permuted : {xs ys : List A} → Permuted xs ys → length xs ≡ length ys
  length-permuted none = refl
  length-permuted (both p) = ap suc (length-permuted p)
  length-permuted swap = refl
  length-permuted (through p q) = length-permuted p ∙ length-permuted q

  pub any-permuted : (t : A → Bool) {xs ys : List A} → Permuted xs ys → any t xs ≡ any t ys
  unfolding any
  any-permuted t none = refl
  any-permuted t (both {x = x} p) = ap (λ (b : Bool). t x || b) (any-permuted t p)
  any-permuted t (swap {x = x} {y = y} {xs = xs}) = or_swap (t x) (t y) (any t xs)
  any-permuted t (through p q) = any-permuted t p ∙ any-permuted t q

sum-permuted : (t : AuctionOrder → Bool) {xs ys : List AuctionOrder} → Permuted xs ys → sum_of t xs ≡ sum_of t ys
unfolding sum_of
sum-permuted t none = refl
sum-permuted t (both {x = x} p) = ap (λ (n : ℕ). cond (t x) x.volume 0 + n) (sum-permuted t p)
sum-permuted t (swap {x = x} {y = y} {xs = xs}) = omega arith
sum-permuted t (through p q) = sum-permuted t p ∙ sum-permuted t q

module _ {xs ys : List AuctionOrder} (permuted : Permuted xs ys) where
  pub line-permuted : (p : ℕ) → line_at xs p ≡ line_at ys p
  unfolding line_at
  line-permuted p = rw (sum-permuted (buys_at p) permuted, sum-permuted (sells_at p) permuted)

  pub candidate-permuted : {p : ℕ} → Among p (candidates xs) → Among p (candidates ys)
  candidate-permuted {p} at =
      let its : LimitAt xs p = limit-of xs at in
      candidate-of ys (record { order = its.order; among = among-permuted permuted its.among; limit = its.limit; price = its.price })

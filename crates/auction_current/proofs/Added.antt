-- What each way out of `add` leaves is what the contract says, where the order fits. No memory.
-- Assumes nothing.
use mathlib.Core.Bool.{true, false, cond}
use mathlib.Core.List.{List, [], ◌∷◌}
use mathlib.Core.Path.{◌≡◌, refl, ap, ◌∙◌}
use Prim.Native.Nat.{ℕ, ◌+◌, ◌-◌, ◌<◌, ◌≤◌}
use native.Mathlib.Omega.{arith}
use lib.Dec.{eqb}
use lib.ListN.{length, get_or, take, length-append}
use lib.Seq.{length-take-le}
use Rattle.auction_definitions.specs.Answers.{AuctionAnswer}
use Rattle.auction_definitions.specs.declared.AuctionOrder.{AuctionOrder}
use Rattle.auction_definitions.specs.Auction.{max_orders, refusal}
use Rattle.auction_definitions.specs.Volumes.{auction_in_one, volumes_after}
use Rattle.auction_definitions.specs.Current.{Add, Lent, add_fits, call_refusal, changed, held, is_refused, lent, zero_order}
use Rattle.auction_list.specs.Gaps.{gap_opened, zero_from}
use Rattle.auction_definitions.proofs.CurrentCalls.{fits-says}
use Rattle.auction_list.proofs.Carried.{length-opened, opened-last, reput}
use Rattle.auction_current.proofs.Kept.{Promised, fit-lists, refused-alike, worked-done, worked-refused}

module _ (o : AuctionOrder) (reference : ℕ) (xs : List AuctionOrder) (n : ℕ) (vs : List ℕ) (fit : add_fits n (length xs) (length vs) ≡ true) where
  abbrev l : Lent
  l = lent xs n vs

  abbrev ys : List AuctionOrder
  ys = gap_opened n (n + 1) o xs

  abbrev os : List AuctionOrder
  os = changed (Add o) (held l)

  pub add-within : (n < length xs) × (n < max_orders) × (max_orders ≤ length vs)
  add-within = (fits-says (Add o) l).0 fit

  added-front : take (n + 1) ys ≡ os
  unfolding changed held
  added-front = opened-last n xs add-within.0 o

  added-short : length os ≡ n + 1
  unfolding changed held
  added-short = length-append (take n xs) (o ∷ []) ∙ ap (λ (k : ℕ). k + 1) (length-take-le n xs (omega (arith, add-within.0)))

  added-same : refusal os vs vs ≡ call_refusal (Add o) l
  unfolding changed
  added-same = refused-alike (Add o) reference l fit refl refl (fit-lists (n + 1) os vs added-short (omega (arith, add-within.1)) add-within.2)

  pub added-long : length ys ≡ length xs
  added-long = length-opened n (n + 1) xs (omega arith) (omega (arith, add-within.0)) o

  module _ (r : AuctionAnswer) (zs : List AuctionOrder) (ws : List ℕ) (e : r ≡ auction_in_one (take (n + 1) ys) reference vs)
      (list : zs ≡ cond (eqb (refusal (take (n + 1) ys) vs vs) 0) (zero_from (n + 1) ys) ys) (scratch : ws ≡ volumes_after (take (n + 1) ys) vs) where
    pub added-refused : is_refused r ≡ true → Promised (Add o) reference l r (lent (gap_opened n (n + 1) (get_or xs (n + 1 - 1) zero_order) zs) n ws)
    added-refused = worked-refused (Add o) reference l (n + 1) ys added-front added-short added-long added-same r zs ws e list scratch (gap_opened n (n + 1) (get_or xs (n + 1 - 1) zero_order))
        (ap (λ (k : ℕ). gap_opened n (n + 1) (get_or xs k zero_order) ys) (omega arith) ∙ reput n xs add-within.0 o)

    pub added-done : is_refused r ≡ false → Promised (Add o) reference l r (lent zs (n + 1) ws)
    added-done = worked-done (Add o) reference l (n + 1) ys added-front added-short added-long added-same r zs ws e list scratch

-- Request 6 of paper 02 as theorems, a sentence each, over `auction_in_one` and `volumes_after`, which the code's contracts name (crates/auction).
-- Assumes nothing.
use mathlib.Core.Bool.{Bool, true, false, cond, ◌&&◌}
use mathlib.Core.List.{List, [], ◌∷◌, ◌++◌, map}
use mathlib.Core.Path.{◌≡◌, refl, sym, ◌∙◌, ap}
use Prim.Native.Nat.{ℕ, zero, suc, ◌-◌, ◌≤◌, ◌<◌, min}
use lib.Dec.{eqb, leb, ltb}
use lib.ListN.{length, get_or, replicate, length-append, length-map, length-replicate, get_or-map, get_or-eq_default}
use borrow.Author.Tests.{eqb-true, ltb-false, ltb-true, ne_eqb}
use native.Mathlib.Omega.{arith}
use Rattle.definitions.proofs.Tests.{or_parts}
use Rattle.auction_definitions.specs.declared.AuctionOrder.{AuctionOrder}
use Rattle.auction_definitions.specs.Answers.{Price, None, Refused}
use Rattle.auction_definitions.specs.Auction.{auction, beats, buyers_after, candidates, empty_line, is_limit, line_at, max_orders, place_line, refusal, sellers_after, volume_of}
use Rattle.auction_definitions.specs.Volumes.{auction_in_one, place_volume, volumes_after, volumes_in}
use Rattle.auction_definitions.specs.Current.{zero_order}
use Rattle.auction_definitions.proofs.Among.{Among, read}
use Rattle.auction_definitions.proofs.Limits.{candidate-of}
use Rattle.auction_definitions.proofs.Projected.{NoVolume, Projected, variant_of}
use Rattle.auction_definitions.proofs.Accepted.{lists-fit}
use Rattle.auction_definitions.proofs.Promises.{accepted, buyers-held, none-without-volume, price-unbeaten, refusal_of, sellers-held}

-- one list is as good as two, where it is long enough exactly if both are
same-fit : (o v b s : Bool) → v ≡ (b && s) → (o && v && v) ≡ (o && b && s)
same-fit true v true true e = rw e
same-fit true v true false e = rw e
same-fit true v false s e = rw e
same-fit false v b s e = refl

-- "The price, the volume, "none" and the refusals must be the ones given before."
pub given-before : (orders : List AuctionOrder) (reference : ℕ) (volumes buyers sellers : List ℕ)
    → leb max_orders (length volumes) ≡ (leb max_orders (length buyers) && leb max_orders (length sellers))
    → auction_in_one orders reference volumes ≡ auction orders reference buyers sellers
unfolding auction_in_one auction refusal
given-before orders reference volumes buyers sellers e =
    rw (same-fit (leb (length orders) max_orders) (leb max_orders (length volumes)) (leb max_orders (length buyers)) (leb max_orders (length sellers)) e)

abbrev pub zeros : ℕ → List ℕ
zeros k = replicate k 0

-- zeros behind a list change nothing that is read from it
zeros-read : (k i : ℕ) → get_or (zeros k) i 0 ≡ 0
zeros-read zero i = refl
zeros-read (suc k) zero = refl
zeros-read (suc k) (suc i) = zeros-read k i

zeros-behind : (xs : List ℕ) (k i : ℕ) → get_or (xs ++ zeros k) i 0 ≡ get_or xs i 0
zeros-behind [] k i = zeros-read k i
zeros-behind (x ∷ xs) k zero = refl
zeros-behind (x ∷ xs) k (suc i) = zeros-behind xs k i

-- the volume of a place is that of its line
pub place-volume : (orders : List AuctionOrder) (o : AuctionOrder) → place_volume orders o ≡ volume_of (place_line orders o)
unfolding place_volume place_line
place-volume orders o = go (is_limit o)
  where
    go : (t : Bool) → cond t (volume_of (line_at orders o.price)) 0 ≡ volume_of (cond t (line_at orders o.price) (empty_line 0))
    go true = refl
    go false = refl

module _ (orders : List AuctionOrder) (volumes : List ℕ) where
  -- the order at a place, and what the list holds there after the call
  abbrev at : ℕ → AuctionOrder
  at i = get_or orders i zero_order

  abbrev held : ℕ → ℕ
  held i = get_or (volumes_after orders volumes) i 0

  abbrev Accepted : Type 0
  Accepted = refusal orders volumes volumes ≡ 0

  -- every place is told of: the list is as long as it was
  pub as_long : length (volumes_after orders volumes) ≡ length volumes
  unfolding volumes_in
  as_long = go (eqb (refusal orders volumes volumes) 0) refl
    where
      go : (t : Bool) → eqb (refusal orders volumes volumes) 0 ≡ t → length (cond t (volumes_in orders volumes) volumes) ≡ length volumes
      go true e =
          let fits = lists-fit orders volumes volumes (eqb-true (refusal orders volumes volumes) 0 e) in
          let k : ℕ = length volumes - length orders in
          omega (arith, length-append (map (place_volume orders) orders) (zeros k), length-map orders (place_volume orders), length-replicate {A = ℕ} k 0, fits.0, fits.1)
      go false e = refl

  held_at : Accepted → (i : ℕ) → held i ≡ place_volume orders (at i)
  unfolding volumes_in place_volume
  held_at fits i =
      rw fits (zeros-behind (map (place_volume orders) orders) (length volumes - length orders) i ∙ get_or-map (place_volume orders) orders i zero_order)

  -- "After a call not refused it holds, at each limit's place in the order list, the volume at that price,
  pub volume-held : Accepted → (i : ℕ) → is_limit (at i) ≡ true → held i ≡ volume_of (line_at orders (at i).price)
  unfolding place_volume
  volume-held fits i limit = held_at fits i ∙ rw limit

  -- and 0 elsewhere": a place behind the orders has no limit either
  pub zero-elsewhere : Accepted → (i : ℕ) → is_limit (at i) ≡ false → held i ≡ 0
  unfolding place_volume
  zero-elsewhere fits i none = held_at fits i ∙ rw none

  pub zero-behind : Accepted → (i : ℕ) → length orders ≤ i → held i ≡ 0
  zero-behind fits i past = zero-elsewhere fits i (ap is_limit (get_or-eq_default orders zero_order past))

  -- two orders of one price hold one volume each
  pub one-price : Accepted → (i j : ℕ) → (at i).price ≡ (at j).price → held i ≡ held j
  unfolding place_volume
  one-price fits i j e = held_at fits i ∙ rw e (sym (held_at fits j))

  -- it is the smaller of the sums that request 5 leaves at the place
  pub smaller-sum : (buyers sellers : List ℕ) → Accepted → refusal orders buyers sellers ≡ 0 → (i : ℕ) → i < length orders
      → held i ≡ min (get_or (buyers_after orders buyers sellers) i 0) (get_or (sellers_after orders buyers sellers) i 0)
  smaller-sum buyers sellers fits fits-two i small =
      held_at fits i
      ∙ place-volume orders (at i)
      ∙ sym (ap (λ (n : ℕ). min n (get_or (sellers_after orders buyers sellers) i 0)) (buyers-held orders 0 buyers sellers fits-two i small)
      ∙ ap (min (place_line orders (at i)).buyers) (sellers-held orders 0 buyers sellers fits-two i small))

  -- a refusal leaves it equal
  pub refusal-leaves-volumes : (reference : ℕ) {n : ℕ} → auction_in_one orders reference volumes ≡ Refused n → volumes_after orders volumes ≡ volumes
  unfolding auction_in_one
  refusal-leaves-volumes reference {n} e =
      let its = refusal_of orders reference volumes volumes e in
      rw (its.0, ne_eqb n 0 its.1)

  -- what is read off the list agrees with the answer: the price given has its volume there, no place has more, and with none every place has 0
  module _ (reference : ℕ) where
    pub price-volume : {p v : ℕ} → auction_in_one orders reference volumes ≡ Price p v → (i : ℕ) → is_limit (at i) ≡ true → (at i).price ≡ p → held i ≡ v
    unfolding auction_in_one
    price-volume e i limit same =
        volume-held (accepted orders reference volumes volumes (λ f. omega (arith, f, ap variant_of e))) i limit
        ∙ ap (λ (q : ℕ). volume_of (line_at orders q)) same ∙ sym (price-unbeaten orders reference volumes volumes e).volume

    most : Accepted → (v : ℕ) → ((q : ℕ) → Among q (candidates orders) → volume_of (line_at orders q) ≤ v) → (i : ℕ) → held i ≤ v
    most fits v bound i = go (is_limit (at i)) refl (ltb i (length orders)) refl
      where
        go : (t : Bool) → is_limit (at i) ≡ t → (u : Bool) → ltb i (length orders) ≡ u → held i ≤ v
        go true limit true small =
            let among : Among (at i) orders = read orders i zero_order (ltb-true i (length orders) small) in
            omega (arith, volume-held fits i limit, bound (at i).price (candidate-of orders (record { order = at i; among = among; limit = limit; price = refl })))
        go true limit false past = omega (arith, zero-behind fits i (ltb-false i (length orders) past))
        go false none u _ = omega (arith, zero-elsewhere fits i none)

    pub most-volume : {p v : ℕ} → auction_in_one orders reference volumes ≡ Price p v → (i : ℕ) → held i ≤ v
    unfolding auction_in_one beats
    most-volume {p} {v} e =
        let its : Projected orders reference p v = price-unbeaten orders reference volumes volumes e in
        most (accepted orders reference volumes volumes (λ f. omega (arith, f, ap variant_of e))) v
        (λ q among. omega (arith, its.volume, ltb-false (volume_of (line_at orders p)) (volume_of (line_at orders q)) (or_parts _ _ (its.none-beats q among)).0))

    pub none-zeros : auction_in_one orders reference volumes ≡ None → (i : ℕ) → held i ≡ 0
    unfolding auction_in_one
    none-zeros e i =
        let without : NoVolume orders = none-without-volume orders reference volumes volumes e in
        omega (arith, most (accepted orders reference volumes volumes (λ f. omega (arith, f, ap variant_of e))) 0 (λ q among. omega (arith, without q among)) i)

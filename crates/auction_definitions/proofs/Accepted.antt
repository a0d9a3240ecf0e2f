-- What holds of a list of orders that is not refused, and what the scratch lists then hold.
-- Assumes nothing.
use mathlib.Core.Bool.{Bool, true, false, cond, not, ◌&&◌, ◌||◌}
use mathlib.Core.List.{List, [], ◌∷◌, map}
use mathlib.Core.Path.{◌≡◌, refl, sym, ◌∙◌, subst}
use Prim.Native.Nat.{ℕ, ◌+◌, ◌*◌, ◌≤◌, ◌<◌}
use lib.Dec.{leb, ltb}
use lib.ListN.{length, get_or, drop, length-map, get_or-append, get_or-map}
use lib.Seq.{drop_at}
use borrow.Author.Tests.{leb-true}
use native.Mathlib.Omega.{arith}
use Rattle.ladder.specs.Ladder.{legal}
use Rattle.definitions.specs.Codes.{max_volume, sell}
use Rattle.definitions.specs.Lists.{any, first_met}
use Rattle.definitions.proofs.Tests.{and_parts, never, or_parts, or-second}
use Rattle.auction_definitions.specs.declared.AuctionOrder.{AuctionOrder}
use Rattle.auction_definitions.specs.declared.Line.{Line}
use Rattle.auction_definitions.specs.Auction.{bad_order, empty_line, is_auction, is_limit, lists_fit, max_orders, place_line, refusal, sum_of, sums_in}
use Rattle.auction_definitions.specs.Current.{zero_order}

pub good-limit : (o : AuctionOrder) → is_limit o ≡ true → bad_order o ≡ false → legal o.price ≡ true
unfolding bad_order
good-limit o = go (ltb sell o.side) (is_auction o) (legal o.price) (not (leb 1 o.volume && leb o.volume max_volume))
  where
    go : (side auction price volume : Bool) → not auction ≡ true → (side || not (auction || price) || volume) ≡ false → price ≡ true
    go side true price volume limit good = never limit refl
    go true false price volume limit good = never refl good
    go false false true volume limit good = refl
    go false false false volume limit good = never refl good

pub good-volume : (o : AuctionOrder) → bad_order o ≡ false → o.volume ≤ max_volume
unfolding bad_order
good-volume o = go (ltb sell o.side) (is_auction o || legal o.price) (leb 1 o.volume) (leb o.volume max_volume) refl
  where
    go : (side price above below : Bool) → leb o.volume max_volume ≡ below → (side || not price || not (above && below)) ≡ false → o.volume ≤ max_volume
    go side price above true e good = leb-true o.volume max_volume e
    go side price true false e good = never (or-second (side || not price) refl) good
    go side price false false e good = never (or-second (side || not price) refl) good

pub sum_bound : (t : AuctionOrder → Bool) (os : List AuctionOrder) → any bad_order os ≡ false → sum_of t os ≤ length os * max_volume
unfolding sum_of any
sum_bound t [] good = omega arith
sum_bound t (o ∷ os) good =
    let parts : (bad_order o ≡ false) × (any bad_order os ≡ false) = or_parts (bad_order o) (any bad_order os) good in
    go (t o) (good-volume o parts.0) (sum_bound t os parts.1)
  where
    go : (b : Bool) → o.volume ≤ max_volume → sum_of t os ≤ length os * max_volume → cond b o.volume 0 + sum_of t os ≤ length (o ∷ os) * max_volume
    go true one rest = omega (arith, one, rest)
    go false one rest = omega (arith, one, rest)

-- the lists fit: how long they are
pub sizes : (o b s : ℕ) → lists_fit o b s ≡ true → (o ≤ max_orders) × (max_orders ≤ b) × (max_orders ≤ s)
sizes o b s e =
    let parts = and_parts (leb o max_orders && leb max_orders b) (leb max_orders s) e in
    let both = and_parts (leb o max_orders) (leb max_orders b) parts.0 in
    (leb-true o max_orders both.0, leb-true max_orders b both.1, leb-true max_orders s parts.1)

module _ (orders : List AuctionOrder) (buyers sellers : List ℕ) where
  pub none-bad : refusal orders buyers sellers ≡ 0 → any bad_order orders ≡ false
  unfolding refusal first_met
  none-bad = go (not (lists_fit (length orders) (length buyers) (length sellers))) (any bad_order orders)
    where
      go : (a b : Bool) → first_met ((14, a) ∷ (15, b) ∷ []) ≡ 0 → b ≡ false
      go true b e = absurd (omega (arith, e))
      go false true e = absurd (omega (arith, e))
      go false false e = refl

  pub lists-fit : refusal orders buyers sellers ≡ 0 → (length orders ≤ max_orders) × (max_orders ≤ length buyers) × (max_orders ≤ length sellers)
  unfolding refusal first_met
  lists-fit e =
      sizes (length orders) (length buyers) (length sellers) (go (lists_fit (length orders) (length buyers) (length sellers)) (any bad_order orders) e)
    where
      go : (a b : Bool) → first_met ((14, not a) ∷ (15, b) ∷ []) ≡ 0 → a ≡ true
      go true b e = refl
      go false b e = absurd (omega (arith, e))

pub sums-held : (sum : Line → ℕ) (orders : List AuctionOrder) (scratch : List ℕ) (i : ℕ) → i < length orders → sum (empty_line 0) ≡ 0
    → get_or (sums_in sum orders scratch) i 0 ≡ sum (place_line orders (get_or orders i zero_order))
unfolding sums_in place_line
sums-held sum orders scratch i small none =
    get_or-append (map (λ o. sum (place_line orders o)) orders) (drop (length orders) scratch) 0 i (subst (λ (n : ℕ). i < n) (sym (length-map orders (λ o. sum (place_line orders o)))) small)
    ∙ subst (λ (d : ℕ). get_or (map (λ o. sum (place_line orders o)) orders) i d ≡ sum (place_line orders (get_or orders i zero_order))) none (get_or-map (λ o. sum (place_line orders o)) orders i zero_order)

pub sums-behind : (sum : Line → ℕ) (orders : List AuctionOrder) (scratch : List ℕ) → drop (length orders) (sums_in sum orders scratch) ≡ drop (length orders) scratch
unfolding sums_in
sums-behind sum orders scratch =
    drop_at (map (λ o. sum (place_line orders o)) orders) (drop (length orders) scratch) (length orders) (length-map orders (λ o. sum (place_line orders o)))

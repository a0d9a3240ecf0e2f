-- What each way out of `add` and `take` leaves is what the contract says. No memory.
--     Promised c reference l r l'      of the call c on what was lent, l: the answer r, and what is left, l'
--     refused-alike    where the count fits, the place is below it and no order is bad but among those then held, request 6 refuses these as request 7 refuses the call
--     left-refused     a refusal that is met leaves what was lent.        kept-unfit, kept-bad     so with 14 and with 15, before the price is worked out
--     worked-refused, worked-done      the price is worked out: what is left where it refuses, once the list is put back, and where it does not.        fit-lists    request 6 finds both lists long enough
-- `Added` and `Taken` have the list of either call, which these are handed.
-- Assumes nothing.
use mathlib.Core.Bool.{Bool, true, false, cond}
use mathlib.Core.List.{List}
use mathlib.Core.Path.{◌≡◌, refl, sym, ap, subst, ◌∙◌}
use Prim.Native.Nat.{ℕ, ◌≤◌}
use native.Mathlib.Omega.{arith}
use lib.Dec.{leb, eqb}
use lib.ListN.{length, take}
use borrow.Author.Tests.{le-leb}
use Rattle.definitions.specs.Lists.{any, first_met}
use Rattle.definitions.proofs.Tests.{and-whole}
use Rattle.auction_definitions.specs.Answers.{AuctionAnswer, Refused}
use Rattle.auction_definitions.specs.declared.AuctionOrder.{AuctionOrder}
use Rattle.auction_definitions.specs.Auction.{auction, bad_order, lists_fit, max_orders, refusal}
use Rattle.auction_definitions.specs.Volumes.{auction_in_one, volumes_after, volumes_in}
use Rattle.auction_definitions.specs.Current.{Call, Lent, asked, beyond, call_answer, call_refusal, changed, fits, held, is_refused, lent, lent_after, lent_of, list_of}
use Rattle.auction_list.specs.Gaps.{zero_from}
use Rattle.auction_current.proofs.Held.{met, none-met}

abbrev pub Promised : Call → ℕ → Lent → AuctionAnswer → Lent → Type 0
Promised c reference l r l' = (r ≡ call_answer c reference l) × (l' ≡ lent_after c l)

module _ (c : Call) (reference : ℕ) (l : Lent) where
  abbrev vs : List ℕ
  vs = l.volumes

  abbrev after : List AuctionOrder
  after = changed c (held l)

  -- a refusal that is met leaves what was lent
  pub left-refused : (n : ℕ) → eqb n 0 ≡ false → call_refusal c l ≡ n → Promised c reference l (Refused n) l
  unfolding call_answer lent_after
  left-refused n some e = (rw (e, some), rw (e, some))

  pub kept-unfit : fits c l.count (length l.orders) (length vs) ≡ false → Promised c reference l (Refused 14) l
  unfolding call_refusal first_met
  kept-unfit unfit = left-refused 14 refl (rw unfit)

  pub kept-bad : fits c l.count (length l.orders) (length vs) ≡ true → any bad_order (asked c (held l)) ≡ true → Promised c reference l (Refused 15) l
  unfolding call_refusal first_met
  kept-bad fit bad = left-refused 15 refl (rw (fit, bad))

  pub refused-alike : fits c l.count (length l.orders) (length vs) ≡ true → beyond c l.count ≡ false → any bad_order (asked c (held l)) ≡ any bad_order after → lists_fit (length after) (length vs) (length vs) ≡ true
      → refusal after vs vs ≡ call_refusal c l
  unfolding refusal call_refusal first_met
  refused-alike fit near same lists = rw (fit, near, same, lists)

  module _ (r : AuctionAnswer) (e : r ≡ auction_in_one after reference vs) (same : refusal after vs vs ≡ call_refusal c l) where
    kept-refused : eqb (refusal after vs vs) 0 ≡ false → Promised c reference l r l
    unfolding call_answer lent_after auction_in_one auction
    kept-refused met = (e ∙ rw (← same, met), rw (← same, met))

    kept-done : eqb (refusal after vs vs) 0 ≡ true → Promised c reference l r (lent_of (length l.orders) after vs)
    unfolding call_answer lent_after
    kept-done none = (e ∙ rw (← same, none), rw (← same, none))

-- the price is worked out of the first k orders of ys, which are those held after the call: what is left where it refuses, once the list is put back, and where it does not
module _ (c : Call) (reference : ℕ) (l : Lent) (k : ℕ) (ys : List AuctionOrder) (front : take k ys ≡ changed c (held l)) (short : length (changed c (held l)) ≡ k) (long : length ys ≡ length l.orders)
    (same : refusal (changed c (held l)) l.volumes l.volumes ≡ call_refusal c l)
    (r : AuctionAnswer) (zs : List AuctionOrder) (ws : List ℕ) (e : r ≡ auction_in_one (take k ys) reference l.volumes)
    (list : zs ≡ cond (eqb (refusal (take k ys) l.volumes l.volumes) 0) (zero_from k ys) ys) (scratch : ws ≡ volumes_after (take k ys) l.volumes) where
  abbrev refusal_of : List AuctionOrder → ℕ
  refusal_of os = refusal os l.volumes l.volumes

  answer : r ≡ auction_in_one (changed c (held l)) reference l.volumes
  answer = e ∙ ap (λ (os : List AuctionOrder). auction_in_one os reference l.volumes) front

  pub worked-refused : (back : List AuctionOrder → List AuctionOrder) → back ys ≡ l.orders → is_refused r ≡ true → Promised c reference l r (lent (back zs) l.count ws)
  worked-refused back put refused =
      let some : eqb (refusal_of (take k ys)) 0 ≡ false = met (take k ys) reference l.volumes r e refused in
      let left : Promised c reference l r l = kept-refused c reference l r answer same (subst (λ (os : List AuctionOrder). eqb (refusal_of os) 0 ≡ false) front some) in
      let list_back : back zs ≡ l.orders = ap back (list ∙ ap (λ (t : Bool). cond t (zero_from k ys) ys) some) ∙ put in
      let scratch-back : ws ≡ l.volumes = scratch ∙ ap (λ (t : Bool). cond t (volumes_in (take k ys) l.volumes) l.volumes) some in
      (left.0, (λ i. lent (list_back i) l.count (scratch-back i)) ∙ left.1)

  pub worked-done : is_refused r ≡ false → Promised c reference l r (lent zs k ws)
  unfolding lent_of list_of zero_from
  worked-done fine =
      let none : eqb (refusal_of (take k ys)) 0 ≡ true = none-met (take k ys) reference l.volumes r e fine in
      let left = kept-done c reference l r answer same (subst (λ (os : List AuctionOrder). eqb (refusal_of os) 0 ≡ true) front none) in
      let list_left : zs ≡ list_of (length l.orders) (changed c (held l)) = list ∙ ap (λ (t : Bool). cond t (zero_from k ys) ys) none ∙ rw (front, long, short) in
      let scratch-left : ws ≡ volumes_in (changed c (held l)) l.volumes = scratch ∙ ap (λ (t : Bool). cond t (volumes_in (take k ys) l.volumes) l.volumes) none ∙ ap (λ (os : List AuctionOrder). volumes_in os l.volumes) front in
      (left.0, (λ i. lent (list_left i) (sym short i) (scratch-left i)) ∙ left.1)

pub fit-lists : (k : ℕ) (os : List AuctionOrder) (vs : List ℕ) → length os ≡ k → k ≤ max_orders → max_orders ≤ length vs → lists_fit (length os) (length vs) (length vs) ≡ true
fit-lists k os vs short few long = let all : leb max_orders (length vs) ≡ true = le-leb max_orders (length vs) long in and-whole (and-whole (le-leb (length os) max_orders (omega (arith, short, few))) all) all

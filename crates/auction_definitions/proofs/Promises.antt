-- Request 5 of paper 02 as theorems, a sentence each, over `auction`, which the code's contracts name (crates/auction). What they rest on: StrictOrder (`beats`),
-- Projected (the price that none beats), Accepted (a list that is not refused), AnyOrder (a list in another order).
-- Assumes nothing.
use mathlib.Core.Bool.{Bool, true, false, cond}
use mathlib.Core.List.{List, [], ◌∷◌}
use mathlib.Core.Path.{◌≡◌, refl, sym, ◌∙◌, ap, subst}
use Prim.Native.Nat.{ℕ, ◌≤◌, ◌<◌}
use lib.Dec.{eqb}
use lib.ListN.{length, get_or, drop}
use borrow.Author.Tests.{eqb-false, eqb-true, ne_eqb, not-true}
use native.Mathlib.Omega.{arith}
use Rattle.ladder.specs.Ladder.{legal}
use Rattle.definitions.proofs.Refused.{FoundFirst, first_found, found_first}
use Rattle.auction_definitions.specs.declared.AuctionOrder.{AuctionOrder}
use Rattle.auction_definitions.specs.declared.Line.{Line}
use Rattle.auction_definitions.specs.Answers.{AuctionAnswer, Price, None, Refused}
use Rattle.auction_definitions.specs.Auction.{auction, bad_order, beats, buyers_after, conditions, given, is_auction, place_line, refusal, sellers_after, sum_of, sums_in, traded}
use Rattle.auction_definitions.specs.Current.{zero_order}
use Rattle.auction_definitions.proofs.StrictOrder as order
use Rattle.auction_definitions.proofs.Among.{none_of}
use Rattle.auction_definitions.proofs.Limits.{LimitAt, limit-of}
use Rattle.auction_definitions.proofs.Permuted.{Permuted}
use Rattle.auction_definitions.proofs.Projected.{NoVolume, Projected, given-none, given-price, none-given, only_one, price-given, variant_of}
use Rattle.auction_definitions.proofs.Accepted.{good-limit, lists-fit, none-bad, sum_bound, sums-behind, sums-held}
use Rattle.auction_definitions.proofs.AnyOrder.{given-permuted, refusal-permuted}

-- "Beats" is a strict order, and total on different prices
pub irreflexive : (reference : ℕ) (l : Line) → beats reference l l ≡ false
irreflexive = order.irreflexive

pub transitive : (reference : ℕ) (l m n : Line) → beats reference l m ≡ true → beats reference m n ≡ true → beats reference l n ≡ true
transitive = order.transitive

pub total : (reference : ℕ) (l m : Line) → (l.price ≡ m.price → ⊥) → beats reference l m ≡ false → beats reference m l ≡ true
total reference = (order.beats-strict reference).total

abbrev number_of : AuctionAnswer → ℕ
number_of (Price p v) = 0
number_of None = 0
number_of (Refused n) = n

never-refused : (reference : ℕ) (ls : List Line) → variant_of (given reference ls) ≡ 2 → ⊥
never-refused reference [] e = omega (arith, e)
never-refused reference (l ∷ ls) e = omega (arith, e)

module _ (orders : List AuctionOrder) (reference : ℕ) (buyers sellers : List ℕ) where
  abbrev answer : AuctionAnswer
  answer = auction orders reference buyers sellers

  -- nothing is refused where an answer is a price or none
  not-refused : (t : Bool) → eqb (refusal orders buyers sellers) 0 ≡ t → (variant_of answer ≡ 2 → ⊥) → refusal orders buyers sellers ≡ 0
  unfolding auction
  not-refused true e other = eqb-true (refusal orders buyers sellers) 0 e
  not-refused false e other = absurd (other (rw e))

  given-at-0 : refusal orders buyers sellers ≡ 0 → answer ≡ given reference (traded orders)
  unfolding auction
  given-at-0 e = rw e

  pub accepted : (variant_of answer ≡ 2 → ⊥) → refusal orders buyers sellers ≡ 0
  accepted = not-refused (eqb (refusal orders buyers sellers) 0) refl

  -- "It is shown that no candidate beats the one given": the price given is a candidate with volume above 0 that none beats, and the only one
  pub price-unbeaten : {p v : ℕ} → answer ≡ Price p v → Projected orders reference p v
  price-unbeaten e = given-price orders reference (sym (given-at-0 (accepted (λ f. omega (arith, f, ap variant_of e)))) ∙ e)

  pub unbeaten-given : {p v : ℕ} → refusal orders buyers sellers ≡ 0 → Projected orders reference p v → answer ≡ Price p v
  unbeaten-given fits its = given-at-0 fits ∙ price-given orders reference its

  pub the-only-one : {p v q w : ℕ} → Projected orders reference p v → Projected orders reference q w → (p ≡ q) × (v ≡ w)
  the-only-one = only_one orders reference

  -- "No candidate with volume above 0 gives "none", and then only."
  pub none-without-volume : answer ≡ None → NoVolume orders
  none-without-volume e = given-none orders reference (sym (given-at-0 (accepted (λ f. omega (arith, f, ap variant_of e)))) ∙ e)

  pub without-volume-none : refusal orders buyers sellers ≡ 0 → NoVolume orders → answer ≡ None
  without-volume-none fits without = given-at-0 fits ∙ none-given orders reference without

  pub refusal_of : {n : ℕ} → answer ≡ Refused n → (refusal orders buyers sellers ≡ n) × (n ≡ 0 → ⊥)
  unfolding auction
  refusal_of {n} = go (eqb (refusal orders buyers sellers) 0) refl
    where
      go : (t : Bool) → eqb (refusal orders buyers sellers) 0 ≡ t
          → cond t (given reference (traded orders)) (Refused (refusal orders buyers sellers)) ≡ Refused n → (refusal orders buyers sellers ≡ n) × (n ≡ 0 → ⊥)
      go true e f = absurd (never-refused reference (traded orders) (ap variant_of f))
      go false e f = (ap number_of f, λ z. eqb-false (refusal orders buyers sellers) 0 e (ap number_of f ∙ z))

  -- "Turned away: 14 .., first; 15 ..": a refusal is the condition found first, and the other way round
  pub refused-first : {n : ℕ} → answer ≡ Refused n → FoundFirst n (conditions orders buyers sellers)
  unfolding refusal
  refused-first {n} e = found_first n (conditions orders buyers sellers) (refusal_of e).0 (refusal_of e).1

  pub first-refused : {n : ℕ} → (n ≡ 0 → ⊥) → FoundFirst n (conditions orders buyers sellers) → answer ≡ Refused n
  unfolding auction refusal
  first-refused {n} some found = rw (first_found n (conditions orders buyers sellers) found, ne_eqb n 0 some)

  -- "a refusal leaves them equal"
  pub refusal-leaves : {n : ℕ} → answer ≡ Refused n → (buyers_after orders buyers sellers ≡ buyers) × (sellers_after orders buyers sellers ≡ sellers)
  refusal-leaves {n} e = rw ((refusal_of e).0, ne_eqb n 0 (refusal_of e).1) (refl, refl)

  -- the price given is above 0, so that its numbers are not those of none
  pub price-above-0 : {p v : ℕ} → answer ≡ Price p v → 0 < p
  price-above-0 {p} e =
      let its : LimitAt orders p = limit-of orders (price-unbeaten e).candidate in
      omega (arith, its.price, eqb-false its.order.price 0 (not-true (is_auction its.order) its.limit))

  -- and legal
  pub price-legal : {p v : ℕ} → answer ≡ Price p v → legal p ≡ true
  price-legal {p} e =
      let its : LimitAt orders p = limit-of orders (price-unbeaten e).candidate in
      let fits : refusal orders buyers sellers ≡ 0 = accepted (λ f. omega (arith, f, ap variant_of e)) in
      subst (λ (q : ℕ). legal q ≡ true) (sym its.price)
      (good-limit its.order its.limit (none_of bad_order its.order orders (none-bad orders buyers sellers fits) its.among))

  -- a sum of the orders' volumes is at most 1,024 times 20,000,000, and so are both sums of a line and its volume: far below 2 ^ 64
  pub sums-fit : refusal orders buyers sellers ≡ 0 → (t : AuctionOrder → Bool) → sum_of t orders ≤ 20_480_000_000
  sums-fit fits t = omega (arith, sum_bound t orders (none-bad orders buyers sellers fits), (lists-fit orders buyers sellers fits).0)

  -- what the scratch lists hold: at each order's place the sums of its line
  pub buyers-held : refusal orders buyers sellers ≡ 0 → (i : ℕ) → i < length orders → get_or (buyers_after orders buyers sellers) i 0 ≡ (place_line orders (get_or orders i zero_order)).buyers
  buyers-held fits i small = rw fits (sums-held (λ l. l.buyers) orders buyers i small refl)

  pub sellers-held : refusal orders buyers sellers ≡ 0 → (i : ℕ) → i < length orders → get_or (sellers_after orders buyers sellers) i 0 ≡ (place_line orders (get_or orders i zero_order)).sellers
  sellers-held fits i small = rw fits (sums-held (λ l. l.sellers) orders sellers i small refl)

  behind : (sum : Line → ℕ) (scratch : List ℕ) (t : Bool) → drop (length orders) (cond t (sums_in sum orders scratch) scratch) ≡ drop (length orders) scratch
  behind sum scratch true = sums-behind sum orders scratch
  behind sum scratch false = refl

  -- and behind the orders what they held
  pub buyers-behind : drop (length orders) (buyers_after orders buyers sellers) ≡ drop (length orders) buyers
  buyers-behind = behind (λ l. l.buyers) buyers (eqb (refusal orders buyers sellers) 0)

  pub sellers-behind : drop (length orders) (sellers_after orders buyers sellers) ≡ drop (length orders) sellers
  sellers-behind = behind (λ l. l.sellers) sellers (eqb (refusal orders buyers sellers) 0)

-- the order of the list does not matter
pub any_order : {orders others : List AuctionOrder} (reference : ℕ) (buyers sellers : List ℕ) → Permuted orders others
    → auction orders reference buyers sellers ≡ auction others reference buyers sellers
unfolding auction
any_order reference buyers sellers permuted = rw (refusal-permuted buyers sellers permuted, given-permuted reference permuted)

-- What `price` and `price_and_volumes` promise where they end: the lists do not fit, a bad order was met, or every place was passed.
-- Assumes nothing.
use mathlib.Core.Bool.{Bool, true, false, cond}
use mathlib.Core.List.{List, [], ◌∷◌, ◌++◌, map}
use mathlib.Core.Path.{◌≡◌, refl, sym, ◌∙◌, ap}
use Prim.Native.Nat.{ℕ, ◌-◌, ◌≤◌}
use native.Mathlib.Omega.{arith}
use lib.Dec.{eqb}
use lib.ListN.{length, set, take, drop, replicate, length-map, length-set}
use lib.Seq.{take_at}
use borrow.Rule.Slice.PartMut.{put_mid}
use Rattle.std.specs.Prelude.{Option, is_some}
use Rattle.std.specs.declared.option.Option.TheVariants as option
use Rattle.definitions.specs.Lists.{any, first_met}
use Rattle.auction_definitions.specs.declared.AuctionOrder.{AuctionOrder}
use Rattle.auction_definitions.specs.declared.Line.{Line}
use Rattle.auction_definitions.specs.Answers.{AuctionAnswer, Refused}
use Rattle.auction_definitions.specs.Auction.{auction, bad_order, buyers_after, empty_line, lists_fit, place_line, refusal, sellers_after, sums_in, volume_of}
use Rattle.auction_definitions.specs.Volumes.{auction_in_one, place_volume, volumes_after, volumes_in}
use Rattle.auction_definitions.proofs.Accepted.{sizes}
use Rattle.auction_definitions.proofs.VolumePromises.{place-volume, zeros}
use Rattle.auction_lines.specs.Lines.{answer_of}
use Rattle.auction_lines.proofs.Cleared.{cleared}
use Rattle.auction.specs.Turns.{Passed, best_after, cleared_from}
use Rattle.auction.proofs.Chosen.{chosen}
use Rattle.auction.proofs.Laws.{filled-whole, stays}

module _ (orders : List AuctionOrder) (reference : ℕ) (buyers sellers : List ℕ) where
  abbrev fit : Bool
  fit = lists_fit (length orders) (length buyers) (length sellers)

  refusal-0 : fit ≡ true → any bad_order orders ≡ false → refusal orders buyers sellers ≡ 0
  unfolding refusal first_met
  refusal-0 fits none = rw (fits, none)

  refusal-14 : fit ≡ false → refusal orders buyers sellers ≡ 14
  unfolding refusal first_met
  refusal-14 unfit = rw unfit

  refusal-15 : fit ≡ true → any bad_order orders ≡ true → refusal orders buyers sellers ≡ 15
  unfolding refusal first_met
  refusal-15 fits some = rw (fits, some)

  -- a refusal's number is the answer
  refused : {n : ℕ} → refusal orders buyers sellers ≡ n → eqb n 0 ≡ false → Refused n ≡ auction orders reference buyers sellers
  unfolding auction
  refused e above = rw (e, above)

  -- every place was passed
  answered : fit ≡ true → any bad_order orders ≡ false → {best : Line} → best ≡ best_after reference orders (empty_line 0) orders
      → (refusal orders buyers sellers ≡ 0) × (answer_of (option.Some best) ≡ auction orders reference buyers sellers)
  unfolding auction
  answered fits good whole =
      let none : refusal orders buyers sellers ≡ 0 = refusal-0 fits good in
      (none, ap (λ (l : Line). answer_of (option.Some l)) whole ∙ chosen reference orders ∙ rw none)

  -- what `price` promises, of an answer and the two lists left
  abbrev pub Promised : AuctionAnswer → List ℕ → List ℕ → Type 0
  Promised answer bs ss = (answer ≡ auction orders reference buyers sellers) × (bs ≡ buyers_after orders buyers sellers) × (ss ≡ sellers_after orders buyers sellers)

  left : {n : ℕ} → refusal orders buyers sellers ≡ n → eqb n 0 ≡ false → (buyers ≡ buyers_after orders buyers sellers) × (sellers ≡ sellers_after orders buyers sellers)
  left e above = rw (e, above) (refl, refl)

  -- the lists do not fit
  pub promised-unfit : fit ≡ false → Promised (Refused 14) buyers sellers
  promised-unfit unfit = let kept = left (refusal-14 unfit) refl in (refused (refusal-14 unfit) refl, kept.0, kept.1)

  -- a bad order is held: nothing was stored
  pub promised-bad : fit ≡ true → any bad_order orders ≡ true → Promised (answer_of option.None) buyers sellers
  unfolding answer_of
  promised-bad fits bad = let kept = left (refusal-15 fits bad) refl in (refused (refusal-15 fits bad) refl, kept.0, kept.1)

  -- every place was passed, and its sums stored
  pub promised : fit ≡ true → any bad_order orders ≡ false → {best : Line} → best ≡ best_after reference orders (empty_line 0) orders
      → {bs ss : List ℕ} → bs ≡ sums_in (λ l. l.buyers) orders buyers → ss ≡ sums_in (λ l. l.sellers) orders sellers → Promised (answer_of (option.Some best)) bs ss
  promised fits good whole bs ss = let given = answered fits good whole in (given.1, bs ∙ rw given.0, ss ∙ rw given.0)

  -- what the loops leave, over what has the two lists
  module _ {S : Type 0} (store : S → ℕ → Line → S) (buyers_of sellers_of : S → List ℕ)
      (buyers-set : (s : S) (i : ℕ) (l : Line) → buyers_of (store s i l) ≡ set (buyers_of s) i l.buyers) (sellers-set : (s : S) (i : ℕ) (l : Line) → sellers_of (store s i l) ≡ set (sellers_of s) i l.sellers)
      (old new : S) (buyers-lent : buyers_of old ≡ buyers) (sellers-lent : sellers_of old ≡ sellers) (fits : fit ≡ true) where
    pub passed : (best : Option Line) → Passed store orders reference old new best → Promised (answer_of best) (buyers_of new) (sellers_of new)
    passed option.None at = let its = promised-bad fits at.0 in (its.0, ap buyers_of at.1 ∙ buyers-lent ∙ its.1, ap sellers_of at.1 ∙ sellers-lent ∙ its.2)
    passed (option.Some best) at =
        let long = sizes (length orders) (length buyers) (length sellers) fits in
        let sum_buyers : Line → ℕ = λ l. l.buyers in
        let sum_sellers : Line → ℕ = λ l. l.sellers in
        promised fits at.0 at.1
        (ap buyers_of at.2 ∙ filled-whole orders store old buyers_of sum_buyers buyers-set (omega (arith, long, ap length buyers-lent)) ∙ ap (sums_in sum_buyers orders) buyers-lent)
        (ap sellers_of at.2 ∙ filled-whole orders store old sellers_of sum_sellers sellers-set (omega (arith, long, ap length sellers-lent)) ∙ ap (sums_in sum_sellers orders) sellers-lent)

-- a part that no store changes is as it was, whichever way the loops end
pub same-part : {S A : Type 0} (store : S → ℕ → Line → S) (part : S → A) → ((s : S) (i : ℕ) (l : Line) → part (store s i l) ≡ part s)
    → (orders : List AuctionOrder) (reference : ℕ) (old new : S) (best : Option Line) → Passed store orders reference old new best → part new ≡ part old
same-part store part kept orders reference old new option.None passed = ap part passed.1
same-part store part kept orders reference old new (option.Some best) passed = ap part passed.2 ∙ stays orders store old part kept (length orders)

-- the list behind a reference that is as it was is what the reference was left with
pub given-back : {N A : Type 0} {name was : N} {given list left : A} → name ≡ was → (was ≡ name → given ≡ list) → list ≡ left → given ≡ left
given-back same back e = back (sym same) ∙ e

module _ {N : Type 0} {name was : N} {given left vs : List ℕ} {found : Bool} (same : name ≡ was) (back : was ≡ name → given ≡ left) where
  pub given-cleared : {zs : List ℕ} (count : ℕ) → true ≡ found → vs ≡ put_mid count (length given - count) given zs → zs ≡ replicate (length (take (length given - count) (drop count given))) 0 → count ≤ length given
      → vs ≡ cond found (cleared_from count left) left
  unfolding cleared_from
  given-cleared {zs} count some e zeroed within =
      e ∙ cleared count given zs 0 (omega arith) zeroed ∙ ap (λ (l : List ℕ). take count l ++ replicate (length l - count) 0) (back (sym same)) ∙ ap (λ (t : Bool). cond t (cleared_from count left) left) some

  pub given-kept : (cleared : List ℕ) → false ≡ found → vs ≡ given → vs ≡ cond found cleared left
  given-kept cleared none e = e ∙ back (sym same) ∙ ap (λ (t : Bool). cond t cleared left) none

map_same : (f g : AuctionOrder → ℕ) → ((o : AuctionOrder) → f o ≡ g o) → (os : List AuctionOrder) → map f os ≡ map g os
map_same f g same [] = refl
map_same f g same (o ∷ os) = rw (same o, map_same f g same os)

-- what `price_and_volumes` promises, of an answer and the one list left
module _ (orders : List AuctionOrder) (reference : ℕ) (volumes : List ℕ) where
  abbrev pub PromisedInOne : AuctionAnswer → List ℕ → Type 0
  PromisedInOne answer vs = (answer ≡ auction_in_one orders reference volumes) × (vs ≡ volumes_after orders volumes)

  refused-in-one : {n : ℕ} → refusal orders volumes volumes ≡ n → eqb n 0 ≡ false → PromisedInOne (Refused n) volumes
  unfolding auction_in_one
  refused-in-one e above = (refused orders reference volumes volumes e above, rw (e, above))

  pub promised-unfit-in-one : fit orders reference volumes volumes ≡ false → PromisedInOne (Refused 14) volumes
  promised-unfit-in-one unfit = refused-in-one (refusal-14 orders reference volumes volumes unfit) refl

  -- what stands behind the orders is cleared
  cleared-whole : {vs : List ℕ} → vs ≡ sums_in volume_of orders volumes → length vs ≡ length volumes → cleared_from (length orders) vs ≡ volumes_in orders volumes
  unfolding cleared_from volumes_in sums_in
  cleared-whole {vs} whole long =
      let at : AuctionOrder → ℕ = λ o. volume_of (place_line orders o) in
      ap (λ (k : ℕ). take (length orders) vs ++ zeros (k - length orders)) long
      ∙ ap (λ (l : List ℕ). take (length orders) l ++ zeros (length volumes - length orders)) whole
      ∙ ap (λ (l : List ℕ). l ++ zeros (length volumes - length orders)) (take_at (map at orders) (drop (length orders) volumes) (length orders) (length-map orders at) ∙ sym (map_same (place_volume orders) at (place-volume orders) orders))

  pub promised-bad-in-one : fit orders reference volumes volumes ≡ true → any bad_order orders ≡ true → PromisedInOne (answer_of option.None) volumes
  unfolding answer_of
  promised-bad-in-one fits bad = refused-in-one (refusal-15 orders reference volumes volumes fits bad) refl

  pub promised-in-one : fit orders reference volumes volumes ≡ true → any bad_order orders ≡ false → {best : Line} → best ≡ best_after reference orders (empty_line 0) orders
      → {vs : List ℕ} → vs ≡ sums_in volume_of orders volumes → length vs ≡ length volumes → PromisedInOne (answer_of (option.Some best)) (cleared_from (length orders) vs)
  unfolding auction_in_one
  promised-in-one fits good whole list long = let given = answered orders reference volumes volumes fits good whole in (given.1, cleared-whole list long ∙ rw given.0)

  -- what the loops leave, over what has the one list, cleared where they gave a line
  module _ {S : Type 0} (store : S → ℕ → Line → S) (volumes_of : S → List ℕ) (volumes-set : (s : S) (i : ℕ) (l : Line) → volumes_of (store s i l) ≡ set (volumes_of s) i (volume_of l))
      (old new : S) (volumes-lent : volumes_of old ≡ volumes) (fits : fit orders reference volumes volumes ≡ true) where
    pub passed-in-one : (best : Option Line) → Passed store orders reference old new best → {vs : List ℕ} → vs ≡ cond (is_some best) (cleared_from (length orders) (volumes_of new)) (volumes_of new)
        → PromisedInOne (answer_of best) vs
    passed-in-one option.None at e = let its = promised-bad-in-one fits at.0 in (its.0, e ∙ ap volumes_of at.1 ∙ volumes-lent ∙ its.1)
    passed-in-one (option.Some best) at e =
        let long = sizes (length orders) (length volumes) (length volumes) fits in
        let list : volumes_of new ≡ sums_in volume_of orders volumes =
        ap volumes_of at.2 ∙ filled-whole orders store old volumes_of volume_of volumes-set (omega (arith, long, ap length volumes-lent)) ∙ ap (sums_in volume_of orders) volumes-lent in
        let as_long : length (volumes_of new) ≡ length volumes = same-part store (λ s. length (volumes_of s)) (λ s i l. ap length (volumes-set s i l) ∙ length-set (volumes_of s) i (volume_of l)) orders reference old new (option.Some best) at ∙ ap length volumes-lent in
        let its = promised-in-one fits at.0 at.1 list as_long in
        (its.0, e ∙ its.1)

-- What `price_held` leaves, read off whether its answer is a refusal.
-- Assumes nothing.
use mathlib.Core.Bool.{Bool, true, false, cond}
use mathlib.Core.Path.{◌≡◌, refl, sym, ap, ◌∙◌}
use Prim.Native.Nat.{ℕ}
use mathlib.Core.List.{List, [], ◌∷◌}
use lib.Dec.{eqb}
use Rattle.definitions.proofs.Tests.{never}
use Rattle.auction_definitions.specs.Answers.{AuctionAnswer, Refused}
use Rattle.auction_definitions.specs.declared.AuctionOrder.{AuctionOrder}
use Rattle.auction_definitions.specs.declared.Line.{Line}
use Rattle.auction_definitions.specs.Auction.{auction, given, refusal, traded}
use Rattle.auction_definitions.specs.Current.{is_refused}
use Rattle.auction_definitions.specs.Volumes.{auction_in_one}

given-stands : (reference : ℕ) (ls : List Line) → is_refused (given reference ls) ≡ false
given-stands reference [] = refl
given-stands reference (l ∷ ls) = refl

-- the answer is a refusal exactly where a condition is met
refused-is : (os : List AuctionOrder) (reference : ℕ) (vs : List ℕ) → is_refused (auction_in_one os reference vs) ≡ cond (eqb (refusal os vs vs) 0) false true
unfolding auction_in_one auction
refused-is os reference vs = go (eqb (refusal os vs vs) 0)
  where
    go : (met : Bool) → is_refused (cond met (given reference (traded os)) (Refused (refusal os vs vs))) ≡ cond met false true
    go true = given-stands reference (traded os)
    go false = refl

-- whether a price's answer is a refusal says whether a condition is met
pub met : (os : List AuctionOrder) (reference : ℕ) (vs : List ℕ) (r : AuctionAnswer) → r ≡ auction_in_one os reference vs → is_refused r ≡ true → eqb (refusal os vs vs) 0 ≡ false
met os reference vs r e refused = go (eqb (refusal os vs vs) 0) (sym (refused-is os reference vs) ∙ ap is_refused (sym e) ∙ refused)
  where
    go : (t : Bool) → cond t false true ≡ true → t ≡ false
    go true h = never h refl
    go false h = refl

pub none-met : (os : List AuctionOrder) (reference : ℕ) (vs : List ℕ) (r : AuctionAnswer) → r ≡ auction_in_one os reference vs → is_refused r ≡ false → eqb (refusal os vs vs) 0 ≡ true
none-met os reference vs r e fine = go (eqb (refusal os vs vs) 0) (sym (refused-is os reference vs) ∙ ap is_refused (sym e) ∙ fine)
  where
    go : (t : Bool) → cond t false true ≡ false → t ≡ true
    go true h = refl
    go false h = never refl h

module _ (os : List AuctionOrder) (reference : ℕ) (vs : List ℕ) {X : Type 0} (cleared before : X) (r : AuctionAnswer) (e : r ≡ auction_in_one os reference vs) where
  pub held_kept : is_refused r ≡ true → before ≡ cond (eqb (refusal os vs vs) 0) cleared before
  held_kept refused = sym (ap (λ (t : Bool). cond t cleared before) (met os reference vs r e refused))

  pub held-cleared : is_refused r ≡ false → cleared ≡ cond (eqb (refusal os vs vs) 0) cleared before
  held-cleared fine = sym (ap (λ (t : Bool). cond t cleared before) (none-met os reference vs r e fine))

  -- what is left of either sort
  pub left-kept : {left : X} → left ≡ cond (eqb (refusal os vs vs) 0) cleared before → is_refused r ≡ true → left ≡ before
  left-kept e refused = e ∙ sym (held_kept refused)

  pub left-cleared : {left : X} → left ≡ cond (eqb (refusal os vs vs) 0) cleared before → is_refused r ≡ false → left ≡ cleared
  left-cleared e fine = e ∙ sym (held-cleared fine)

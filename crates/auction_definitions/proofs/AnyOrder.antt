-- A list in another order: the same refusal, and the same price or none.
-- Assumes nothing.
use mathlib.Core.List.{List, [], ◌∷◌}
use mathlib.Core.Path.{◌≡◌, refl, sym, ◌∙◌, ap}
use Prim.Native.Nat.{ℕ}
use Rattle.auction_definitions.specs.declared.AuctionOrder.{AuctionOrder}
use Rattle.auction_definitions.specs.declared.Line.{Line}
use Rattle.auction_definitions.specs.Answers.{None}
use Rattle.auction_definitions.specs.Auction.{bad_order, given, refusal, traded, volume_of}
use Rattle.auction_definitions.proofs.Permuted.{Permuted, any-permuted, back, candidate-permuted, length-permuted, line-permuted}
use Rattle.auction_definitions.proofs.Projected.{NoVolume, Projected, given-none, given-price, none-given, price-given}

pub refusal-permuted : {orders others : List AuctionOrder} (buyers sellers : List ℕ) → Permuted orders others → refusal orders buyers sellers ≡ refusal others buyers sellers
unfolding refusal
refusal-permuted buyers sellers permuted = rw (length-permuted permuted, any-permuted bad_order permuted)

module _ {orders others : List AuctionOrder} (reference : ℕ) (permuted : Permuted orders others) where
  none-permuted : NoVolume orders → NoVolume others
  none-permuted without q at = ap volume_of (sym (line-permuted permuted q)) ∙ without q (candidate-permuted (back permuted) at)

  price-permuted : {p v : ℕ} → Projected orders reference p v → Projected others reference p v
  price-permuted {p} its = record {
    candidate = candidate-permuted permuted its.candidate;
    volume = its.volume ∙ ap volume_of (line-permuted permuted p);
    some = its.some;
    none-beats = λ q at. rw (← line-permuted permuted q, ← line-permuted permuted p) (its.none-beats q (candidate-permuted (back permuted) at));
  }

  pub given-permuted : given reference (traded orders) ≡ given reference (traded others)
  given-permuted = go (traded orders) refl
    where
      go : (ls : List Line) → traded orders ≡ ls → given reference (traded orders) ≡ given reference (traded others)
      go [] e =
          let none : given reference (traded orders) ≡ None = ap (given reference) e in
          none ∙ sym (none-given others reference (none-permuted (given-none orders reference none)))
      go (l ∷ ls) e =
          let price : given reference (traded orders) ≡ given reference (l ∷ ls) = ap (given reference) e in
          price ∙ sym (price-given others reference (price-permuted (given-price orders reference price)))

-- The better line, asked place by place from a line without volume, is the one that the definition chooses of the lines with volume.
-- Assumes nothing.
use mathlib.Core.Bool.{Bool, true, false, cond}
use mathlib.Core.List.{List, [], ◌∷◌, map}
use mathlib.Core.Path.{◌≡◌, refl, sym, ◌∙◌, ap}
use Prim.Native.Nat.{ℕ}
use Rattle.std.specs.Prelude.{Some}
use borrow.Author.Tests.{ltb-false, ltb-true}
use native.Mathlib.Omega.{arith}
use Rattle.definitions.specs.Lists.{keep}
use Rattle.definitions.proofs.Tests.{either}
use Rattle.auction_definitions.specs.declared.AuctionOrder.{AuctionOrder}
use Rattle.auction_definitions.specs.declared.Line.{Line}
use Rattle.auction_definitions.specs.Answers.{AuctionAnswer, Price}
use Rattle.auction_definitions.specs.Auction.{beats, candidates, empty_line, given, has_volume, is_limit, line_at, place_line, traded, unbeaten, volume_of}
use Rattle.auction_definitions.proofs.StrictOrder.{ahead_of, behind}
use Rattle.auction_lines.specs.Lines.{answer_of, better_of}
use Rattle.auction.specs.Turns.{best_after}

module _ (reference : ℕ) (orders : List AuctionOrder) where
  -- the lines with volume of some of the orders
  unfoldable traded_of : List AuctionOrder → List Line
  traded_of os = keep has_volume (map (line_at orders) (candidates os))

  traded-cons : (o : AuctionOrder) (os : List AuctionOrder)
      → traded_of (o ∷ os) ≡ cond (has_volume (place_line orders o)) (place_line orders o ∷ traded_of os) (traded_of os)
  unfolding traded_of candidates keep place_line
  traded-cons o os = go (is_limit o)
    where
      go : (t : Bool)
          → keep has_volume (map (line_at orders) (map (λ o. o.price) (cond t (o ∷ keep is_limit os) (keep is_limit os))))
          ≡ cond (has_volume (cond t (line_at orders o.price) (empty_line 0)))
          (cond t (line_at orders o.price) (empty_line 0) ∷ keep has_volume (map (line_at orders) (map (λ o. o.price) (keep is_limit os))))
          (keep has_volume (map (line_at orders) (map (λ o. o.price) (keep is_limit os))))
      go true = refl
      go false = refl

  abbrev priced : Line → AuctionAnswer
  priced l = Price l.price (volume_of l)

  abbrev answered : Line → List AuctionOrder → AuctionAnswer
  answered best os = answer_of (Some (best_after reference orders best os))

  -- one place more, where a line with volume was found before it
  step-volume : (l best : Line) (os : List AuctionOrder) (rest : List Line) → has_volume best ≡ true
      → ((b : Line) → has_volume b ≡ true → answered b os ≡ priced (unbeaten reference b rest))
      → answered (better_of reference l best) os ≡ priced (unbeaten reference best (cond (has_volume l) (l ∷ rest) rest))
  unfolding unbeaten
  step-volume l best os rest some below = go (has_volume l) refl
    where
      go : (t : Bool) → has_volume l ≡ t → answered (better_of reference l best) os ≡ priced (unbeaten reference best (cond t (l ∷ rest) rest))
      go true has = below (better_of reference l best) (either (λ (b : Line). has_volume b ≡ true) (beats reference l best) l best (λ _. has) (λ _. some))
      go false none = rw (behind reference l best (omega (arith, ltb-false 0 (volume_of l) none, ltb-true 0 (volume_of best) some))) (below best some)

  -- and where none was
  step-none : (l best : Line) (os : List AuctionOrder) (rest : List Line) → has_volume best ≡ false
      → ((b : Line) → has_volume b ≡ true → answered b os ≡ priced (unbeaten reference b rest))
      → ((b : Line) → has_volume b ≡ false → answered b os ≡ given reference rest)
      → answered (better_of reference l best) os ≡ given reference (cond (has_volume l) (l ∷ rest) rest)
  step-none l best os rest none above below = go (has_volume l) refl
    where
      go : (t : Bool) → has_volume l ≡ t → answered (better_of reference l best) os ≡ given reference (cond t (l ∷ rest) rest)
      go true has = rw (ahead_of reference l best (omega (arith, ltb-true 0 (volume_of l) has, ltb-false 0 (volume_of best) none))) (above l has)
      go false without = below (better_of reference l best) (either (λ (b : Line). has_volume b ≡ false) (beats reference l best) l best (λ _. without) (λ _. none))

  from-volume : (os : List AuctionOrder) (best : Line) → has_volume best ≡ true → answered best os ≡ priced (unbeaten reference best (traded_of os))
  unfolding best_after answer_of unbeaten traded_of candidates keep
  from-volume [] best some = rw some
  from-volume (o ∷ os) best some =
      step-volume (place_line orders o) best os (traded_of os) some (from-volume os) ∙ ap (λ ls. priced (unbeaten reference best ls)) (sym (traded-cons o os))

  from-none : (os : List AuctionOrder) (best : Line) → has_volume best ≡ false → answered best os ≡ given reference (traded_of os)
  unfolding best_after answer_of traded_of candidates keep
  from-none [] best none = rw none
  from-none (o ∷ os) best none =
      step-none (place_line orders o) best os (traded_of os) none (from-volume os) (from-none os) ∙ ap (given reference) (sym (traded-cons o os))

  pub chosen : answer_of (Some (best_after reference orders (empty_line 0) orders)) ≡ given reference (traded orders)
  unfolding traded traded_of
  chosen = from-none orders (empty_line 0) refl

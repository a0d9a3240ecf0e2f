-- What is promised of the price that an auction would give, said without the way it is chosen. Request 5: "It is shown that no candidate beats the one given."
-- Assumes nothing.
use mathlib.Core.Bool.{Bool, true, false}
use mathlib.Core.List.{List, [], ◌∷◌, map}
use mathlib.Core.Path.{◌≡◌, refl, sym, ◌∙◌, ap, subst}
use Prim.Native.Nat.{ℕ, ◌<◌}
use lib.Dec.{eqb}
use borrow.Author.Tests.{eqb-false, eqb-true, ltb-false, ltb-true}
use native.Mathlib.Omega.{arith}
use Rattle.definitions.proofs.Tests.{never}
use Rattle.auction_definitions.specs.declared.AuctionOrder.{AuctionOrder}
use Rattle.auction_definitions.specs.declared.Line.{Line}
use Rattle.auction_definitions.specs.Answers.{AuctionAnswer, Price, None, Refused}
use Rattle.auction_definitions.specs.Auction.{beats, candidates, given, has_volume, line_at, traded, unbeaten, volume_of}
use Rattle.auction_definitions.proofs.Among.{Among, From, kept, mapped, none_in, of-kept, of-mapped}
use Rattle.auction_definitions.proofs.StrictOrder.{beats-strict, behind}
use Rattle.auction_definitions.proofs.Unbeaten.{none-beats, unbeaten-among}

-- p is a candidate with volume v, above 0, and no candidate beats it
pub record Projected (orders : List AuctionOrder) (reference p v : ℕ) : Type 0 where
  pub candidate : Among p (candidates orders)
  pub volume : v ≡ volume_of (line_at orders p)
  pub some : 0 < v
  pub none-beats : (q : ℕ) → Among q (candidates orders) → beats reference (line_at orders q) (line_at orders p) ≡ false

-- every candidate has volume 0
abbrev pub NoVolume : List AuctionOrder → Type 0
NoVolume orders = (q : ℕ) → Among q (candidates orders) → volume_of (line_at orders q) ≡ 0

-- which of the three an answer is, and its numbers
abbrev pub variant_of : AuctionAnswer → ℕ
variant_of (Price p v) = 1
variant_of None = 0
variant_of (Refused n) = 2

abbrev price_given : AuctionAnswer → ℕ
price_given (Price p v) = p
price_given None = 0
price_given (Refused n) = 0

abbrev volume_given : AuctionAnswer → ℕ
volume_given (Price p v) = v
volume_given None = 0
volume_given (Refused n) = 0

module _ (orders : List AuctionOrder) (reference : ℕ) where
  traded-in : (q : ℕ) → Among q (candidates orders) → has_volume (line_at orders q) ≡ true → Among (line_at orders q) (traded orders)
  unfolding traded
  traded-in q at has = kept has_volume (line_at orders q) (map (line_at orders) (candidates orders)) (mapped (line_at orders) q (candidates orders) at) has

  -- a line with volume is that of its price, which is a candidate
  pub record Traded (l : Line) : Type 0 where
    pub candidate : Among l.price (candidates orders)
    pub line : l ≡ line_at orders l.price
    pub some : 0 < volume_of l

  of-traded : (l : Line) → Among l (traded orders) → Traded l
  unfolding traded line_at
  of-traded l at =
      let parts : Among l (map (line_at orders) (candidates orders)) × (has_volume l ≡ true) = of-kept has_volume l (map (line_at orders) (candidates orders)) at in
      let found : From (line_at orders) l (candidates orders) = of-mapped (line_at orders) l (candidates orders) parts.0 in
      let price : l.price ≡ found.of = ap (λ (m : Line). m.price) found.same in
      record {
        candidate = subst (λ (q : ℕ). Among q (candidates orders)) (sym price) found.among;
        line = found.same ∙ ap (line_at orders) (sym price);
        some = ltb-true 0 (volume_of l) parts.1;
      }

  -- the line chosen of those with volume
  chosen : (l : Line) (ls : List Line) → traded orders ≡ l ∷ ls → Projected orders reference (unbeaten reference l ls).price (volume_of (unbeaten reference l ls))
  chosen l ls e =
      let u : Line = unbeaten reference l ls in
      let its : Traded u = of-traded u (subst (Among u) (sym e) (unbeaten-among reference l ls)) in
      record {
        candidate = its.candidate;
        volume = ap volume_of its.line;
        some = its.some;
        none-beats = λ q at. subst (λ (m : Line). beats reference (line_at orders q) m ≡ false) its.line (go its.some q at (has_volume (line_at orders q)) refl);
      }
    where
      go : 0 < volume_of (unbeaten reference l ls) → (q : ℕ) → Among q (candidates orders) → (t : Bool) → has_volume (line_at orders q) ≡ t
          → beats reference (line_at orders q) (unbeaten reference l ls) ≡ false
      go some q at true has = none-beats reference l ls (line_at orders q) (subst (Among (line_at orders q)) e (traded-in q at has))
      go some q at false has = behind reference (line_at orders q) (unbeaten reference l ls) (omega (arith, some, ltb-false 0 (volume_of (line_at orders q)) has))

  pub given-price : {p v : ℕ} → given reference (traded orders) ≡ Price p v → Projected orders reference p v
  given-price {p} {v} = go (traded orders) refl
    where
      go : (ls : List Line) → traded orders ≡ ls → given reference ls ≡ Price p v → Projected orders reference p v
      go [] e f = absurd (omega (arith, ap variant_of f))
      go (l ∷ ls) e f =
          subst (λ (w : ℕ). Projected orders reference p w) (ap volume_given f)
          (subst (λ (q : ℕ). Projected orders reference q (volume_of (unbeaten reference l ls))) (ap price_given f) (chosen l ls e))

  pub given-none : given reference (traded orders) ≡ None → NoVolume orders
  given-none = go (traded orders) refl
    where
      go : (ls : List Line) → traded orders ≡ ls → given reference ls ≡ None → NoVolume orders
      go [] e f q at = at_none (has_volume (line_at orders q)) refl
        where
          at_none : (t : Bool) → has_volume (line_at orders q) ≡ t → volume_of (line_at orders q) ≡ 0
          at_none true has = absurd (none_in (line_at orders q) (subst (Among (line_at orders q)) e (traded-in q at has)))
          at_none false has = omega (arith, ltb-false 0 (volume_of (line_at orders q)) has)
      go (l ∷ ls) e f q at = absurd (omega (arith, ap variant_of f))

  pub none-given : NoVolume orders → given reference (traded orders) ≡ None
  none-given without = go (traded orders) refl
    where
      go : (ls : List Line) → traded orders ≡ ls → given reference ls ≡ None
      go [] e = refl
      go (l ∷ ls) e =
          let its : Projected orders reference (unbeaten reference l ls).price (volume_of (unbeaten reference l ls)) = chosen l ls e in
          absurd (omega (arith, its.some, its.volume, without (unbeaten reference l ls).price its.candidate))

  -- "Beats" being strict and total, the answer is the only one.
  pub only_one : {p v q w : ℕ} → Projected orders reference p v → Projected orders reference q w → (p ≡ q) × (v ≡ w)
  unfolding line_at
  only_one {p} {v} {q} {w} first second = go (eqb p q) refl
    where
      go : (t : Bool) → eqb p q ≡ t → (p ≡ q) × (v ≡ w)
      go true e = (eqb-true p q e, first.volume ∙ ap (λ (k : ℕ). volume_of (line_at orders k)) (eqb-true p q e) ∙ sym second.volume)
      go false e =
          never ((beats-strict reference).total (line_at orders p) (line_at orders q) (eqb-false p q e) (second.none-beats p first.candidate))
          (first.none-beats q second.candidate)

  pub price-given : {p v : ℕ} → Projected orders reference p v → given reference (traded orders) ≡ Price p v
  price-given {p} {v} its = go (traded orders) refl
    where
      go : (ls : List Line) → traded orders ≡ ls → given reference ls ≡ Price p v
      go [] e = absurd (omega (arith, its.some, its.volume, given-none (ap (given reference) e) p its.candidate))
      go (l ∷ ls) e =
          let same : ((unbeaten reference l ls).price ≡ p) × (volume_of (unbeaten reference l ls) ≡ v) = only_one (chosen l ls e) its in
          ap (λ (k : ℕ). Price k (volume_of (unbeaten reference l ls))) same.0 ∙ ap (Price p) same.1

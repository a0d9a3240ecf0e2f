-- The line chosen of a list is one of them, and none of them beats it.
-- Assumes nothing.
use mathlib.Core.Bool.{Bool, true, false, cond}
use mathlib.Core.List.{List, [], ◌∷◌}
use mathlib.Core.Path.{◌≡◌, refl}
use Prim.Native.Nat.{ℕ}
use Rattle.auction_definitions.specs.declared.Line.{Line}
use Rattle.auction_definitions.specs.Auction.{beats, unbeaten}
use Rattle.auction_definitions.proofs.Among.{Among, first, later}
use Rattle.auction_definitions.proofs.StrictOrder.{beats-strict, irreflexive}

module _ (reference : ℕ) where
  chosen-of-two : (t : Bool) (l m n : Line) (ns : List Line) → Among m (cond t n l ∷ ns) → Among m (l ∷ n ∷ ns)
  chosen-of-two true l m n ns at = later at
  chosen-of-two false l m n ns first = first
  chosen-of-two false l m n ns (later at) = later (later at)

  pub unbeaten-among : (l : Line) (ls : List Line) → Among (unbeaten reference l ls) (l ∷ ls)
  unfolding unbeaten
  unbeaten-among l [] = first
  unbeaten-among l (n ∷ ns) = chosen-of-two (beats reference n l) l (unbeaten reference (cond (beats reference n l) n l) ns) n ns (unbeaten-among (cond (beats reference n l) n l) ns)

  -- of the two first lines, with the better of which the choice goes on
  neither-beats : (t : Bool) (l m n : Line) (ns : List Line) (u : Line) → beats reference n l ≡ t
      → ((k : Line) → Among k (cond t n l ∷ ns) → beats reference k u ≡ false) → Among m (l ∷ n ∷ ns) → beats reference m u ≡ false
  neither-beats true l m n ns u e below first = (beats-strict reference).not_through l n u ((beats-strict reference).one_way n l e) (below n first)
  neither-beats true l m n ns u e below (later at) = below m at
  neither-beats false l m n ns u e below first = below l first
  neither-beats false l m n ns u e below (later first) = (beats-strict reference).not_through n l u e (below l first)
  neither-beats false l m n ns u e below (later (later at)) = below m (later at)

  pub none-beats : (l : Line) (ls : List Line) (m : Line) → Among m (l ∷ ls) → beats reference m (unbeaten reference l ls) ≡ false
  unfolding unbeaten
  none-beats l [] m first = irreflexive reference l
  none-beats l [] m (later at) = elim at [ ]
  none-beats l (n ∷ ns) m at =
      neither-beats (beats reference n l) l m n ns (unbeaten reference (cond (beats reference n l) n l) ns) refl (none-beats (cond (beats reference n l) n l) ns) at

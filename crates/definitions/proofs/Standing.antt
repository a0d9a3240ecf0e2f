-- A row that stands among rows: what holds of all of them holds of it, and where it stands after they were edited or one was put behind them.
-- Assumes nothing.
use mathlib.Core.Bool.{Bool, true}
use mathlib.Core.List.Memᴰ
use mathlib.Core.List.{List, ◌∷◌, ◌++◌, map, append-nil, Memᴰ}
use mathlib.Core.Path.{◌≡◌, ap, sym, ◌∙◌}
use Prim.Native.Nat.{ℕ, zero, suc}
use native.Mathlib.Omega.{arith}
use lib.ListN.{replicate}
use lib.Seq.{set_out}
use Rattle.definitions.specs.declared.Row.{Row}
use Rattle.definitions.specs.Lists.{all, keep, count}
use Rattle.definitions.specs.Sound.{marked}
use Rattle.definitions.specs.Desks.{free_row, close_up, edited, added_last}
use Rattle.definitions.proofs.Tests.{either, and_parts}
use Rattle.definitions.proofs.Rows.{count-all, added-closed}

abbrev pub StandsIn : Row → List Row → Type 0
StandsIn r rows = Memᴰ r rows

pub stands-all : {r : Row} (p : Row → Bool) {rows : List Row} → all p rows ≡ true → StandsIn r rows → p r ≡ true
unfolding all
stands-all p h (Memᴰ.head {x = x} {xs = xs} same) = ap p same ∙ (and_parts (p x) (all p xs) h).0
stands-all p h (Memᴰ.tail {x = x} {xs = xs} there) = stands-all p (and_parts (p x) (all p xs) h).1 there

module _ {r : Row} where
  pub stands-mapped : (f : Row → Row) {rows : List Row} {x : Row} → f r ≡ x → StandsIn r rows → StandsIn x (map f rows)
  stands-mapped f e (Memᴰ.head same) = Memᴰ.head (sym e ∙ ap f same)
  stands-mapped f e (Memᴰ.tail there) = Memᴰ.tail (stands-mapped f e there)

  pub stands-kept : (p : Row → Bool) {rows : List Row} → p r ≡ true → StandsIn r rows → StandsIn r (keep p rows)
  unfolding keep
  stands-kept p e (Memᴰ.head same) = rw (sym (ap p same) ∙ e) (Memᴰ.head same)
  stands-kept p {rows} e (Memᴰ.tail {x = x} {xs = xs} there) =
      either (StandsIn r) (p x) (x ∷ keep p xs) (keep p xs) (λ _. Memᴰ.tail (stands-kept p e there)) (λ _. stands-kept p e there)

-- a row that a change makes of one that stands there
pub stands-edited : {r : Row} (f : Row → Row) {x : Row} {rows : List Row} → f r ≡ x → marked x ≡ true → StandsIn r rows → StandsIn x (edited f rows)
unfolding edited close_up
stands-edited f e m there = Memᴰ.append_left _ (stands-kept marked m (stands-mapped f e there))

-- a row put at the first free place, or nowhere where none is left
pub stands-added : {r : Row} (new : Row) (front : List Row) (n : ℕ) → all marked front ≡ true → StandsIn r front → StandsIn r (added_last new (front ++ replicate n free_row))
stands-added new front zero h there =
    rw (append-nil front, set_out front (count marked front) new (omega (arith, count-all marked front h))) there
stands-added new front (suc n) h there = rw (added-closed front n new h) (Memᴰ.append_left _ (Memᴰ.append_left _ there))

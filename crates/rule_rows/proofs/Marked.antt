-- A test that only marked rows meet: where marked rows stand first, a row that meets it is among those before the first free one. With it goes on what the proof
-- of such a search takes of the library.
-- Assumes nothing.
use mathlib.Core.Bool.{Bool, true, false, cond, ◌||◌, not}
use mathlib.Core.List.{List, [], ◌∷◌}
use mathlib.Core.Path.{◌≡◌, refl, ap, sym}
use Prim.Native.Nat.{ℕ, suc, ◌+◌}
use native.Mathlib.Omega.{arith}
use lib.ListN.{take}
use borrow.Author.Tests.{eqb-true, not-true, not-false}
pub use borrow.Author.Tests.{tests}
pub use mathlib.Core.Path.{◌∙◌}
pub use Rattle.std.proofs.lemmas.Iterator.{YieldsList-from_slice}
pub use Rattle.std.proofs.lemmas.Iterator.Search.{any_from_yields_List, YieldsList-from_take_while}
use Rattle.std.specs.List.{list_any, prefix_len}
use Rattle.definitions.specs.declared.Order.{Order}
use Rattle.definitions.specs.declared.Prices.{Prices}
use Rattle.definitions.specs.declared.Row.{Row}
use Rattle.definitions.specs.Codes.{free_mark}
use Rattle.definitions.specs.Lists.{any}
use Rattle.definitions.specs.Sound.{marked_first}
pub use Rattle.definitions.specs.Sound.{marked}
use Rattle.definitions.specs.Rules.{trades_with_own, reenters}
use Rattle.desk_rows.proofs.Looking.{any_none}

module _ (p : Row → Bool) (only : (r : Row) → marked r ≡ false → p r ≡ false) where
  pub none-behind : (rows : List Row) → marked_first rows ≡ true → list_any p (take (prefix_len marked rows) rows) ≡ any p rows
  unfolding any marked_first
  none-behind [] first = refl
  none-behind (r ∷ rs) first = go (marked r) refl first (λ next. none-behind rs next)
    where
      go : (t : Bool) → marked r ≡ t → cond t (marked_first rs) (not (any marked rs)) ≡ true → (marked_first rs ≡ true → list_any p (take (prefix_len marked rs) rs) ≡ any p rs)
          → list_any p (take (cond t (1 + prefix_len marked rs) 0) (r ∷ rs)) ≡ (p r || any p rs)
      go true mark first below = let more : 1 + prefix_len marked rs ≡ suc (prefix_len marked rs) = omega arith in rw more (ap (λ (b : Bool). p r || b) (below first))
      go false mark first below = sym (rw (only r mark) (any_none p marked only rs (not-true (any marked rs) first)))

-- W and P ask of a free row nothing that it meets
pub free-trades-not : (session : ℕ) (p : Prices) (o : Order) (r : Row) → marked r ≡ false → trades_with_own session p o r ≡ false
unfolding trades_with_own
free-trades-not session p o r free = rw (eqb-true r.mark free_mark (not-false _ free))

pub free-reenters-not : (clock : ℕ) (o : Order) (r : Row) → marked r ≡ false → reenters clock o r ≡ false
unfolding reenters
free-reenters-not clock o r free = rw (eqb-true r.mark free_mark (not-false _ free))

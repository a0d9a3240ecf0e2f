-- More than ten positions apart, told by prices: the ladder's prices stand in the order of their positions.
-- Assumes nothing.
use Rattle.std.specs.Prelude.{Some, None}
use mathlib.Core.Bool.{Bool, true, false, ◌||◌}
use mathlib.Core.Path.{◌≡◌, refl, sym, ◌∙◌}
use Prim.Native.Nat.{ℕ, ◌+◌, ◌-◌, ◌≤◌, ◌<◌, min}
use native.Mathlib.Omega.{arith}
use lib.Dec.{ltb}
use borrow.Author.Tests.{ltb-true, ltb-false, lt-ltb, le-ltb}
use Rattle.ladder.specs.declared.NearestPositions.{NearestPositions}
use Rattle.ladder.specs.Bands.{positions}
use Rattle.ladder.specs.Ladder.{nearest_to, price_at}
use Rattle.ladder.proofs.Laws.{price-less}
use Rattle.ladder.proofs.NearestLaws.{nearest-at}
use Rattle.definitions.specs.Rules.{ten_apart}

same_test : (a b c d : ℕ) → (a < b → c < d) → (c < d → a < b) → ltb a b ≡ ltb c d
same_test a b c d there back = go (ltb a b) refl
  where
    go : (t : Bool) → ltb a b ≡ t → ltb a b ≡ ltb c d
    go true e = e ∙ sym (lt-ltb c d (there (ltb-true a b e)))
    go false e =
        let never : ¬ (c < d) = λ less. omega (arith, back less, ltb-false a b e) in
        e ∙ sym (le-ltb c d (omega arith))

above : (j k : ℕ) → k ≤ positions → ltb (price_at (min (j + 10) positions)) (price_at k) ≡ ltb (j + 10) k
above j k last =
    price-less (min (j + 10) positions) k (omega arith) last ∙ same_test (min (j + 10) positions) k (j + 10) k (λ h. omega arith) (λ h. omega arith)

below : (j k : ℕ) → j ≤ positions → k ≤ positions → ltb (price_at k) (price_at (j - 10)) ≡ ltb (k + 10) j
below j k last last-k =
    price-less k (j - 10) last-k (omega arith) ∙ same_test k (j - 10) (k + 10) j (λ h. omega arith) (λ h. omega arith)

-- "none, no check"
pub none_apart : (reference k : ℕ) → nearest_to reference ≡ None → false ≡ ten_apart (nearest_to reference) k
none_apart reference k e = rw e

-- "counts up from the lower and down from the upper position"
pub by-price : (reference k : ℕ) {n : NearestPositions} → nearest_to reference ≡ Some n → k ≤ positions
    → (ltb (price_at (min (n.lower + 10) positions)) (price_at k) || ltb (price_at k) (price_at (n.upper - 10))) ≡ ten_apart (nearest_to reference) k
by-price reference k {n} e last = rw (e, above n.lower k last, below n.upper k (nearest-at reference n e).upper-there.to_last last)

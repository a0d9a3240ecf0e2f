-- A reference, from its parts: the block and the offset that it points at, its ghost name, and the value behind it.
-- Assumes nothing.
use Prim.Native.Nat.{ℕ}
use base.Fml.{GName}
use denote.Ref.{MutBor}

abbrev pub ref : {X : Type 0} → ℕ → ℕ → GName → X → MutBor X
ref b o γ x = record { ref_ptr = (b, o); ghost_name = γ; now = x }

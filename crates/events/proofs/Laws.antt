-- Which kinds the paper's table has, and how the tests on an event's bytes decide its reading, one law for each exit of the reader.
-- Assumes nothing.
use mathlib.Core.List.{List}
use mathlib.Core.Path.{◌≡◌, refl, sym}
use Prim.Native.Nat.{ℕ, zero, suc, ◌<◌}
use native.Mathlib.Omega.{arith}
use lib.ListN.{length, get_or}
use borrow.Author.Tests.{eq-eqb, ne_eqb}
use Rattle.definitions.specs.Lists.{first_met}
use Rattle.definitions.specs.Events.{kinds, length_of, event_of}
use Rattle.definitions.proofs.Ownership.{past-kinds}
use Rattle.events.specs.declared.kind.Kind.{Kind}
use Rattle.events.specs.declared.kind.Kind.TheVariants as kind
use Rattle.events.specs.Kinds.{kind_number}
use Rattle.events.specs.Readings.{read_event}
use Rattle.definitions.specs.declared.Event.{Event}
use Rattle.std.specs.Prelude.{Ok, Err}

-- "k is none of 1 to n", as a `match` on k leaves it to the arm of all other numbers
abbrev pub NoneOf : ℕ → ℕ → Type 0
NoneOf zero k = Unit {0}
NoneOf (suc n) k = NoneOf n k × (k ≡ suc n → ⊥)

above : (n : ℕ) {k : ℕ} → 0 < k → NoneOf n k → n < k
above zero some rest = some
above (suc n) some rest = omega (arith, above n some rest.0, rest.1)

pub unknown : (k : ℕ) → NoneOf (length kinds) k → 0 ≡ length_of k
unfolding length_of
unknown zero rest = refl
unknown (suc k) rest = sym (past-kinds (suc k) (above (length kinds) (omega arith) rest))

-- each kind of the table has a length
pub has-length : (k : Kind) → length_of (kind_number k) ≡ 0 → ⊥
unfolding length_of
has-length kind.Clock e = omega (arith, e)
has-length kind.Session e = omega (arith, e)
has-length kind.Setup e = omega (arith, e)
has-length kind.Prices e = omega (arith, e)
has-length kind.Order e = omega (arith, e)
has-length kind.Cancel e = omega (arith, e)
has-length kind.Match e = omega (arith, e)
has-length kind.Rest e = omega (arith, e)
has-length kind.Figures e = omega (arith, e)

module _ (b : List ℕ) where
  pub empty : length b ≡ 0 → Err 2 ≡ read_event b
  unfolding read_event first_met
  empty e = rw (eq-eqb _ _ e)

  module _ {n : ℕ} (some : length b ≡ 0 → ⊥) (of-kind : n ≡ length_of (get_or b 0 0)) where
    pub unknown-kind : n ≡ 0 → Err 3 ≡ read_event b
    unfolding read_event first_met
    unknown-kind e = rw (ne_eqb (length b) 0 some, ← of-kind, eq-eqb n 0 e)

    pub wrong-length : (n ≡ 0 → ⊥) → (length b ≡ n → ⊥) → Err 2 ≡ read_event b
    unfolding read_event first_met
    wrong-length known differs = rw (ne_eqb (length b) 0 some, ← of-kind, ne_eqb n 0 known, ne_eqb (length b) n differs)

    pub read_whole : (n ≡ 0 → ⊥) → length b ≡ n → {e : Event} → e ≡ event_of (get_or b 0 0) b → Ok e ≡ read_event b
    unfolding read_event first_met
    read_whole known e read = rw (read, ne_eqb (length b) 0 some, ← of-kind, ne_eqb n 0 known, eq-eqb (length b) n e)

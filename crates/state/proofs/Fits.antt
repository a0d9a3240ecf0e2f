-- Condition 1: what words that do not fit are known to be, and what a state that fits has room for.
-- Assumes nothing.
use mathlib.Core.Bool.{true, false, and-false}
use mathlib.Core.List.{List}
use mathlib.Core.Path.{◌≡◌}
use Prim.Native.Nat.{ℕ, ◌+◌, ◌≤◌, ◌<◌}
use native.Mathlib.Omega.{arith}
use lib.Dec.{lit<}
use lib.ListN.{length}
use lib.Seq.{get_or-take}
use borrow.Author.Tests.{ne_eqb}
use Rattle.definitions.specs.Lists.{part}
use Rattle.definitions.specs.State.{header_size, security_size, desk_size, header_in, header_of, state_size, state_fits, security_place, desk_place}
use Rattle.definitions.proofs.State.{fits-length}

-- the header's words are the first of the state's
pub header-words : (w : List ℕ) → header_of w ≡ header_in w
unfolding header_of part
header-words w =
    rw (get_or-take header_size w 0 0 (lit< tt), get_or-take header_size w 1 0 (lit< tt), get_or-take header_size w 2 0 (lit< tt), get_or-take header_size w 3 0 (lit< tt))

-- condition 1 is met by words that do not even have a header
pub no_header : (w : List ℕ) → length w < header_size → state_fits w ≡ false
unfolding state_fits
no_header w h =
    rw (ne_eqb (length w) (state_size (header_of w).customers (header_of w).securities) (λ e. omega arith), and-false)

module _ (w : List ℕ) (fits : state_fits w ≡ true) where
  pub fits-header : header_size ≤ length w
  fits-header = omega (arith, fits-length w fits)

  pub fits-security : (s : ℕ) → s < (header_of w).securities → security_place s + security_size ≤ length w
  fits-security s below = omega (arith, fits-length w fits)

  pub fits-desk : (k : ℕ) → k < (header_of w).customers → desk_place (header_of w).securities k + desk_size ≤ length w
  fits-desk k below = omega (arith, fits-length w fits)

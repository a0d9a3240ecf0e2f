-- A loop that copies words in from a place on.
-- Assumes nothing.
use mathlib.Core.List.{List, append_assoc}
use mathlib.Core.Path.{◌≡◌}
use Prim.Native.Nat.{ℕ, ◌+◌, ◌<◌}
use native.Mathlib.Numerals.{add-one}
use lib.ListN.{length, get_or, set}
use lib.Seq.{paste, paste-suc, take-length}
use Rattle.definitions.specs.Lists.{put}

pub copied_next : (w : List ℕ) (at : ℕ) (xs : List ℕ) (i : ℕ) → at + i < length w → i < length xs
    → set (paste w at xs i) (at + i) (get_or xs i 0) ≡ paste w at xs (i + 1)
copied_next w at xs i h k = rw add-one (paste-suc w at xs i 0 h k)

pub copied_all : (w : List ℕ) (at : ℕ) (xs : List ℕ) (i : ℕ) → i ≡ length xs → paste w at xs i ≡ put w at xs
unfolding put
copied_all w at xs i end = rw (end, take-length, append_assoc)

-- What stands at a position of lent bytes: an event, of which the position behind its last byte is found, or nothing.
use Rattle.std.specs.Prelude.{cond, List, ℕ, ◌+◌, leb, length, drop, Option, Some, None}
use Rattle.definitions.specs.Walk.{taken, split}

unfoldable pub found_at : List ℕ → ℕ → Option ℕ
found_at b at = cond (leb (length b) at) None (Some (at + taken (drop at b)))

-- the events of the bytes: at most as many as bytes
abbrev pub events_of : List ℕ → List (List ℕ)
events_of b = split (length b) b

-- the events from a position on
abbrev pub events_from : List ℕ → ℕ → List (List ℕ)
events_from b at = events_of (drop at b)

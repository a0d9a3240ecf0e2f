-- A desk's rows with the row at a place changed. Where the row that was there is the only one that an event changes, these are the definition's rows
-- (proofs/AtPlace.antt).
use Rattle.std.specs.Prelude.{cond, List, [], ◌∷◌, ◌++◌, ℕ, suc, take, drop, set}
use Rattle.definitions.specs.declared.Row.{Row}
use Rattle.definitions.specs.Sound.{marked}
use Rattle.definitions.specs.Desks.{free_row}

-- the row goes, and those after it close up
unfoldable pub removed_at : ℕ → List Row → List Row
removed_at place rows = take place rows ++ (drop (suc place) rows ++ (free_row ∷ []))

unfoldable pub changed_at : ℕ → Row → List Row → List Row
changed_at place r rows = cond (marked r) (set rows place r) (removed_at place rows)

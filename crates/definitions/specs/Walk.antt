-- Events one after another in lent bytes: where each ends. "`refused 2` or `refused 3` ends the listing; so does the end of the bytes": an unknown
-- kind, or a kind with fewer bytes left than its length, takes all that is left.
use Rattle.std.specs.Prelude.{cond, ◌||◌, List, [], ◌∷◌, ℕ, zero, suc, ltb, eqb, length, get_or, take, drop}
use Rattle.definitions.specs.Events.{length_of}

-- how many of the bytes the first event takes
unfoldable pub taken : List ℕ → ℕ
taken b = cond (eqb (length_of (get_or b 0 0)) 0 || ltb (length b) (length_of (get_or b 0 0))) (length b) (length_of (get_or b 0 0))

-- at most n events
unfoldable pub split : ℕ → List ℕ → List (List ℕ)
split zero b = []
split (suc n) b = cond (eqb (length b) 0) [] (take (taken b) b ∷ split n (drop (taken b) b))

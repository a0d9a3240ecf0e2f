-- Where a look through a desk's rows for a number ends. Rows behind a free one are not looked at: "marked rows stand first".
use Rattle.std.specs.Prelude.{Bool, cond, ◌||◌, not, List, [], ◌∷◌, ℕ, suc, eqb, get_or}
use Rattle.definitions.specs.declared.Row.{Row}
use Rattle.definitions.specs.Sound.{marked}
use Rattle.definitions.specs.Desks.{free_row}
use Rattle.state_records.specs.declared.search.RowAt.{RowAt}

abbrev pub ends_at : ℕ → Row → Bool
ends_at number r = eqb r.number number || not (marked r)

-- the place of the first row that has the number or is free; as many as there are rows where there is none
unfoldable pub place_of : ℕ → List Row → ℕ
place_of number [] = 0
place_of number (r ∷ rs) = cond (ends_at number r) 0 (suc (place_of number rs))

unfoldable pub row_with : ℕ → List Row → RowAt
row_with number rows = record { place = place_of number rows; row = get_or rows (place_of number rows) free_row }

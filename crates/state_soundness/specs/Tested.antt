-- The records of a state all tested; and a desk's rows as they are tested: those that lead one by one, the rest as words.
use Rattle.std.specs.Prelude.{Bool, true, false, ◌&&◌, not, List, ◌≡◌, ℕ, ◌*◌, ◌≤◌, ◌<◌, eqb}
use Rattle.definitions.specs.declared.Row.{Row}
use Rattle.definitions.specs.Codes.{desk_rows}
use Rattle.definitions.specs.Lists.{any, all, all_below, part}
use Rattle.definitions.specs.State.{row_size, header_of, row_of, rows_of}
use Rattle.definitions.specs.Sound.{sound_marked, sound_row, marked_first, numbers_differ}
use Rattle.definitions.specs.Gate.{sound_security_at, sound_desk_at}

-- 8: "2 reads all"
abbrev pub all_sound : List ℕ → Bool
all_sound w = all_below (header_of w).securities (sound_security_at w) && all_below (header_of w).customers (sound_desk_at w)

abbrev pub equals : ℕ → ℕ → Bool
equals n m = eqb m n

abbrev pub has_number : ℕ → Row → Bool
has_number n r = eqb r.number n

-- a row that may stand behind others: it is sound as a marked row, and none of them has its number
abbrev pub follows : ℕ → ℕ → List Row → Row → Bool
follows securities clock before r = sound_marked securities clock r && not (any (has_number r.number) before)

-- a desk's first n rows are sound and marked, their numbers differ, and the next may not follow them
pub record Leading (securities clock : ℕ) (w : List ℕ) (n : ℕ) : Type 0 where
  pub to : n ≤ desk_rows
  pub sound : all (sound_marked securities clock) (rows_of n w) ≡ true
  pub differ : numbers_differ (rows_of n w) ≡ true
  pub next : n < desk_rows → follows securities clock (rows_of n w) (row_of (part w (row_size * n) row_size)) ≡ false

-- what `sound_desk` asks of a desk's rows
abbrev pub sound_rows : ℕ → ℕ → List Row → Bool
sound_rows securities clock rs = all (sound_row securities clock) rs && marked_first rs && numbers_differ rs

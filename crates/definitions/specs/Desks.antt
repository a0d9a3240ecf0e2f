-- Paper 01, "Events" and "The lone run": how rows and counters change.
use Rattle.std.specs.Prelude.{Bool, true, false, cond, ◌&&◌, ◌||◌, not, List, ◌++◌, map, ℕ, ◌+◌, ◌-◌, leb, ltb, eqb, length, replicate, set}
use Rattle.definitions.specs.declared.Row.{Row}
use Rattle.definitions.specs.declared.Desk.{Desk}
use Rattle.definitions.specs.declared.Order.{Order}
use Rattle.definitions.specs.declared.Verdict.{Verdict}
use Rattle.definitions.specs.declared.Verdict.TheVariants as verdict
use Rattle.definitions.specs.declared.Counter.{Counter}
use Rattle.definitions.specs.declared.Counter.TheVariants as counts
use Rattle.definitions.specs.Codes.{free_mark, open_mark, cancelled_mark, limit, mp, is_limit, is_auction, minute, desk_rows, max_count}
use Rattle.definitions.specs.Lists.{keep, count}
use Rattle.definitions.specs.State.{row}
use Rattle.definitions.specs.Sound.{marked}

abbrev pub free_row : Row
free_row = row free_mark 0 0 0 0 0 0 0 0

abbrev pub desk : ℕ → ℕ → ℕ → List Row → Desk
desk accepted warned rejected rows = record { accepted = accepted; warned = warned; rejected = rejected; rows = rows }

abbrev pub fresh_desk : Desk
fresh_desk = desk 0 0 0 (replicate desk_rows free_row)

-- "cancelled at most 60,000 ms ago"
abbrev pub in_minute : ℕ → ℕ → Bool
in_minute clock time = leb clock (time + minute)

abbrev pub cancelled_in_minute : ℕ → Row → Bool
cancelled_in_minute clock r = eqb r.mark cancelled_mark && in_minute clock r.cancel_time

abbrev pub is_open : Row → Bool
is_open r = eqb r.mark open_mark

-- "open rows and rows cancelled at most 60,000 ms ago"
abbrev pub open_or_in_minute : ℕ → Row → Bool
open_or_in_minute clock r = is_open r || cancelled_in_minute clock r

abbrev pub open_with : ℕ → Row → Bool
open_with number r = is_open r && eqb r.number number

-- "Rows close up where one goes, and free rows are all zero."
unfoldable pub close_up : List Row → List Row
close_up rows = keep marked rows ++ replicate (length rows - count marked rows) free_row

-- each row as f leaves it; a row that f makes free goes
unfoldable pub edited : (Row → Row) → List Row → List Row
edited f rows = close_up (map f rows)

-- "rows cancelled more than 60,000 ms ago go"
abbrev pub expired_row : ℕ → Row → Row
expired_row clock r = cond (eqb r.mark cancelled_mark && not (cancelled_in_minute clock r)) free_row r

-- "removes the desk's ATO and ATC rows"; paper 02, 1: "Cancel and session change treat type 3 as ATO"
abbrev pub session_row : Row → Row
session_row r = cond (is_auction r.order_type || eqb r.order_type mp) free_row r

-- "marks an open limit row cancelled at the clock, or removes an ATO or ATC row", and one of type 3
abbrev pub marked_cancelled : ℕ → Row → Row
marked_cancelled clock r =
    row cancelled_mark r.number r.security r.board r.side r.order_type r.price r.volume clock

abbrev pub cancelled_row : ℕ → ℕ → Row → Row
cancelled_row number clock r = cond (open_with number r) (cond (is_limit r.order_type) (marked_cancelled clock r) free_row) r

-- "lowers the volume; at 0 the row goes"
abbrev pub with_volume : ℕ → Row → Row
with_volume volume r =
    row r.mark r.number r.security r.board r.side r.order_type r.price volume r.cancel_time

abbrev pub matched_row : ℕ → ℕ → Row → Row
matched_row number volume r =
    cond (open_with number r) (cond (leb r.volume volume) free_row (with_volume (r.volume - volume) r)) r

-- paper 02, 1: "an open type 3 row"
abbrev pub open_mp_with : ℕ → Row → Bool
open_mp_with number r = open_with number r && eqb r.order_type mp

-- "It makes an open type 3 row a limit at that ladder price"
abbrev pub limit_at : ℕ → Row → Row
limit_at price r = row r.mark r.number r.security r.board r.side limit price r.volume r.cancel_time

abbrev pub rest_row : ℕ → ℕ → Row → Row
rest_row number price r = cond (open_mp_with number r) (limit_at price r) r

abbrev pub with_rows : List Row → Desk → Desk
with_rows rows d = desk d.accepted d.warned d.rejected rows

-- the desk with each row as f leaves it, closed up
unfoldable pub changed : (Row → Row) → Desk → Desk
changed f d = with_rows (edited f d.rows) d

-- "then the order stands last as an open row"
abbrev pub row_of_order : Order → Row
row_of_order o =
    row open_mark o.number o.security o.board o.side o.order_type o.price o.volume 0

abbrev pub added_last : Row → List Row → List Row
added_last r rows = set rows (count marked rows) r

unfoldable pub added : ℕ → Order → Desk → Desk
added clock o d = with_rows (added_last (row_of_order o) (edited (expired_row clock) d.rows)) d

-- "its counter rises by 1, up to 4,294,967,295"
abbrev pub counted_up : ℕ → ℕ
counted_up n = cond (ltb n max_count) (n + 1) n

-- what a verdict counts as
abbrev pub counter_of : Verdict → Counter
counter_of verdict.RejectS = counts.Rejected
counter_of verdict.RejectV = counts.Rejected
counter_of verdict.RejectC = counts.Rejected
counter_of verdict.RejectQ = counts.Rejected
counter_of verdict.RejectW = counts.Rejected
counter_of verdict.RejectP = counts.Rejected
counter_of verdict.Warn30 = counts.Warned
counter_of verdict.Warn10 = counts.Warned
counter_of verdict.Accept = counts.Accepted

abbrev pub counted_as : Counter → Desk → Desk
counted_as counts.Accepted d = desk (counted_up d.accepted) d.warned d.rejected d.rows
counted_as counts.Warned d = desk d.accepted (counted_up d.warned) d.rejected d.rows
counted_as counts.Rejected d = desk d.accepted d.warned (counted_up d.rejected) d.rows

-- "Each verdict adds 1 to its counter"
unfoldable pub counted : Verdict → Desk → Desk
counted v d = counted_as (counter_of v) d

-- "Accepted or warned": the order takes a row; paper 02, 1: "An accepted MP order now takes a row as others do, of type 3"
abbrev pub is_rejected : Counter → Bool
is_rejected counts.Accepted = false
is_rejected counts.Warned = false
is_rejected counts.Rejected = true

abbrev pub takes_row : Verdict → Bool
takes_row v = not (is_rejected (counter_of v))

unfoldable pub ordered : Verdict → ℕ → Order → Desk → Desk
ordered v clock o d = counted v (cond (takes_row v) (added clock o d) d)

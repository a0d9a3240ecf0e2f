-- `state_soundness::rows::sound_desk_at` meets its contract: the words behind the desk's counters are its rows.
use mathlib.Core.Path.{◌≡◌}
use Rattle.std.proofs.Common.{rules, ◌+◌, ◌-◌, take, drop}
use Rattle.state_soundness.proofs.RowLaws.{desk-tested}
use Rattle.state_soundness.proofs.rows.sound_desk_at.Goals as goal

pub returns : goal.returns
returns c =
    let rows : c.unwrap-rows.result.now ≡ take (c.desk_place_in-from.result + 3 + 288 - (c.desk_place_in-from.result + 3)) (drop (c.desk_place_in-from.result + 3) c.args.words.now) = search rules in
    desk-tested c.args.words.now c.args.k c.desk_place_in-from.ensures (rw (← rows, ← c.header_of-h.ensures) c.sound_rows.ensures)

-- `state_records::search::row_with` meets its contract: the rows stand behind the counters of the desk.
use mathlib.Core.Path.{◌≡◌, ap, ◌∙◌}
use mathlib.Core.List.{List}
use Prim.Native.Nat.{ℕ}
use Rattle.std.proofs.Common.{rules, ◌+◌, ◌-◌, take, drop}
use Rattle.definitions.specs.Codes.{desk_rows}
use Rattle.definitions.specs.State.{rows_of}
use Rattle.state_records.specs.Search.{row_with}
use Rattle.state_records.proofs.Laws.{rows-part}
use Rattle.state_records.proofs.search.row_with.Goals as goal

pub returns : goal.returns
returns c =
    let from = c.desk_place_in-from.result + 3 in
    let rows : c.unwrap-rows.result.now ≡ take (from + 288 - from) (drop from c.args.words.now) = search rules in
    c.row_in.ensures
    ∙ ap (λ (w : List ℕ). row_with c.args.number (rows_of desk_rows w)) rows
    ∙ ap (row_with _) (rows-part _ _ c.desk_place_in-from.ensures)

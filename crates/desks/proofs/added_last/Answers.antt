-- `desks::added_last` meets its contract: each row is left as the minute leaves it, and the new one stands after them.
use mathlib.Core.Path.{◌≡◌, ap, ◌∙◌}
use borrow.Author.Rules.{rules}
use lib.ListN.{length}
use Rattle.definitions.specs.Codes.{desk_rows}
use Rattle.definitions.specs.Desks.{expired_row}
use Rattle.definitions.specs.declared.Desk.{Desk}
use Rattle.definitions.proofs.Lists.{length-mapped}
use Rattle.definitions.proofs.SoundDesk.{length-changed}
use Rattle.desks.proofs.Laws.{put-last, put-nowhere}
use Rattle.desks.proofs.added_last.Goals as goal

pub returns-then-place-lt-DESK_ROWS : goal.returns-then-place-lt-DESK_ROWS
returns-then-place-lt-DESK_ROWS c =
    put-last _ _ (c.closed_up-place.ensures (expired_row c.args.clock) (λ r left e. search rules)) _

pub returns-else-place-lt-DESK_ROWS : goal.returns-else-place-lt-DESK_ROWS
returns-else-place-lt-DESK_ROWS c =
    let done = c.closed_up-place.ensures (expired_row c.args.clock) (λ r left e. search rules) in
    let whole : length c.args.d.rows ≡ desk_rows = search (rules, length-mapped) in
    let all = ap (λ (x : Desk). length x.rows) done.0 ∙ length-changed (expired_row c.args.clock) c.args.d ∙ whole in
    put-nowhere _ _ done _ all c.if-place-lt-DESK_ROWS.false

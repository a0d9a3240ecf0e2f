-- `state_records::desk::put_desk` meets its contract: after the counters, each turn puts a row next to those before it.
use mathlib.Core.Path.{◌≡◌}
use lib.ListN.{length}
use Prim.Native.Nat.{◌+◌, ◌*◌, ◌≤◌}
use native.Mathlib.Omega.{arith}
use Rattle.definitions.specs.Codes.{desk_rows}
use Rattle.definitions.specs.State.{row_size, counters_size}
use Rattle.definitions.proofs.Lists.{length-mapped}
use Rattle.state_records.proofs.Laws.{written_none, written_next, desk-written}
use borrow.Author.Rules.{rules}
use Rattle.state_records.proofs.desk.put_desk.Goals as goal

pub loop-i-init : goal.loop-i-init
loop-i-init c = written_none _ _ _

pub loop-i-preserved : goal.loop-i-preserved
loop-i-preserved c =
    let whole : length c.args.d.rows ≡ desk_rows = search (rules, length-mapped) in
    let inside : c.desk_place_in-at.result + counters_size + row_size * desk_rows ≤ length c.copy_in.new.dst = omega arith in
    rw (c.copy_in-in-loop-i.ensures, c.row_words.ensures)
    (written_next _ _ _ _ _ _ whole inside (omega arith) c.loop-i.invariant)

pub returns : goal.returns
returns c =
    let whole : length c.args.d.rows ≡ desk_rows = search (rules, length-mapped) in
    desk-written _ _ _ c.desk_place_in-at.ensures
    c.copy_in.ensures whole (omega arith) c.loop-i-test.false c.loop-i.invariant

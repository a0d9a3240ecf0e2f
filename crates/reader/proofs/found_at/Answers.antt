-- `reader::found_at` meets its contract: each return is what the tests before it leave to be found.
use native.Mathlib.Omega.{arith}
use Rattle.reader.proofs.Laws.{no-event, unknown-kind, short-event, whole-event}
use Rattle.reader.proofs.found_at.Goals as goal
use Rattle.reader.proofs.found_at.Goals.{then-length-eq0, else-length-eq0}

pub returns-then-bytes-at : goal.returns-then-bytes-at
returns-then-bytes-at c = no-event _ _ (omega arith)

pub returns-then-left-whole : goal.returns-then-left-whole
returns-then-left-whole c =
    let some = c.if-bytes-at.false in
    let of-kind = c.length_of-length.ensures in
    elim c.if-length-eq0.branch [
      | then-length-eq0 w ↦ unknown-kind _ _ some of-kind w.if-length-eq0.true
      | else-length-eq0 w ↦ short-event _ _ some of-kind w.if-length-eq0.false (omega arith)
    ]

pub returns : goal.returns
returns c =
    let some = c.if-bytes-at.false in
    let of-kind = c.length_of-length.ensures in
    elim c.if-length-eq0.branch [
      | then-length-eq0 w ↦ rw w.whole-is (unknown-kind _ _ some of-kind w.if-length-eq0.true)
      | else-length-eq0 w ↦ rw w.whole-is (whole-event _ _ some of-kind w.if-length-eq0.false (omega arith))
    ]

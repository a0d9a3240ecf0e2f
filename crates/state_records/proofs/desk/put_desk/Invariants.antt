-- `state_records::desk::put_desk` meets its contract: after the counters, each turn puts a row next to those before it.
use Prim.Native.Nat.{◌+◌}
use Rattle.definitions.specs.State.{counters_size}
use Rattle.state_records.proofs.Laws.{Written}
use Rattle.state_records.proofs.desk.put_desk.Given as goal

abbrev pub invariant-loop-i : goal.invariant-loop-i
invariant-loop-i l = Written l.initial.words (l.at + counters_size) l.fn.d.rows l.words l.i

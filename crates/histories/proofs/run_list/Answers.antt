-- `histories::run_list`: the lengths say where each event ends.
use Rattle.std.proofs.Common.{rules}
use Prim.Native.Nat.{◌≤◌}
use lib.ListN.{length}
use native.Mathlib.Omega.{arith}
use Rattle.histories.specs.Ran.{listed_end}
use Rattle.histories.proofs.Histories.{handed-cut}
use Rattle.histories.proofs.run_list.Goals as goal

pub returns : goal.returns
returns c =
    let ran = c.run_by.ensures (listed_end c.args.events.now c.args.lengths.now) (λ at count end h post. search rules) in
    let start : 0 ≤ length c.args.events.now = omega arith in
    rw handed-cut at ran

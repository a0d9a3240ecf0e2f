-- `histories::run`: the reader says where each event ends.
use mathlib.Core.Path.{◌≡◌, sym}
use native.Mathlib.Nat.{le_of_lt}
use Rattle.std.proofs.Common.{rules}
use Rattle.std.specs.Prelude.{Some}
use Rattle.reader.specs.Places.{found_at}
use Rattle.reader.proofs.Laws.{event-at}
use Rattle.histories.proofs.Histories.{handed-split}
use Rattle.histories.proofs.run.Goals as goal

pub run_by-requires-clause-within : goal.run_by-requires-clause-within
run_by-requires-clause-within c at count end h post =
    let some : Some end ≡ found_at c.args.events.now at = search rules in
    let here = event-at _ _ _ (sym some) in
    (le_of_lt here.grows, here.within)

pub returns : goal.returns
returns c =
    let ran = c.run_by.ensures (λ at _. found_at c.args.events.now at) (λ at count end h post. search rules) in
    rw handed-split at ran

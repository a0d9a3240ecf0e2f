-- `histories::run_by`: after each turn, what is done and what is left make the whole.
use Prim.Native.Nat.{ℕ, ◌≤◌}
use lib.ListN.{length}
use Rattle.std.specs.Prelude.{Option}
use Rattle.histories.specs.Ran.{Gives}
use Rattle.histories.proofs.Histories.{Turns}
use Rattle.histories.proofs.run_by.Given as goal

abbrev pub invariant-loop-count : goal.invariant-loop-count
invariant-loop-count g l =
    (l.at ≤ length l.events) × ((ends : ℕ → ℕ → Option ℕ) → Gives (λ at count end. goal.F-post g l.end_of at count end) l.events ends → Turns ends l.initial.words l.events l.initial.answers l.words l.answers l.at l.count)

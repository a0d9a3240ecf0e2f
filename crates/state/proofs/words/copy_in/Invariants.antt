-- `state::words::copy_in` meets its contract: after i turns the first i words are in place.
use mathlib.Core.Path.{◌≡◌}
use lib.Seq.{paste}
use Rattle.state.proofs.words.copy_in.Given as goal

abbrev pub invariant-loop-i : goal.invariant-loop-i
invariant-loop-i l = l.dst ≡ paste l.initial.dst l.at l.src l.i

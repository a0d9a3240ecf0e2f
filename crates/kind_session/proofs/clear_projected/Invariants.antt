-- `kind_session::clear_projected` meets its contract: after each turn the words are those of the definition so far.
use Rattle.kind_session.proofs.Laws.{SoFar, cleared_at}
use Rattle.kind_session.proofs.clear_projected.Given as goal

abbrev pub invariant-loop-s : goal.invariant-loop-s
invariant-loop-s l = SoFar cleared_at l.initial.words l.s-end l.words l.s

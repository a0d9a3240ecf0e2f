-- `kind_session::change_desks` meets its contract: after each turn the words are those of the definition so far.
use Rattle.kind_session.proofs.Laws.{SoFar, changed_at}
use Rattle.kind_session.proofs.change_desks.Given as goal

abbrev pub invariant-loop-k : goal.invariant-loop-k
invariant-loop-k l = SoFar changed_at l.initial.words l.k-end l.words l.k

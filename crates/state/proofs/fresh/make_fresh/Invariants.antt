-- `state::fresh::make_fresh` meets its contract: after the zeros, the header; then each turn lists a lot.
use Rattle.state.proofs.FreshState.{Listed}
use Rattle.state.proofs.fresh.make_fresh.Given as goal

abbrev pub invariant-loop-s : goal.invariant-loop-s
invariant-loop-s l = Listed l.customers l.securities l.words l.s

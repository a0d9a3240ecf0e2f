-- `kind_session::clear_projected` meets its contract: after each turn the words are those of the definition so far.
use Rattle.std.proofs.Common.{rules}
use Rattle.definitions.specs.Securities.{without_projected}
use Rattle.kind_session.proofs.Laws.{cleared_at, so-far-start, so-far-next}
use Rattle.kind_session.proofs.clear_projected.Goals as goal

pub loop-s-preserved : goal.loop-s-preserved
loop-s-preserved c =
    so-far-next cleared_at _ c.loop-s.invariant c.loop-s-test.true (c.change_security.ensures without_projected (λ _ _. search rules))

pub loop-s-init : goal.loop-s-init
loop-s-init c = so-far-start cleared_at _

-- `kind_setup::handle` meets its contract: the security is changed, and no condition after 8 is a setup's.
use mathlib.Core.Path.{refl}
use Rattle.std.proofs.Common.{rules}
use Rattle.definitions.specs.declared.Event.TheVariants as event
use Rattle.definitions.specs.Answers as answer
use Rattle.definitions.specs.Gate.{perform}
use Rattle.definitions.specs.Securities.{after_setup}
use Rattle.kind_contract.proofs.Laws.{nothing-later, security-fits}
use Rattle.kind_contract.proofs.Done.{words-done}
use Rattle.kind_setup.proofs.handle.Goals as goal

pub change_security-requires-clause-stands : goal.change_security-requires-clause-stands
change_security-requires-clause-stands c = security-fits _ _ c.requires _ refl

pub returns : goal.returns
unfolding perform
returns c =
    let w = c.args.words.now in
    let x = c.args.x in
    words-done w (event.Setup x) (nothing-later w (event.Setup x) refl) answer.Ok refl (c.change_security.ensures (after_setup x) (λ _ _. search rules))

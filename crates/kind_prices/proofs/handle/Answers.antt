-- `kind_prices::handle` meets its contract: the security is changed, and no condition after 8 is one of prices.
use mathlib.Core.Path.{refl}
use Rattle.std.proofs.Common.{rules}
use Rattle.definitions.specs.declared.Event.TheVariants as event
use Rattle.definitions.specs.Answers as answer
use Rattle.definitions.specs.Gate.{perform}
use Rattle.definitions.specs.Securities.{after_prices}
use Rattle.kind_contract.proofs.Laws.{nothing-later, security-fits}
use Rattle.kind_contract.proofs.Done.{words-done}
use Rattle.kind_prices.proofs.handle.Goals as goal

pub change_security-requires-clause-stands : goal.change_security-requires-clause-stands
change_security-requires-clause-stands c = security-fits _ _ c.requires _ refl

pub returns : goal.returns
unfolding perform
returns c =
    let w = c.args.words.now in
    let x = c.args.x in
    words-done w (event.Prices x) (nothing-later w (event.Prices x) refl) answer.Ok refl (c.change_security.ensures (after_prices x) (λ _ _. search rules))

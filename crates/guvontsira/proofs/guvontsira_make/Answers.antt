-- `guvontsira::guvontsira_make` meets its contract: it is `gate::make`, with the answer as its number.
use mathlib.Core.Path.{ap, ◌∙◌}
use Rattle.definitions.specs.Answers.{answer_number, refusal_number}
use Rattle.gate.proofs.Outcomes.{Left}
use Rattle.guvontsira.proofs.guvontsira_make.Goals as goal

pub returns : goal.returns
returns c = (
  c.answer_number.ensures refusal_number (λ r n e. e) ∙ ap answer_number (ap (λ (x : Left). x.0) c.make.ensures),
  ap (λ (x : Left). x.1) c.make.ensures,
)

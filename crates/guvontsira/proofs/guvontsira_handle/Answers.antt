-- `guvontsira::guvontsira_handle` meets its contract: it is `gate::handle`, with the answer as its number.
use mathlib.Core.Path.{ap, ◌∙◌}
use Rattle.definitions.specs.Answers.{answer_number, refusal_number}
use Rattle.gate.proofs.Outcomes.{Left}
use Rattle.guvontsira.proofs.guvontsira_handle.Goals as goal

pub returns : goal.returns
returns c = (
  c.answer_number.ensures refusal_number (λ r n e. e) ∙ ap answer_number (ap (λ (x : Left). x.0) c.handle.ensures),
  ap (λ (x : Left). x.1) c.handle.ensures,
)

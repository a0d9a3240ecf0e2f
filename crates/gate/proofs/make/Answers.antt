-- `gate::make` meets its contract: condition 1, or a fresh state.
use mathlib.Core.Path.{sym, ◌∙◌}
use Rattle.gate.proofs.Outcomes.{make-misfit, make-other-length, make-done}
use Rattle.gate.proofs.make.Goals as goal

pub returns-then-not-sizes_fit : goal.returns-then-not-sizes_fit
returns-then-not-sizes_fit c = make-misfit _ _ _ (sym c.sizes_fit.ensures ∙ c.if-not-sizes_fit.true)

pub returns-then-words-desk_place : goal.returns-then-words-desk_place
returns-then-words-desk_place c = make-other-length _ _ _ (λ e. c.if-words-desk_place.true (e ∙ sym c.desk_place.ensures))

pub returns : goal.returns
returns c = make-done _ _ _ (sym c.sizes_fit.ensures ∙ c.if-not-sizes_fit.false) (c.if-words-desk_place.false ∙ c.desk_place.ensures) c.make_fresh.ensures

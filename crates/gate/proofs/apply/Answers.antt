-- `gate::apply` meets its contract: conditions 4 to 8, or the function of the event's kind.
use mathlib.Core.List.{List}
use Prim.Native.Nat.{ℕ}
use mathlib.Core.Path.{◌≡◌, ap, sym, ◌∙◌}
use Rattle.std.proofs.lemmas.Result.{err_from_is_err_and}
use Rattle.definitions.specs.declared.Event.{Event}
use Rattle.definitions.specs.Gate.{result_of}
use Rattle.kind_contract.specs.First.{later_outcome}
use Rattle.gate.proofs.Outcomes.{Left, event-refused, event-later}
use Rattle.gate.proofs.apply.Goals as goal

-- what an event of a kind leaves is what the event that was read leaves
of-kind : (w : List ℕ) {e f : Event} → e ≡ f → {x : Left} → x ≡ result_of w (later_outcome w f) → x ≡ result_of w (later_outcome w e)
of-kind w kind does = does ∙ ap (λ (g : Event). result_of w (later_outcome w g)) (sym kind)

pub returns-in_err-first_refusal : goal.returns-in_err-first_refusal
returns-in_err-first_refusal c =
    let p = err_from_is_err_and c.from_residual.result c.from_residual.ensures.1 in
    rw (p.1, p.2) (event-refused _ _ c.first_refusal.ensures c.in_err-first_refusal.was)

pub returns-in-Clock : goal.returns-in-Clock
returns-in-Clock c = event-later _ _ c.first_refusal.ensures c.in_ok-first_refusal.was (of-kind c.args.words.now c.in-Clock.is c.handle.ensures)

pub returns-in-Session : goal.returns-in-Session
returns-in-Session c = event-later _ _ c.first_refusal.ensures c.in_ok-first_refusal.was (of-kind c.args.words.now c.in-Session.is c.handle-in-Session.ensures)

pub returns-in-Setup : goal.returns-in-Setup
returns-in-Setup c = event-later _ _ c.first_refusal.ensures c.in_ok-first_refusal.was (of-kind c.args.words.now c.in-Setup.is c.handle-in-Setup.ensures)

pub returns-in-Prices : goal.returns-in-Prices
returns-in-Prices c = event-later _ _ c.first_refusal.ensures c.in_ok-first_refusal.was (of-kind c.args.words.now c.in-Prices.is c.handle-in-Prices.ensures)

pub returns-in-Order : goal.returns-in-Order
returns-in-Order c = event-later _ _ c.first_refusal.ensures c.in_ok-first_refusal.was (of-kind c.args.words.now c.in-Order.is c.handle-in-Order.ensures)

pub returns-in-Cancel : goal.returns-in-Cancel
returns-in-Cancel c = event-later _ _ c.first_refusal.ensures c.in_ok-first_refusal.was (of-kind c.args.words.now c.in-Cancel.is c.handle-in-Cancel.ensures)

pub returns-in-Match : goal.returns-in-Match
returns-in-Match c = event-later _ _ c.first_refusal.ensures c.in_ok-first_refusal.was (of-kind c.args.words.now c.in-Match.is c.handle-in-Match.ensures)

pub returns-in-Rest : goal.returns-in-Rest
returns-in-Rest c = event-later _ _ c.first_refusal.ensures c.in_ok-first_refusal.was (of-kind c.args.words.now c.in-Rest.is c.handle-in-Rest.ensures)

pub returns-in-Figures : goal.returns-in-Figures
returns-in-Figures c = event-later _ _ c.first_refusal.ensures c.in_ok-first_refusal.was (of-kind c.args.words.now c.in-Figures.is c.handle-in-Figures.ensures)

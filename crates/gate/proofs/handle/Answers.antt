-- `gate::handle` meets its contract: condition 1, then the reading, then the event.
use mathlib.Core.Path.{◌≡◌, sym, ◌∙◌}
use Rattle.std.proofs.Common.{rules, Err}
use Rattle.gate.proofs.Outcomes.{outcome-misfit, outcome-refused, outcome-whole}
use Rattle.gate.proofs.handle.Goals as goal

pub returns-then-not-state_fits : goal.returns-then-not-state_fits
returns-then-not-state_fits c = outcome-misfit _ _ (sym c.state_fits.ensures ∙ c.if-not-state_fits.true)

pub returns-in_default : goal.returns-in_default
returns-in_default c =
    let unread : c.map.result ≡ Err c.in_default.field-0 = search rules in
    rw unread (outcome-refused _ _ (sym c.state_fits.ensures ∙ c.if-not-state_fits.false) c.read_event-reading.ensures c.in_default.is)

pub returns : goal.returns
returns c = outcome-whole _ _ (sym c.state_fits.ensures ∙ c.if-not-state_fits.false) c.read_event-reading.ensures c.in-Ok.is c.apply.ensures

-- `ladder::Ladder::position` meets its contract: a legal price has the position that its band gives, and any other number none.
use mathlib.Core.Bool.{true}
use mathlib.Core.Path.{◌≡◌, sym, ◌∙◌}
use native.Mathlib.Omega.{arith}
use Rattle.ladder.specs.Ladder.{legal}
use Rattle.ladder.proofs.Laws.{legal-true, legal-position, legal-has, off-ladder, band-from, band-step}
use Rattle.ladder.proofs.Ladder.position.Goals as goal
use Rattle.ladder.proofs.Ladder.position.Goals.{Else-not-legal}

pub returns-then-not-legal : goal.returns-then-not-legal
returns-then-not-legal c = sym (off-ladder _ (sym c.legal.ensures ∙ c.if-not-legal.true))

-- at a price that `legal` let pass
is-legal : (c : Else-not-legal) → legal c.args.price ≡ true
is-legal c = sym c.legal.ensures ∙ c.if-not-legal.false

pub overflow_sub-result : goal.overflow_sub-result
overflow_sub-result c = rw c.band_of-band.ensures (band-from _ (legal-true _ (is-legal c.before.before)).above)

pub nonzero_div-result : goal.nonzero_div-result
nonzero_div-result c = rw c.band_of-band.ensures (band-step _)

pub overflow_add-result : goal.overflow_add-result
overflow_add-result c = rw c.band_of-band.ensures (omega (arith, (legal-has _ (legal-true _ (is-legal c.before.before.before.before))).to_last))

pub returns : goal.returns
returns c =
    legal-position _ c.band_of-band.ensures (is-legal c.before.before.before.before)

-- `gate::range::daily_range` meets its contract: none at the first test that is not passed, and else the security's range.
use mathlib.Core.Path.{ap, ◌∙◌}
use Rattle.definitions.specs.Ranges.{has_range}
use Rattle.definitions.proofs.Tests.{known}
use Rattle.definitions.proofs.RangeLaws.{sound-range}
use Rattle.state.proofs.Fits.{fits-header, fits-security}
use Rattle.gate.proofs.RangeExits.{unfit, beyond, unsound, without, given}
use Rattle.gate.proofs.range.daily_range.Goals as goal

pub returns-then-not-state_fits : goal.returns-then-not-state_fits
returns-then-not-state_fits c = unfit _ _ (known c.state_fits.ensures c.if-not-state_fits.true)

pub returns-then-h-s : goal.returns-then-h-s
returns-then-h-s c = beyond _ _ (known c.state_fits.ensures c.if-not-state_fits.false) (rw c.header_of-h.ensures at c.if-h-s.true)

pub returns-then-not-sound_security_at : goal.returns-then-not-sound_security_at
returns-then-not-sound_security_at c = unsound _ _ (known c.state_fits.ensures c.if-not-state_fits.false) (rw c.header_of-h.ensures at c.if-h-s.false) (known c.sound_security_at.ensures c.if-not-sound_security_at.true)

pub returns-then-not-has_range : goal.returns-then-not-has_range
returns-then-not-has_range c = without _ _ (known c.state_fits.ensures c.if-not-state_fits.false) (rw c.header_of-h.ensures at c.if-h-s.false) (known c.sound_security_at.ensures c.if-not-sound_security_at.false) (known (c.has_range.ensures ∙ ap has_range c.security_at-x.ensures) c.if-not-has_range.true)

pub returns : goal.returns
returns c =
    given _ _ (known c.state_fits.ensures c.if-not-state_fits.false) (rw c.header_of-h.ensures at c.if-h-s.false) (known c.sound_security_at.ensures c.if-not-sound_security_at.false) (known (c.has_range.ensures ∙ ap has_range c.security_at-x.ensures) c.if-not-has_range.false) c.security_at-x.ensures c.range_of.ensures

pub header_of-h-requires : goal.header_of-h-requires
header_of-h-requires c = fits-header _ (known c.state_fits.ensures c.if-not-state_fits.false)

pub sound_security_at-requires : goal.sound_security_at-requires
sound_security_at-requires c = fits-security _ (known c.state_fits.ensures c.if-not-state_fits.false) _ (rw c.header_of-h.ensures at c.if-h-s.false)

pub security_at-x-requires : goal.security_at-x-requires
security_at-x-requires c = fits-security _ (known c.state_fits.ensures c.if-not-state_fits.false) _ (rw c.header_of-h.ensures at c.if-h-s.false)

pub range_of-requires : goal.range_of-requires
range_of-requires c = sound-range c.security_at-x.result (rw c.security_at-x.ensures (known c.sound_security_at.ensures c.if-not-sound_security_at.false))

-- `kind_session::handle` meets its contract: the same session changes nothing, and another one all that the definition says.
use mathlib.Core.Path.{refl}
use native.Mathlib.Omega.{arith}
use Rattle.kind_contract.proofs.Laws.{later-done, nothing-later, header-fits}
use Rattle.kind_session.proofs.Laws.{session-long, cleared-long, session-same, session-done}
use Rattle.kind_session.proofs.handle.Goals as goal

pub returns-then-s-h : goal.returns-then-s-h
returns-then-s-h c = later-done _ _ (nothing-later _ _ refl) (session-same _ c.requires.fits _ c.header_of-h.ensures c.if-s-h.true)

pub returns : goal.returns
returns c =
    later-done _ _ (nothing-later _ _ refl)
    (session-done _ c.requires.fits _ c.header_of-h.ensures c.if-s-h.false c.clear_projected.ensures c.change_desks.ensures)

pub header_of-h-requires : goal.header_of-h-requires
header_of-h-requires c = header-fits _ _ c.requires

pub bounds-words-3 : goal.bounds-words-3
bounds-words-3 c = omega (arith, header-fits _ _ c.requires)

pub clear_projected-requires : goal.clear_projected-requires
clear_projected-requires c = session-long _ c.requires.fits _

pub change_desks-requires : goal.change_desks-requires
change_desks-requires c = cleared-long _ c.requires.fits _ c.clear_projected.ensures

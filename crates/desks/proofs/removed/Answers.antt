-- `desks::removed` meets its contract: each row from the place on is the next one, and the last is free.
use mathlib.Core.Path.{refl}
use native.Mathlib.Omega.{arith}
use borrow.Author.Rules.{rules}
use Rattle.definitions.specs.Desks.{free_row}
use Rattle.definitions.proofs.Lists.{length-mapped}
use Rattle.desks.proofs.ClosedUp.{removing-start, removing-next, removing-free, removing-end}
use Rattle.desks.proofs.removed.Goals as goal

pub loop-i-init : goal.loop-i-init
loop-i-init c = removing-start (search (rules, length-mapped)) c.requires.0 c.requires.1

pub returns-then-next-eq0 : goal.returns-then-next-eq0
returns-then-next-eq0 c =
    removing-free c.loop-i.invariant (omega (arith, c.loop-i-test.true)) _ refl c.if-next-eq0.true

pub loop-i-preserved : goal.loop-i-preserved
loop-i-preserved c = removing-next c.loop-i.invariant (omega (arith, c.loop-i-test.true)) _ refl

pub returns : goal.returns
returns c =
    removing-end c.loop-i.invariant (omega (arith, c.loop-i-test.false)) free_row c.free_row.ensures

-- The places passed, each with what was stored, and the orders added, as `Laws` has them.
use Rattle.auction.proofs.Laws.{Candidates, Orders, Stored}
use Rattle.auction.proofs.best_line.Given as goal

abbrev pub invariant-loop-order : goal.invariant-loop-order
invariant-loop-order g l = Orders l.orders l.place l.order-index l.line

abbrev pub invariant-loop-place : goal.invariant-loop-place
invariant-loop-place g l = Candidates l.orders l.reference l.place l.best × Stored g.S.Scratch.stored g.S.Scratch.places l.orders l.initial.scratch l.place l.scratch

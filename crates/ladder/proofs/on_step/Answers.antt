-- `ladder::on_step` meets its contract: each return tests the step of the band between whose first price and the next band's the price lies.
use native.Mathlib.Omega.{arith}
use lib.Dec.{lit≤}
use Rattle.ladder.proofs.Laws.{lowest-on-step, on-step-is}
use Rattle.ladder.proofs.on_step.Goals as goal

pub returns-then-price-ge40000 : goal.returns-then-price-ge40000
returns-then-price-ge40000 c = on-step-is _ 7 (lit≤ tt) (omega arith) tt

pub returns-then-price-ge20000 : goal.returns-then-price-ge20000
returns-then-price-ge20000 c = on-step-is _ 6 (lit≤ tt) (omega arith) (omega arith)

pub returns-then-price-ge10000 : goal.returns-then-price-ge10000
returns-then-price-ge10000 c = on-step-is _ 5 (lit≤ tt) (omega arith) (omega arith)

pub returns-then-price-ge2500 : goal.returns-then-price-ge2500
returns-then-price-ge2500 c = on-step-is _ 4 (lit≤ tt) (omega arith) (omega arith)

pub returns-then-price-ge1000 : goal.returns-then-price-ge1000
returns-then-price-ge1000 c = on-step-is _ 3 (lit≤ tt) (omega arith) (omega arith)

pub returns-then-price-ge500 : goal.returns-then-price-ge500
returns-then-price-ge500 c = on-step-is _ 2 (lit≤ tt) (omega arith) (omega arith)

pub returns-then-price-ge200 : goal.returns-then-price-ge200
returns-then-price-ge200 c = on-step-is _ 1 (lit≤ tt) (omega arith) (omega arith)

pub returns : goal.returns
returns c = lowest-on-step _ (omega arith)

-- `auction_lines::with_order` meets its contract: the sum of the order's own side with what it adds.
use Rattle.auction_lines.proofs.Sides.{with-buyer, with-seller}
use Rattle.auction_lines.proofs.with_order.Goals as goal

pub returns-then-order-eq-BUY : goal.returns-then-order-eq-BUY
returns-then-order-eq-BUY c = with-buyer _ _ c.if-order-eq-BUY.true c.added.ensures

pub returns : goal.returns
returns c = with-seller _ _ c.if-order-eq-BUY.false c.added-2.ensures

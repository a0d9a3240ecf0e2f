-- `auction_list::clear_from` meets its contract: what stands from the place on is zero.
use Rattle.auction_lines.proofs.Cleared.{cleared}
use Rattle.auction_list.specs.Gaps.{zero_from}
use Rattle.auction_list.proofs.clear_from.Goals as goal

pub returns : goal.returns
unfolding zero_from
returns c =
    rw c.zero_order.ensures at (cleared c.args.place c.args.orders.now c.fill.new.self c.zero_order.result c.min-first.ensures (c.fill.ensures.after (λ y h. h)))

-- `auction_list::open_gap` meets its contract: the orders from the place on are copied one place up.
use Rattle.std.proofs.Common.{refl}
use Rattle.auction_list.proofs.Carried.{opens}
use Rattle.auction_list.proofs.open_gap.Goals as goal

pub returns : goal.returns
returns c = (refl, rw c.copy_within.ensures.after (opens c.args.place c.args.count c.args.orders.now c.requires.0 c.requires.1 c.args.order))

-- `auction_list::close_gap` meets its contract: the orders behind the place are copied one place down.
use Rattle.std.proofs.Common.{refl}
use Rattle.auction_list.proofs.Carried.{closes}
use Rattle.auction_list.proofs.close_gap.Goals as goal

pub returns : goal.returns
returns c = (refl, rw (c.copy_within.ensures.after, c.zero_order.ensures) (closes c.args.place c.args.count c.args.orders.now c.requires.0 c.requires.1))

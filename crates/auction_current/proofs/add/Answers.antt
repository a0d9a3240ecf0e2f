-- `auction_current::add` meets its contract: each way out leaves what `Kept` and `Added` say.
use Rattle.std.proofs.Common.{sym}
use Rattle.auction_definitions.specs.Answers.{refusal_number}
use Rattle.auction_definitions.specs.Current.{Add, lent}
use Rattle.auction_current.proofs.Added.{added-done, added-refused}
use Rattle.auction_current.proofs.Held.{left-cleared, left-kept}
use Rattle.auction_current.proofs.Kept.{kept-unfit}
use Rattle.auction_current.proofs.add.Goals as goal

pub returns-then-not-add_fits : goal.returns-then-not-add_fits
returns-then-not-add_fits c = kept-unfit (Add c.args.order) c.args.reference (lent c.args.orders.now c.args.count.now c.args.volumes.now) (sym c.if-not-add_fits.ensures)

pub returns-then-is_refused : goal.returns-then-is_refused
returns-then-is_refused c =
    let priced = rw c.open_gap-before.ensures.1 at c.price_held-answer.ensures in
    let refused = sym (c.if-is_refused.ensures refusal_number) in
    rw (c.open_gap.ensures.1, c.open_gap-before.ensures.0, left-kept _ c.args.reference c.args.volumes.now _ _ _ priced.0 priced.2 refused)
    (added-refused c.args.order c.args.reference c.args.orders.now c.args.count.now c.args.volumes.now (sym c.if-not-add_fits.ensures) _ c.price_held-answer.new.orders c.price_held-answer.new.volumes priced.0 priced.1 priced.3 refused)

pub returns-else-is_refused : goal.returns-else-is_refused
returns-else-is_refused c =
    let priced = rw c.open_gap-before.ensures.1 at c.price_held-answer.ensures in
    let fine = sym (c.if-is_refused.ensures refusal_number) in
    rw (left-cleared _ c.args.reference c.args.volumes.now _ _ _ priced.0 priced.2 fine)
    (added-done c.args.order c.args.reference c.args.orders.now c.args.count.now c.args.volumes.now (sym c.if-not-add_fits.ensures) _ c.price_held-answer.new.orders c.price_held-answer.new.volumes priced.0 priced.1 priced.3 fine)

-- `auction_current::take` meets its contract: each way out leaves what `Kept` and `Taken` say.
use Rattle.std.proofs.Common.{sym}
use Rattle.auction_definitions.specs.Answers.{refusal_number}
use Rattle.auction_definitions.specs.Current.{Take, lent}
use Rattle.auction_current.proofs.Held.{left-cleared, left-kept}
use Rattle.auction_current.proofs.Kept.{kept-unfit}
use Rattle.auction_current.proofs.Taken.{taken-bad, taken-done, taken-nowhere, taken_refused}
use Rattle.auction_current.proofs.take.Goals as goal

pub returns-then-not-take_fits : goal.returns-then-not-take_fits
returns-then-not-take_fits c = kept-unfit (Take c.args.place) c.args.reference (lent c.args.orders.now c.args.count.now c.args.volumes.now) (sym c.if-not-take_fits.ensures)

pub returns-then-held-place : goal.returns-then-held-place
returns-then-held-place c =
    rw (c.place_refused.ensures, c.any_bad-bad.ensures)
    (taken-nowhere c.args.place c.args.reference c.args.orders.now c.args.count.now c.args.volumes.now (sym c.if-not-take_fits.ensures) c.if-held-place.true)

pub returns-then-bad_order : goal.returns-then-bad_order
returns-then-bad_order c =
    taken-bad c.args.place c.args.reference c.args.orders.now c.args.count.now c.args.volumes.now (sym c.if-not-take_fits.ensures) c.if-held-place.false (sym c.if-bad_order.ensures)

pub returns-then-is_refused : goal.returns-then-is_refused
returns-then-is_refused c =
    let good = sym c.if-bad_order.ensures in
    let priced = rw c.close_gap-taken.ensures.1 at c.price_held-answer.ensures in
    let refused = sym (c.if-is_refused.ensures refusal_number) in
    rw (c.open_gap.ensures.1, c.close_gap-taken.ensures.0, left-kept _ c.args.reference c.args.volumes.now _ _ _ priced.0 priced.2 refused)
    (taken_refused c.args.place c.args.reference c.args.orders.now c.args.count.now c.args.volumes.now (sym c.if-not-take_fits.ensures) c.if-held-place.false good _ c.price_held-answer.new.orders c.price_held-answer.new.volumes priced.0 priced.1 priced.3 refused)

pub returns-else-is_refused : goal.returns-else-is_refused
returns-else-is_refused c =
    let good = sym c.if-bad_order.ensures in
    let priced = rw c.close_gap-taken.ensures.1 at c.price_held-answer.ensures in
    let fine = sym (c.if-is_refused.ensures refusal_number) in
    rw (left-cleared _ c.args.reference c.args.volumes.now _ _ _ priced.0 priced.2 fine)
    (taken-done c.args.place c.args.reference c.args.orders.now c.args.count.now c.args.volumes.now (sym c.if-not-take_fits.ensures) c.if-held-place.false good _ c.price_held-answer.new.orders c.price_held-answer.new.volumes priced.0 priced.1 priced.3 fine)

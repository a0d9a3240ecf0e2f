-- `auction_current::price_held` meets its contract: what stands behind the orders held is cleared, and they are counted, unless the price refuses.
use Rattle.std.proofs.Common.{◌∙◌, Ok, refl, take}
use Rattle.std.proofs.lemmas.Result.{err_from_is_err_and}
use Rattle.auction_definitions.proofs.Answered.{refused-is-err}
use Rattle.auction_list.specs.Gaps.{zero_from}
use Rattle.auction_current.proofs.Held.{held-cleared, held_kept}
use Rattle.auction_current.proofs.price_held.Goals as goal

pub returns-in_err-price : goal.returns-in_err-price
returns-in_err-price c =
    let priced = c.in_err-price.ensures in
    let out = err_from_is_err_and c.from_residual.result c.from_residual.ensures.1 in (
      rw (out.1, out.2) priced.0,
      held_kept (take c.args.held c.args.orders.now) c.args.reference c.args.volumes.now (zero_from c.args.held c.args.orders.now) c.args.orders.now _ priced.0 refl,
      held_kept (take c.args.held c.args.orders.now) c.args.reference c.args.volumes.now c.args.held c.args.count.now _ priced.0 refl,
      priced.1,
    )

pub returns : goal.returns
returns c =
    let priced = c.in_ok-price.ensures in (
      priced.0,
      c.clear_from.ensures ∙ held-cleared (take c.args.held c.args.orders.now) c.args.reference c.args.volumes.now (zero_from c.args.held c.args.orders.now) c.args.orders.now _ priced.0 (refused-is-err (Ok c.in_ok-price.price)),
      held-cleared (take c.args.held c.args.orders.now) c.args.reference c.args.volumes.now c.args.held c.args.count.now _ priced.0 (refused-is-err (Ok c.in_ok-price.price)),
      priced.1,
    )

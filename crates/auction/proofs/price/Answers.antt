-- `auction::price` meets its contract: what the loops leave is what `Promised` says.
use Rattle.std.proofs.Common.{◌∙◌, sym, refl, rules}
use Rattle.auction.specs.Scratch.{with_sums}
use Rattle.auction.proofs.Promised.{given-back, passed, promised-unfit, same-part}
use Rattle.auction.proofs.price.Goals as goal

pub returns-then-not-lists_fit : goal.returns-then-not-lists_fit
returns-then-not-lists_fit c = promised-unfit c.args.orders.now c.args.reference c.args.buyers.now c.args.sellers.now (sym c.if-not-lists_fit.ensures)

pub returns : goal.returns
returns c =
    let left = passed c.args.orders.now c.args.reference c.args.buyers.now c.args.sellers.now with_sums (λ s. s.buyers.now) (λ s. s.sellers.now) (λ s i l. refl) (λ s i l. refl) _ c.best_line-best.new.scratch refl refl (sym c.if-not-lists_fit.ensures) c.best_line-best.result c.best_line-best.ensures in
    let buyers = same-part with_sums (λ s. s.buyers.ghost_name) (λ s i l. refl) c.args.orders.now c.args.reference _ c.best_line-best.new.scratch c.best_line-best.result c.best_line-best.ensures in
    let sellers = same-part with_sums (λ s. s.sellers.ghost_name) (λ s i l. refl) c.args.orders.now c.args.reference _ c.best_line-best.new.scratch c.best_line-best.result c.best_line-best.ensures in
    (c.answer_of.ensures ∙ left.0, given-back buyers (search rules) left.1, given-back sellers (search rules) left.2)

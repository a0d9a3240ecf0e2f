-- `rule_rows::rule_w` meets its contract: some marked row would trade, and no free one does.
use borrow.Author.Rules.{rules}
use borrow.Author.Tests.{eq-eqb, ne_eqb}
use Rattle.definitions.specs.Rules.{trades_with_own, rule_w}
use Rattle.rule_rows.proofs.Marked.{free-trades-not}
use Rattle.rule_rows.proofs.rule_w.Goals as goal

pub returns-then-o-ne-ONLINE : goal.returns-then-o-ne-ONLINE
unfolding rule_w
returns-then-o-ne-ONLINE c = rw (ne_eqb _ _ c.if-o-ne-ONLINE.true)

pub returns : goal.returns
unfolding rule_w
returns c =
    rw (eq-eqb _ _ c.if-o-ne-ONLINE.false, ← c.prices_on-p.ensures)
    (c.any_marked.ensures (trades_with_own c.args.m.session c.prices_on-p.result c.args.o) (λ r met e. search rules) (free-trades-not _ _ _))

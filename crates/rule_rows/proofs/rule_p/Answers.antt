-- `rule_rows::rule_p` meets its contract: some marked row is entered again, and no free one is.
use borrow.Author.Rules.{rules}
use Rattle.definitions.specs.Rules.{reenters, rule_p}
use Rattle.definitions.proofs.Tests.{known}
use Rattle.rule_rows.proofs.Marked.{free-reenters-not}
use Rattle.rule_rows.proofs.rule_p.Goals as goal

pub returns-then-not-covered_by_p : goal.returns-then-not-covered_by_p
unfolding rule_p
returns-then-not-covered_by_p c = rw (known c.covered_by_p.ensures c.if-not-covered_by_p.true)

pub returns : goal.returns
unfolding rule_p
returns c =
    rw (known c.covered_by_p.ensures c.if-not-covered_by_p.false)
    (c.any_marked.ensures (reenters c.args.m.clock c.args.o) (λ r met e. search rules) (free-reenters-not _ _))

-- `rule_rows::any_marked` meets its contract: behind a free row there is none that is marked, and so none that meets the test.
use borrow.Author.Rules.{rules}
use Rattle.rule_rows.proofs.Marked.{YieldsList-from_slice, YieldsList-from_take_while, any_from_yields_List, marked, none-behind, tests, ◌∙◌}
use Rattle.rule_rows.proofs.any_marked.Goals as goal

pub returns : goal.returns
returns g c = λ p by only.
    let rows = c.args.rows.now in
    any_from_yields_List p _ _ c.any.result c.any.ensures.ran
    (YieldsList-from_take_while _ marked (YieldsList-from_slice rows (cc)) c.take_while.ensures.closure c.take_while.ensures.done (λ x b q k. search (rules, tests)))
    (λ x b q k. search (rules, tests, by))
    ∙ none-behind p only rows c.requires.first

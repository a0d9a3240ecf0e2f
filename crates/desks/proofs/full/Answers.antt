-- `desks::full` meets its contract: where all 32 rows are open or cancelled within a minute, 32 are counted.
use borrow.Author.Rules.{rules}
use borrow.Author.Tests.{tests}
use Rattle.std.proofs.lemmas.Iterator.{YieldsList-from_slice}
use Rattle.std.proofs.lemmas.Iterator.Search.{all_from_yields_List}
use Rattle.definitions.specs.Desks.{open_or_in_minute}
use Rattle.definitions.proofs.Lists.{length-mapped}
use Rattle.desks.proofs.Laws.{all-counted}
use Rattle.desks.proofs.full.Goals as goal

pub returns : goal.returns
returns c =
    let rows = c.args.d.rows in
    all-counted _ rows (search (rules, length-mapped))
    (all_from_yields_List (open_or_in_minute c.args.clock) _ _ c.all.result c.all.ensures.ran (YieldsList-from_slice rows cc) (λ x b q k. search (rules, tests)))

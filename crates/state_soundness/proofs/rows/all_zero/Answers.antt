-- `state_soundness::rows::all_zero` meets its contract: the words OR-ed together are 0 where each is.
use mathlib.Core.Path.{◌≡◌, refl, ap, ◌∙◌}
use borrow.Author.Rules.{rules}
use lib.Dec.{eqb}
use Rattle.std.proofs.lemmas.Fn.{fold_over, fronts, slice_gives}
use Rattle.definitions.specs.Lists.{all}
use Rattle.state_soundness.specs.Tested.{equals}
use Rattle.state_soundness.proofs.RowLaws.{zero-next}
use Rattle.state_soundness.proofs.rows.all_zero.Goals as goal

pub returns : goal.returns
unfolding all
returns c =
    let words : c.iter.result.rest.now ≡ c.args.words.now = cc in
    fold_over fronts (λ y. y.now) _ (λ ws bits. eqb bits 0 ≡ all (equals 0) ws) _ (λ ws bits x more f k called. (zero-next ws bits x.now k (search rules), search rules)) c.iter.result _ _ c.fold.result (slice_gives c.iter.result) refl c.fold.ensures.ran
    ∙ ap (all (equals 0)) words

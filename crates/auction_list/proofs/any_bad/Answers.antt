-- `auction_list::any_bad` meets its contract: std's test of a list is the definitions'.
use Rattle.std.proofs.Common.{◌≡◌, ◌∙◌, Bool, List, [], ◌∷◌, ◌||◌, refl, ap, rules}
use Rattle.std.proofs.lemmas.Iterator.{YieldsList-from_slice}
use Rattle.std.proofs.lemmas.Iterator.Search.{any_from_yields_List}
use Rattle.std.specs.List.{list_any}
use Rattle.definitions.specs.Lists.{any}
use Rattle.auction_definitions.specs.Auction.{bad_order}
use Rattle.auction_list.proofs.any_bad.Goals as goal

list-any : {A : Type 0} (p : A → Bool) (xs : List A) → list_any p xs ≡ any p xs
unfolding any
list-any p [] = refl
list-any p (x ∷ xs) = ap (λ (b : Bool). p x || b) (list-any p xs)

pub returns : goal.returns
returns c =
    any_from_yields_List bad_order _ _ _ c.any.ensures.ran (YieldsList-from_slice c.args.orders.now cc) (λ x b q k. search rules)
    ∙ list-any bad_order c.args.orders.now

-- A history of request 7's calls: what the calls leave, which are accepted, and what these make of the orders held.
-- Assumes nothing.
use mathlib.Core.Bool.{Bool, not}
use mathlib.Core.List.{List, [], ◌∷◌}
use Prim.Native.Nat.{ℕ}
use Rattle.definitions.specs.Lists.{keep}
use Rattle.auction_definitions.specs.declared.AuctionOrder.{AuctionOrder}
use Rattle.auction_definitions.specs.Answers.{AuctionAnswer}
use Rattle.auction_definitions.specs.Current.{Call, Lent, call_answer, changed, is_refused, lent_after}

-- calls one after the other, each with its reference
abbrev pub History : Type 0
History = List (Call × ℕ)

-- what they leave
unfoldable pub ran : Lent → History → Lent
ran l [] = l
ran l (c ∷ cs) = ran (lent_after c.0 l) cs

-- a call with its reference and its answer
pub record Done : Type 0 where
  pub call : Call
  pub reference : ℕ
  pub answer : AuctionAnswer

abbrev pub done_at : Lent → Call × ℕ → Done
done_at l c = record { call = c.0; reference = c.1; answer = call_answer c.0 c.1 l }

unfoldable pub done : Lent → History → List Done
done l [] = []
done l (c ∷ cs) = done_at l c ∷ done (lent_after c.0 l) cs

-- a call is accepted where its answer is no refusal
abbrev pub is_accepted : Done → Bool
is_accepted d = not (is_refused d.answer)

-- the accepted calls, in their order
unfoldable pub accepted : Lent → History → List Done
accepted l history = keep is_accepted (done l history)

-- what calls make of orders
unfoldable pub made : List Done → List AuctionOrder → List AuctionOrder
made [] os = os
made (d ∷ ds) os = made ds (changed d.call os)

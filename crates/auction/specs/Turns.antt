-- What the two loops have done after some of their turns.
use Rattle.std.specs.Prelude.{◌≡◌, true, false, Option, Some, None, List, [], ◌∷◌, ◌++◌, map, ℕ, zero, suc, ◌-◌, get_or, length, take, drop, replicate}
use Rattle.auction_definitions.specs.declared.AuctionOrder.{AuctionOrder}
use Rattle.auction_definitions.specs.declared.Line.{Line}
use Rattle.definitions.specs.Lists.{any}
use Rattle.auction_definitions.specs.Auction.{bad_order, empty_line, place_line}
use Rattle.auction_definitions.specs.Current.{zero_order}
use Rattle.auction_lines.specs.Lines.{better_of, with_order}

-- a line with the orders added, one after another
unfoldable pub line_after : Line → List AuctionOrder → Line
line_after l [] = l
line_after l (o ∷ os) = line_after (with_order l o) os

-- the better line so far, after the places of some of the orders
unfoldable pub best_after : ℕ → List AuctionOrder → Line → List AuctionOrder → Line
best_after reference orders best [] = best
best_after reference orders best (o ∷ os) = best_after reference orders (better_of reference (place_line orders o) best) os

-- what is lent, once the line of each of the first places was stored, each at its place
unfoldable pub stored_to : {S : Type 0} → (S → ℕ → Line → S) → List AuctionOrder → ℕ → S → S
stored_to store orders zero s = s
stored_to store orders (suc i) s = store (stored_to store orders i s) i (place_line orders (get_or orders i zero_order))

-- what the two loops leave: a bad order was met, and what was lent is as it was; or the best line of all places is given, and every line was stored
abbrev pub Passed : {S : Type 0} → (S → ℕ → Line → S) → List AuctionOrder → ℕ → S → S → Option Line → Type 0
Passed store orders reference old new None = (any bad_order orders ≡ true) × (new ≡ old)
Passed store orders reference old new (Some best) =
    (any bad_order orders ≡ false) × (best ≡ best_after reference orders (empty_line 0) orders) × (new ≡ stored_to store orders (length orders) old)

-- a scratch list with a number of the line of each of the first places, a sum or the volume
unfoldable pub filled_to : (Line → ℕ) → List AuctionOrder → ℕ → List ℕ → List ℕ
filled_to sum orders i scratch = map (λ o. sum (place_line orders o)) (take i orders) ++ drop i scratch

-- a list with zeros from a place to its end
unfoldable pub cleared_from : ℕ → List ℕ → List ℕ
cleared_from place scratch = take place scratch ++ replicate (length scratch - place) 0

-- Paper 02, 5 to 7: the answers, and what the code gives for each.
use Rattle.std.specs.Prelude.{ℕ, Option, Result}
use Rattle.std.specs.declared.option.Option.TheVariants as option
use Rattle.std.specs.declared.result.Result.TheVariants as result
use Rattle.auction_definitions.specs.declared.AuctionPrice.{AuctionPrice}
use Rattle.auction_definitions.specs.declared.AuctionRefusal.{AuctionRefusal}
use Rattle.auction_definitions.specs.declared.AuctionRefusal.TheVariants as refusal

-- a price with its volume, "none", or a refusal with its number
pub data AuctionAnswer : Type 0 where
  Price : ℕ → ℕ → AuctionAnswer
  None : AuctionAnswer
  Refused : ℕ → AuctionAnswer

-- "Turned away: 14 ..; 15 ..", and "16, last"
abbrev pub refusal_number : AuctionRefusal → ℕ
refusal_number refusal.Lists = 14
refusal_number refusal.BadOrder = 15
refusal_number refusal.Place = 16

-- an answer whose refusals may be of any type: `number` gives the number of each
abbrev pub answered_by : {R : Type 0} → (R → ℕ) → Result (Option AuctionPrice) R → AuctionAnswer
answered_by number (result.Ok option.None) = None
answered_by number (result.Ok (option.Some p)) = Price p.price p.volume
answered_by number (result.Err r) = Refused (number r)

abbrev pub answered : Result (Option AuctionPrice) AuctionRefusal → AuctionAnswer
answered = answered_by refusal_number

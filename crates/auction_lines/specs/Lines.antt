-- What the loops over candidates and orders are told of one line.
use Rattle.std.specs.Prelude.{Bool, cond, not, ◌&&◌, ℕ, ◌+◌, eqb, Option}
use Rattle.std.specs.declared.option.Option.TheVariants as option
use Rattle.auction_definitions.specs.declared.AuctionOrder.{AuctionOrder}
use Rattle.auction_definitions.specs.declared.Line.{Line}
use Rattle.auction_definitions.specs.Answers.{AuctionAnswer, Price, None, Refused}
use Rattle.auction_definitions.specs.Auction.{beats, buys_at, has_volume, sells_at, volume_of}

-- what an order adds to a sum; price 0, of an ATO or ATC, is no candidate, and its sums stay 0
abbrev pub added_at : ℕ → Bool → ℕ → ℕ
added_at p counted volume = cond (not (eqb p 0) && counted) volume 0

-- the line with one order more
unfoldable pub with_order : Line → AuctionOrder → Line
with_order l o =
    record { price = l.price; buyers = l.buyers + added_at l.price (buys_at l.price o) o.volume; sellers = l.sellers + added_at l.price (sells_at l.price o) o.volume }

abbrev pub better_of : ℕ → Line → Line → Line
better_of reference l best = cond (beats reference l best) l best

-- the answer after the loops: of the best line that they found, or none where they met a bad order
unfoldable pub answer_of : Option Line → AuctionAnswer
answer_of option.None = Refused 15
answer_of (option.Some best) = cond (has_volume best) (Price best.price (volume_of best)) None

-- paper 02, 7: the answer to a place at or beyond the count, 16 where no order is bad
abbrev pub place_refused : Bool → AuctionAnswer
place_refused bad = Refused (cond bad 15 16)

-- Paper 02, 5: "The price an auction would give", in the request's order. Lines are those of the tables that source documents 002 and 003 print.
use Rattle.std.specs.Prelude.{Bool, cond, not, ◌&&◌, ◌||◌, List, [], ◌∷◌, ◌++◌, map, ℕ, ◌+◌, ◌-◌, min, leb, ltb, eqb, length, drop}
use Rattle.ladder.specs.Ladder.{legal}
use Rattle.definitions.specs.Codes.{buy, sell, max_volume}
use Rattle.definitions.specs.Lists.{any, first_met, keep}
use Rattle.auction_definitions.specs.declared.AuctionOrder.{AuctionOrder}
use Rattle.auction_definitions.specs.declared.Line.{Line}
use Rattle.auction_definitions.specs.Answers.{AuctionAnswer, Price, None, Refused}
use Rattle.auction_definitions.specs.declared.AuctionNumbers.{AuctionNumbers}

-- "a lent list of orders, .. at most 1,024"; "Two scratch lists of 1,024 64-bit numbers"
abbrev pub max_orders : ℕ
max_orders = 1_024

-- "price 0 for ATO or ATC"
abbrev pub is_auction : AuctionOrder → Bool
is_auction o = eqb o.price 0

abbrev pub is_limit : AuctionOrder → Bool
is_limit o = not (is_auction o)

-- "Candidates are the limit prices in the list."
unfoldable pub candidates : List AuctionOrder → List ℕ
candidates orders = map (λ o. o.price) (keep is_limit orders)

-- "At a price, buyers are ATO, ATC and limits at or above it;
abbrev pub buys_at : ℕ → AuctionOrder → Bool
buys_at p o = eqb o.side buy && (is_auction o || leb p o.price)

-- sellers are ATO, ATC and limits at or below it."
abbrev pub sells_at : ℕ → AuctionOrder → Bool
sells_at p o = eqb o.side sell && (is_auction o || leb o.price p)

-- the volumes of the orders of which t holds, added up
unfoldable pub sum_of : (AuctionOrder → Bool) → List AuctionOrder → ℕ
sum_of t [] = 0
sum_of t (o ∷ os) = cond (t o) o.volume 0 + sum_of t os

-- a line before any order is added
abbrev pub empty_line : ℕ → Line
empty_line p = record { price = p; buyers = 0; sellers = 0 }

-- the table's line of a price
unfoldable pub line_at : List AuctionOrder → ℕ → Line
line_at orders p = record { price = p; buyers = sum_of (buys_at p) orders; sellers = sum_of (sells_at p) orders }

-- "The volume is the smaller sum."
abbrev pub volume_of : Line → ℕ
volume_of l = min l.buyers l.sellers

abbrev pub apart : ℕ → ℕ → ℕ
apart a b = (a - b) + (b - a)

abbrev pub difference_of : Line → ℕ
difference_of l = apart l.buyers l.sellers

abbrev pub distance_to : ℕ → Line → ℕ
distance_to reference l = apart l.price reference

abbrev pub more : ℕ → ℕ → Bool
more a b = ltb b a

abbrev pub less : ℕ → ℕ → Bool
less a b = ltb a b

-- one step of an order in steps: ahead by a number of the line or, where these are equal, by what comes next
abbrev pub ahead_by : (ℕ → ℕ → Bool) → (Line → ℕ) → (Line → Line → Bool) → Line → Line → Bool
ahead_by ahead number next l m = ahead (number l) (number m) || (eqb (number l) (number m) && next l m)

-- "then it is the higher"
abbrev pub higher : Line → Line → Bool
higher l m = more l.price m.price

-- "The price has the most volume; then the least difference of the sums; then the least distance to the reference; then it is the higher."
unfoldable pub beats : ℕ → Line → Line → Bool
beats reference = ahead_by more volume_of (ahead_by less difference_of (ahead_by less (distance_to reference) higher))

-- of the line l and others, the one that no other beats
unfoldable pub unbeaten : ℕ → Line → List Line → Line
unbeaten reference l [] = l
unbeaten reference l (m ∷ ms) = unbeaten reference (cond (beats reference m l) m l) ms

-- "volume above 0"
abbrev pub has_volume : Line → Bool
has_volume l = ltb 0 (volume_of l)

-- "candidate[s] with volume above 0"
unfoldable pub traded : List AuctionOrder → List Line
traded orders = keep has_volume (map (line_at orders) (candidates orders))

-- "No candidate with volume above 0 gives "none", and then only."
abbrev pub given : ℕ → List Line → AuctionAnswer
given reference [] = None
given reference (l ∷ ls) = Price (unbeaten reference l ls).price (volume_of (unbeaten reference l ls))

-- the line of an order's place: that of its price, and for ATO or ATC, which has none, one with sums of 0
unfoldable pub place_line : List AuctionOrder → AuctionOrder → Line
place_line orders o = cond (is_limit o) (line_at orders o.price) (empty_line 0)

-- at the place of each of the orders its line's sum, behind them what the scratch list held
unfoldable pub sums_in : (Line → ℕ) → List AuctionOrder → List ℕ → List ℕ
sums_in sum orders scratch = map (λ o. sum (place_line orders o)) orders ++ drop (length orders) scratch

-- "14 if the list is longer or a scratch list shorter"
abbrev pub lists_fit : ℕ → ℕ → ℕ → Bool
lists_fit orders buyers sellers = leb orders max_orders && leb max_orders buyers && leb max_orders sellers

-- "a side not 0 or 1, a price neither 0 nor legal, or a volume outside 1 to 20,000,000"
unfoldable pub bad_order : AuctionOrder → Bool
bad_order o =
    ltb sell o.side || not (is_auction o || legal o.price) || not (leb 1 o.volume && leb o.volume max_volume)

-- "Turned away: 14 .., first; 15 for .."
abbrev pub conditions : List AuctionOrder → List ℕ → List ℕ → List (ℕ × Bool)
conditions orders buyers sellers =
    (14, not (lists_fit (length orders) (length buyers) (length sellers))) ∷ (15, any bad_order orders) ∷ []

-- 0 where neither is met
unfoldable pub refusal : List AuctionOrder → List ℕ → List ℕ → ℕ
refusal orders buyers sellers = first_met (conditions orders buyers sellers)

-- of the orders, the reference and the two scratch lists
unfoldable pub auction : List AuctionOrder → ℕ → List ℕ → List ℕ → AuctionAnswer
auction orders reference buyers sellers =
    cond (eqb (refusal orders buyers sellers) 0) (given reference (traded orders)) (Refused (refusal orders buyers sellers))

-- "The scratch lists' end contents are free, except that a refusal leaves them equal."
abbrev pub buyers_after : List AuctionOrder → List ℕ → List ℕ → List ℕ
buyers_after orders buyers sellers =
    cond (eqb (refusal orders buyers sellers) 0) (sums_in (λ l. l.buyers) orders buyers) buyers

abbrev pub sellers_after : List AuctionOrder → List ℕ → List ℕ → List ℕ
sellers_after orders buyers sellers =
    cond (eqb (refusal orders buyers sellers) 0) (sums_in (λ l. l.sellers) orders sellers) sellers

-- the answer as numbers: a price is above 0, and none has price 0, volume 0 and no refusal
abbrev pub auction_numbers : AuctionAnswer → AuctionNumbers
auction_numbers (Price p v) = record { volume = v; price = p; refusal = 0 }
auction_numbers None = record { volume = 0; price = 0; refusal = 0 }
auction_numbers (Refused n) = record { volume = 0; price = 0; refusal = n }

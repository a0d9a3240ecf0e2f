-- A corner: an event over given words, with the right answer and the right words after it, written as what changes in them. Places, sizes and codes stand
-- here once more, as numbers of paper 01's "The lent state" and "Events" and of paper 02, so that a wrong one in specs/ is refused.
use mathlib.Core.List.{List, [], ◌∷◌, ◌++◌}
use Prim.Native.Nat.{ℕ, zero, suc, ◌+◌, ◌-◌, ◌*◌}
use lib.ListN.{length, replicate, set}
use Rattle.definitions.specs.Answers.{Answer}
use Rattle.definitions.specs.Answers as answer
use Rattle.definitions.specs.declared.Verdict.{Verdict}
use Rattle.definitions.specs.declared.Verdict.TheVariants.{RejectS, RejectV, RejectC, RejectQ, RejectW, RejectP, Warn30, Warn10, Accept}
use Rattle.definitions.proofs.Bytes as bytes
use Rattle.definitions.proofs.Run.{result_on, performed_on}

-- words written from a place on, one after another
abbrev pub ChangedWords : Type 0
ChangedWords = List (ℕ × List ℕ)

abbrev pub written : List ℕ → ℕ → List ℕ → List ℕ
written w place [] = w
written w place (x ∷ xs) = written (set w place x) (suc place) xs

abbrev pub changed_by : ChangedWords → List ℕ → List ℕ
changed_by [] w = w
changed_by (c ∷ cs) w = changed_by cs (written w c.0 c.1)

-- the words that an event meets, the event's bytes, the answer, and what changes in the words
pub record Corner : Type 0 where
  pub words : List ℕ
  pub event : List ℕ
  pub answer : Answer
  pub changes : ChangedWords

abbrev pub corner : List ℕ → List ℕ → Answer → ChangedWords → Corner
corner words event answer changes = record { words = words; event = event; answer = answer; changes = changes }

abbrev pub found : Corner → Answer × List ℕ
found c = result_on c.words c.event

-- the same without the conditions, for the tables of verdicts: what the conditions ask is in the other tables
abbrev pub performed : Corner → Answer × List ℕ
performed c = performed_on c.words c.event

abbrev pub right : Corner → Answer × List ℕ
right c = (c.answer, changed_by c.changes c.words)

-- "All lent words stay equal" where an event is turned back
abbrev pub refused : List ℕ → List ℕ → ℕ → Corner
refused words event n = corner words event (answer.Refused n) []

abbrev pub done : List ℕ → List ℕ → ChangedWords → Corner
done words event changes = corner words event answer.Ok changes

abbrev pub verdict : List ℕ → List ℕ → Verdict → ChangedWords → Corner
verdict words event v changes = corner words event (answer.Verdict v) changes

-- "Header: C, S, clock, session", then the words of the securities and of the desks
abbrev pub joined : List (List ℕ) → List ℕ
joined [] = []
joined (x ∷ xs) = x ++ joined xs

abbrev pub state : ℕ → ℕ → List (List ℕ) → List (List ℕ) → List ℕ
state clock session securities desks = length desks ∷ length securities ∷ clock ∷ session ∷ (joined securities ++ joined desks)

abbrev pub clock_at : ℕ
clock_at = 2

abbrev pub session_at : ℕ
session_at = 3

abbrev pub security_at : ℕ → ℕ
security_at s = 4 + 17 * s

-- the desk of customer k where there are so many securities, its row i, and its counters
abbrev pub desk_at : ℕ → ℕ → ℕ
desk_at securities k = 4 + 17 * securities + 291 * k

abbrev pub row_at : ℕ → ℕ → ℕ → ℕ
row_at securities k i = desk_at securities k + 3 + 9 * i

-- a security: lot, free, first day, prior close and IPO price; projected, last sale, bid and offer of each board; dividend, subscription, old and new shares
abbrev pub with_figures : List ℕ → List ℕ → List ℕ → List ℕ → List ℕ
with_figures figures terms main foreign = terms ++ (main ++ (foreign ++ figures))

abbrev pub security : List ℕ → List ℕ → List ℕ → List ℕ
security terms main foreign = with_figures (0 ∷ 0 ∷ 0 ∷ 0 ∷ []) terms main foreign

abbrev pub terms : ℕ → ℕ → ℕ → ℕ → ℕ → List ℕ
terms lot free first close ipo = lot ∷ free ∷ first ∷ close ∷ ipo ∷ []

abbrev pub traded : ℕ → ℕ → ℕ → ℕ → List ℕ
traded projected last bid offer = projected ∷ last ∷ bid ∷ offer ∷ []

abbrev pub plain : List ℕ
plain = terms 100 0 0 0 0

abbrev pub free : List ℕ
free = terms 100 1 0 0 0

abbrev pub untraded : List ℕ
untraded = traded 0 0 0 0

-- a desk of 32 rows. Its counters differ, so that it is seen which one rises.
abbrev pub counting : ℕ → ℕ → ℕ → List (List ℕ) → List ℕ
counting accepted warned rejected rows = accepted ∷ warned ∷ rejected ∷ (joined rows ++ replicate (288 - 9 * length rows) 0)

abbrev pub desk : List (List ℕ) → List ℕ
desk rows = counting 10 20 30 rows

-- the codes
abbrev pub main : ℕ
main = 0

abbrev pub foreign : ℕ
foreign = 1

abbrev pub buy : ℕ
buy = 0

abbrev pub sell : ℕ
sell = 1

abbrev pub limit : ℕ
limit = 0

abbrev pub ato : ℕ
ato = 1

abbrev pub atc : ℕ
atc = 2

abbrev pub mp : ℕ
mp = 3

abbrev pub office : ℕ
office = 0

abbrev pub online : ℕ
online = 1

abbrev pub dma : ℕ
dma = 2

-- an order's fields, but for its customer
pub record Entry : Type 0 where
  pub number : ℕ
  pub security : ℕ
  pub board : ℕ
  pub side : ℕ
  pub order_type : ℕ
  pub channel : ℕ
  pub price : ℕ
  pub volume : ℕ

abbrev pub entry : ℕ → ℕ → ℕ → ℕ → ℕ → ℕ → ℕ → ℕ → Entry
entry number security board side type channel price volume =
    record { number = number; security = security; board = board; side = side; order_type = type; channel = channel; price = price; volume = volume }

abbrev pub bytes_of : ℕ → Entry → List ℕ
bytes_of k e = bytes.order k e.number e.security e.board e.side e.order_type e.channel e.price e.volume

-- its row's words, open, and cancelled at a time
abbrev pub row_of : ℕ → ℕ → Entry → List ℕ
row_of mark time e = mark ∷ e.number ∷ e.security ∷ e.board ∷ e.side ∷ e.order_type ∷ e.price ∷ e.volume ∷ time ∷ []

abbrev pub opened : Entry → List ℕ
opened e = row_of 1 0 e

abbrev pub cancelled : ℕ → Entry → List ℕ
cancelled time e = row_of 2 time e

-- what an order changes: its verdict's counter, and with accept and warn the row after those that are there
abbrev pub rejects : ℕ → ChangedWords
rejects desk = (desk + 2, 31 ∷ []) ∷ []

abbrev pub takes : ℕ × ℕ → ℕ → Entry → ChangedWords
takes counter place e = (counter.0, counter.1 ∷ []) ∷ (place, opened e) ∷ []

abbrev pub follows : ℕ → ℕ → Entry → Verdict → ChangedWords
follows desk row e RejectS = rejects desk
follows desk row e RejectV = rejects desk
follows desk row e RejectC = rejects desk
follows desk row e RejectQ = rejects desk
follows desk row e RejectW = rejects desk
follows desk row e RejectP = rejects desk
follows desk row e Warn30 = takes (desk + 1, 21) row e
follows desk row e Warn10 = takes (desk + 1, 21) row e
follows desk row e Accept = takes (desk, 11) row e

-- an order of customer 0, who has some rows, at a clock and in a session, in one of some securities
abbrev pub judged : ℕ → ℕ → List (List ℕ) → List (List ℕ) → Entry → Verdict → Corner
judged clock session securities rows e v =
    verdict (state clock session securities (desk rows ∷ [])) (bytes_of 0 e) v
    (follows (desk_at (length securities) 0) (row_at (length securities) 0 (length rows)) e v)

-- limit buys of 100 shares at 50.00 in security 0, online
abbrev pub bought : ℕ → Entry
bought number = entry number 0 main buy limit online 5000 100

abbrev pub buys : ℕ → ℕ → List ℕ
buys customer number = bytes_of customer (bought number)

-- rows of them, numbered from 1
abbrev pub open_rows : ℕ → List (List ℕ)
open_rows zero = []
open_rows (suc n) = open_rows n ++ (opened (bought (suc n)) ∷ [])

-- two customers, of whom the second has such a row, and one security
abbrev pub two_customers : List ℕ
two_customers = state 5_000 2 (security plain untraded untraded ∷ []) (desk [] ∷ desk (opened (bought 1) ∷ []) ∷ [])

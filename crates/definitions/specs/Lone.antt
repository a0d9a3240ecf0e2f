-- Paper 01, "The lone run".
use Rattle.std.specs.Prelude.{Bool, true, false, cond, List, [], ◌∷◌, ◌++◌, ℕ, eqb, take}
use Rattle.definitions.specs.declared.Desk.{Desk}
use Rattle.definitions.specs.declared.Order.{Order}
use Rattle.definitions.specs.declared.Verdict.{Verdict}
use Rattle.definitions.specs.Answers.{Answer}
use Rattle.definitions.specs.Answers as answer
use Rattle.definitions.specs.Lists.{part, put, first_met}
use Rattle.definitions.specs.State.{clock_place, header_of, fresh_market, security_place, desk_place, desk_size}
use Rattle.definitions.specs.Events.{event_in, bytes_conditions}
use Rattle.definitions.specs.Desks.{fresh_desk, session_row, changed, ordered}
use Rattle.definitions.specs.Changes.{Change, set_clock, set_session, set_security, enter_order, set_rows, change_of, Owner, market, customer, nobody, owner_of}
use Rattle.definitions.specs.Rules.{verdict_of}
use Rattle.definitions.specs.Refusals.{event_conditions}
use Rattle.definitions.specs.Gate.{market_view_at, view_by, change_security, session_market}

-- "It holds the market's words (header and security records) and one desk"
pub record Lone : Type 0 where
  pub market : List ℕ
  pub desk : Desk

-- "at first as in a fresh state"
abbrev pub lone_fresh : ℕ → ℕ → Lone
lone_fresh customers securities = record { market = fresh_market customers securities; desk = fresh_desk }

-- the table above, without 1 and 8, which "never arise here"
unfoldable pub lone_conditions : Lone → List ℕ → List (ℕ × Bool)
lone_conditions l b =
    bytes_conditions b ++ event_conditions (header_of l.market) [] (view_by (λ k. l.desk) l.market (event_in b)) (event_in b)

-- an answer, and what the lone run holds after it
abbrev pub lone_done : Answer → List ℕ → Desk → Answer × Lone
lone_done a w d = (a, record { market = w; desk = d })

abbrev pub lone_verdict : Lone → Order → Verdict
lone_verdict l o = verdict_of (record { market = market_view_at l.market o.security; desk = l.desk }) o

-- "Kind 1 sets the clock. Kind 2 with another session sets it, makes each projected price absent and removes the desk's ATO and ATC rows." and, since
-- paper 02, 1, those of type 3. "Kinds 3 and 4 set the fields they name. The answer is ok. Kind 5 gets the first verdict that applies; .. Kind 6 .. Kind 7 ..
-- The answer is ok." "Kinds and rules of later requests hold here too": kinds 8 and 9.
unfoldable pub lone_applied : Lone → Change → Answer × Lone
lone_applied l (set_clock t) = lone_done answer.Ok (put l.market clock_place (t ∷ [])) l.desk
lone_applied l (set_session s) =
    cond (eqb s (header_of l.market).session) (lone_done answer.Ok l.market l.desk)
    (lone_done answer.Ok (session_market s l.market) (changed session_row l.desk))
lone_applied l (set_security s f) = lone_done answer.Ok (change_security f s l.market) l.desk
lone_applied l (enter_order k x) =
    lone_done (answer.Verdict (lone_verdict l x)) l.market (ordered (lone_verdict l x) (header_of l.market).clock x l.desk)
lone_applied l (set_rows k f) = lone_done answer.Ok l.market (changed (f (header_of l.market).clock) l.desk)

abbrev pub lone_refused_or : ℕ → Lone → (Answer × Lone) → Answer × Lone
lone_refused_or n l o = cond (eqb n 0) o (lone_done (answer.Refused n) l.market l.desk)

-- "An event that meets conditions of the table above gets the number found first and changes nothing .. Else: .."
unfoldable pub lone_outcome : Lone → List ℕ → Answer × Lone
lone_outcome l b = lone_refused_or (first_met (lone_conditions l b)) l (lone_applied l (change_of (event_in b)))

unfoldable pub lone_after : Lone → List (List ℕ) → Lone
lone_after l [] = l
lone_after l (b ∷ bs) = lone_after (lone_outcome l b).1 bs

unfoldable pub lone_answers : Lone → List (List ℕ) → List Answer
lone_answers l [] = []
lone_answers l (b ∷ bs) = (lone_outcome l b).0 ∷ lone_answers (lone_outcome l b).1 bs

-- the events that the lone run of k is fed: "the history's market events and of k's own"
abbrev pub fed_to : ℕ → Owner → Bool
fed_to k market = true
fed_to k (customer j) = eqb j k
fed_to k nobody = false

unfoldable pub is_fed : ℕ → ℕ → List ℕ → Bool
is_fed customers k b = fed_to k (owner_of customers b)

-- what is compared of a state: "the market's words and every word of k's desk"
unfoldable pub market_words : List ℕ → List ℕ
market_words w = take (security_place (header_of w).securities) w

unfoldable pub customer_words : List ℕ → ℕ → List ℕ
customer_words w k = part w (desk_place (header_of w).securities k) desk_size

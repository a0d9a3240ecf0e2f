-- The gate: words and an event's bytes to an answer and words; a history's answers and words.
use Rattle.std.specs.Prelude.{Bool, true, cond, ◌&&◌, not, List, [], ◌∷◌, ◌++◌, ℕ, ltb, eqb, length, Option, Some, None}
use Rattle.definitions.specs.declared.Security.{Security}
use Rattle.definitions.specs.declared.Range.{Range}
use Rattle.definitions.specs.declared.Desk.{Desk}
use Rattle.definitions.specs.declared.MarketView.{MarketView}
use Rattle.definitions.specs.declared.Order.{Order}
use Rattle.definitions.specs.declared.Event.{Event}
use Rattle.definitions.specs.declared.Verdict.{Verdict}
use Rattle.definitions.specs.Answers.{Answer}
use Rattle.definitions.specs.Answers as answer
use Rattle.definitions.specs.Lists.{all_below, each, put, first_met}
use Rattle.definitions.specs.State.{header_of, security_at, desk_at, put_security, put_desk, state_fits, sizes_fit, state_size, fresh, clock_place, session_place}
use Rattle.definitions.specs.Sound.{sound_security, sound_desk}
use Rattle.definitions.specs.Events.{event_in, bytes_conditions}
use Rattle.definitions.specs.Desks.{fresh_desk, session_row, changed, ordered}
use Rattle.definitions.specs.Securities.{without_projected}
use Rattle.definitions.specs.Changes.{Change, set_clock, set_session, set_security, enter_order, set_rows, change_of, Named, none, one, every, if_one, customer_named, security_named}
use Rattle.definitions.specs.Ranges.{has_range, range_of}
use Rattle.definitions.specs.Rules.{View, verdict_of}
use Rattle.definitions.specs.Refusals.{event_conditions}

-- an event is refused with a number, and "All lent words stay equal"; or it is done, with an answer and the words after it
pub data Outcome : Type 0 where
  refused : ℕ → Outcome
  done : Answer → List ℕ → Outcome

abbrev pub answer_of : Outcome → Answer
answer_of (refused n) = answer.Refused n
answer_of (done a w) = a

abbrev pub words_of : List ℕ → Outcome → List ℕ
words_of w (refused n) = w
words_of w (done a x) = x

-- what a call leaves
abbrev pub result_of : List ℕ → Outcome → Answer × List ℕ
result_of w o = (answer_of o, words_of w o)

-- what an event meets: the session, the clock, and the security and the desk that it names
abbrev pub market_view_at : List ℕ → ℕ → MarketView
market_view_at w s = record { session = (header_of w).session; clock = (header_of w).clock; security = security_at w s }

abbrev pub view_at : List ℕ → ℕ → ℕ → View
view_at w s k = record { market = market_view_at w s; desk = desk_at w k }

-- given the desk of each customer by its number, for the lone run has one; no condition asks for a record that is not named
abbrev pub view_by : (ℕ → Desk) → List ℕ → Event → View
view_by desks w e = record { market = market_view_at w (if_one 0 (λ s. s) (security_named e)); desk = if_one fresh_desk desks (customer_named e) }

abbrev pub view_of : List ℕ → Event → View
view_of w = view_by (desk_at w) w

-- 8: "a record that this kind reads is not sound: 2 reads all; 3 and 4 the security; 5 the security and the desk; 6 and 7 the desk", and so 8 and 9: what it names
abbrev pub sound_security_at : List ℕ → ℕ → Bool
sound_security_at w s = sound_security (security_at w s)

abbrev pub sound_desk_at : List ℕ → ℕ → Bool
sound_desk_at w k = sound_desk (header_of w).securities (header_of w).clock (desk_at w k)

abbrev pub sound_named : ℕ → (ℕ → Bool) → Named → Bool
sound_named n p none = true
sound_named n p (one i) = p i
sound_named n p every = all_below n p

abbrev pub records_sound : List ℕ → Event → Bool
records_sound w e =
    sound_named (header_of w).securities (sound_security_at w) (security_named e) && sound_named (header_of w).customers (sound_desk_at w) (customer_named e)

-- the whole table, from top to bottom; the conditions from 4 on speak of the event as the kind lays it out
unfoldable pub conditions : List ℕ → List ℕ → List (ℕ × Bool)
conditions w b =
    (1, not (state_fits w))
    ∷ (bytes_conditions b ++ event_conditions (header_of w) ((8, not (records_sound w (event_in b))) ∷ []) (view_of w (event_in b)) (event_in b))

-- paper 02, 3: the range of a security, for an order ticket; none also where the state, the security's number or its record would refuse an order for it
unfoldable pub daily_range : List ℕ → ℕ → Option Range
daily_range w s =
    cond
    (state_fits w && ltb s (header_of w).securities && sound_security_at w s && has_range (security_at w s))
    (Some (range_of (security_at w s).prior.close (security_at w s).figures))
    None

-- 0, the absent price, for none
abbrev pub floor_number : Option Range → ℕ
floor_number (Some r) = r.floor
floor_number None = 0

abbrev pub ceiling_number : Option Range → ℕ
ceiling_number (Some r) = r.ceiling
ceiling_number None = 0

-- a record of a state, changed where it stands
abbrev pub change_security : (Security → Security) → ℕ → List ℕ → List ℕ
change_security f s w = put_security w s (f (security_at w s))

abbrev pub change_desk : (Desk → Desk) → ℕ → List ℕ → List ℕ
change_desk f k w = put_desk w k (f (desk_at w k))

-- the market's side of a session change: the session, and every projected price absent
unfoldable pub session_market : ℕ → List ℕ → List ℕ
session_market session w = each (header_of w).securities (change_security without_projected) (put w session_place (session ∷ []))

-- "A session that differs from the present one removes all ATO and ATC rows and makes every projected price absent; the same session changes
-- nothing." Rows of type 3 go as ATO rows do (paper 02, 1).
unfoldable pub after_session : ℕ → List ℕ → List ℕ
after_session session w =
    cond (eqb session (header_of w).session) w (each (header_of w).customers (change_desk (changed session_row)) (session_market session w))

abbrev pub verdict_at : List ℕ → ℕ → Order → Verdict
verdict_at w k o = verdict_of (view_at w o.security k) o

-- an order's desk: counters and rows follow the verdict
abbrev pub ordered_at : List ℕ → ℕ → Order → Desk
ordered_at w k o = ordered (verdict_at w k o) (header_of w).clock o (desk_at w k)

-- what an event that meets no condition does
abbrev pub applied : List ℕ → Change → Outcome
applied w (set_clock t) = done answer.Ok (put w clock_place (t ∷ []))
applied w (set_session s) = done answer.Ok (after_session s w)
applied w (set_security s f) = done answer.Ok (change_security f s w)
applied w (enter_order k x) = done (answer.Verdict (verdict_at w k x)) (put_desk w k (ordered_at w k x))
applied w (set_rows k f) = done answer.Ok (change_desk (changed (f (header_of w).clock)) k w)

unfoldable pub perform : List ℕ → Event → Outcome
perform w e = applied w (change_of e)

abbrev pub refused_or : ℕ → Outcome → Outcome
refused_or n o = cond (eqb n 0) o (refused n)

-- one event's bytes handed to the gate over lent words: the number found first, or what the event does
unfoldable pub outcome : List ℕ → List ℕ → Outcome
outcome w b = refused_or (first_met (conditions w b)) (perform w (event_in b))

-- making a fresh state in lent words: "C, S, word count .. not as above (also on making a fresh state)"
unfoldable pub made : List ℕ → ℕ → ℕ → Outcome
made w customers securities =
    cond (sizes_fit customers securities && eqb (length w) (state_size customers securities)) (done answer.Ok (fresh customers securities)) (refused 1)

-- "A history is a list of events from a fresh state .. one call an event, and meets the words that the last call left"
abbrev pub event_words : List ℕ → List ℕ → List ℕ
event_words w b = words_of w (outcome w b)

abbrev pub event_answer : List ℕ → List ℕ → Answer
event_answer w b = answer_of (outcome w b)

unfoldable pub words_after : List ℕ → List (List ℕ) → List ℕ
words_after w [] = w
words_after w (b ∷ bs) = words_after (event_words w b) bs

-- the answers to those events of a history that a test picks, in order
unfoldable pub answers_to : (List ℕ → Bool) → List ℕ → List (List ℕ) → List Answer
answers_to p w [] = []
answers_to p w (b ∷ bs) = cond (p b) (event_answer w b ∷ answers_to p (event_words w b) bs) (answers_to p (event_words w b) bs)

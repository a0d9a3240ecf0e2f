-- A history run on the definitions. To unfold `answers_of` is to unfold all that an event needs, so that a case computes.
use mathlib.Core.Bool.{true}
use mathlib.Core.List.{List, [], ◌∷◌}
use Prim.Native.Nat.{ℕ}
use Rattle.ladder.specs.Ladder.{legal, band_of_price, last_band, position_of, nearest_to, legal_down, least_of_last}
use Rattle.definitions.specs.Answers.{Answer}
use Rattle.definitions.specs.Lists as lists
use Rattle.definitions.specs.State as state
use Rattle.definitions.specs.Sound as sound
use Rattle.definitions.specs.Events as events
use Rattle.definitions.specs.Desks as desks
use Rattle.definitions.specs.Ranges as ranges
use Rattle.definitions.specs.Rules as rules
use Rattle.definitions.specs.Securities as securities
use Rattle.definitions.specs.Gate as gate

unfoldable pub answers_of : ℕ → ℕ → List (List ℕ) → List Answer
unfolding legal band_of_price last_band position_of nearest_to legal_down least_of_last lists.any lists.all lists.count lists.keep lists.first_met lists.all_below lists.each lists.part lists.put lists.repeat state.header_of state.security_of state.security_words state.row_of state.row_words state.rows_of state.rows_words state.desk_of state.desk_words state.security_at state.desk_at state.put_security state.put_desk state.state_fits state.fresh_market state.fresh sound.sound_security sound.sound_row sound.marked_first sound.numbers_differ sound.sound_desk events.length_of events.event_of desks.close_up desks.edited desks.changed desks.added desks.counted desks.ordered ranges.base_of ranges.ceiling_of ranges.floor_of ranges.range_of rules.rule_s rules.rule_v rules.rule_c rules.rule_q rules.trades_with_own rules.rule_w rules.reenters rules.rule_p rules.warn30 rules.warn10 rules.verdict_of gate.daily_range gate.conditions securities.after_setup securities.after_prices securities.after_figures securities.without_projected gate.session_market gate.after_session gate.perform gate.outcome gate.answers_to
answers_of customers securities history = gate.answers_to (λ _. true) (state.fresh customers securities) history

-- the answer and the words that one event leaves, over any words
unfoldable pub result_on : List ℕ → List ℕ → Answer × List ℕ
unfolding answers_of
result_on w b = gate.result_of w (gate.outcome w b)

-- what the event does where it meets no condition
unfoldable pub performed_on : List ℕ → List ℕ → Answer × List ℕ
unfolding answers_of
performed_on w b = gate.result_of w (gate.perform w (events.event_in b))

-- the words after a history from a fresh state
unfoldable pub words_of : ℕ → ℕ → List (List ℕ) → List ℕ
unfolding answers_of gate.words_after
words_of customers securities history = gate.words_after (state.fresh customers securities) history

-- the answer to the last event of a history
abbrev pub last_of : List Answer → Answer → Answer
last_of [] a = a
last_of (b ∷ bs) a = last_of bs b

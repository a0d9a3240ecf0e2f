-- Conditions 4 to 8 of an event in a state that fits, asked in one place for all kinds, and what they leave to the function of a kind. The table itself is
-- in definitions/specs/Refusals.antt: these are its two parts.
use Rattle.std.specs.Prelude.{true, not, List, [], ◌∷◌, ◌++◌, ◌≡◌, ℕ}
use Rattle.definitions.specs.declared.Event.{Event}
use Rattle.definitions.specs.Lists.{first_met}
use Rattle.definitions.specs.State.{header_of, state_fits}
use Rattle.definitions.specs.Refusals.{early_conditions, later_conditions, event_conditions}
use Rattle.definitions.specs.Gate.{Outcome, records_sound, view_of, perform, refused_or}

-- what an event does in a state that fits
unfoldable pub event_outcome : List ℕ → Event → Outcome
event_outcome w e = refused_or (first_met (event_conditions (header_of w) ((8, not (records_sound w e)) ∷ []) (view_of w e) e)) (perform w e)

unfoldable pub first_refusal : List ℕ → Event → ℕ
first_refusal w e = first_met (early_conditions (header_of w) e ++ ((8, not (records_sound w e)) ∷ []))

-- what a kind's function is handed on: a state that fits, and an event that meets none of the conditions 4 to 8
pub record Ready (w : List ℕ) (e : Event) : Type 0 where
  pub fits : state_fits w ≡ true
  pub passed : first_refusal w e ≡ 0

-- what it decides: the conditions after 8, or what the event does
unfoldable pub later_refusal : List ℕ → Event → ℕ
later_refusal w e = first_met (later_conditions (view_of w e) e)

unfoldable pub later_outcome : List ℕ → Event → Outcome
later_outcome w e = refused_or (later_refusal w e) (perform w e)

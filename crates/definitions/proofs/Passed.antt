-- The table of an event in a state: what an event that meets none of its conditions has passed, condition by condition, each by its number.
-- Assumes nothing.
use mathlib.Core.Bool.{Bool, true, false, cond, ◌||◌, not}
use mathlib.Core.List.{List, [], ◌∷◌}
use mathlib.Core.Path.{◌≡◌, refl, ap, ◌∙◌}
use Prim.Native.Nat.{ℕ}
use native.Mathlib.Omega.{arith}
use lib.Dec.{eqb}
use Rattle.definitions.specs.declared.Event.{Event}
use Rattle.definitions.specs.declared.Event.TheVariants as event
use Rattle.definitions.specs.Answers as answer
use Rattle.definitions.specs.Lists.{all, first_met}
use Rattle.definitions.specs.State.{header_of, state_fits}
use Rattle.definitions.specs.Events.{event_in, bytes_conditions}
use Rattle.definitions.specs.Refusals.{beyond, event_conditions}
use Rattle.definitions.specs.Changes.{Change, set_clock, set_session, set_security, enter_order, set_rows, change_of, named}
use Rattle.definitions.specs.Gate.{answer_of, view_of, records_sound, conditions, applied, perform, refused_or, outcome, event_answer}
use Rattle.definitions.proofs.Table.{Numbered, met, unmet, first-append, none-append}

abbrev pub table : List ℕ → Event → List (ℕ × Bool)
table w e = event_conditions (header_of w) ((8, not (records_sound w e)) ∷ []) (view_of w e) e

abbrev pub Passed : List ℕ → Event → Type 0
Passed w e = first_met (table w e) ≡ 0

pub numbered-bytes : (b : List ℕ) → Numbered (bytes_conditions b)
unfolding all
numbered-bytes b = refl

pub numbered-state : (w b : List ℕ) → Numbered ((1, not (state_fits w)) ∷ bytes_conditions b)
unfolding all
numbered-state w b = refl

pub numbered-table : (w : List ℕ) (e : Event) → Numbered (table w e)
unfolding all
numbered-table w (event.Clock t) = refl
numbered-table w (event.Session s) = refl
numbered-table w (event.Setup x) = refl
numbered-table w (event.Prices x) = refl
numbered-table w (event.Order k x) = refl
numbered-table w (event.Cancel k x) = refl
numbered-table w (event.Match k x) = refl
numbered-table w (event.Rest k x) = refl
numbered-table w (event.Figures x) = refl

-- what an event does is never answered with a refusal
pub never-refused : (w : List ℕ) (e : Event) (n : ℕ) → answer_of (perform w e) ≡ answer.Refused n → ⊥
unfolding perform
never-refused w e = go (change_of e)
  where
    go : (c : Change) (n : ℕ) → answer_of (applied w c) ≡ answer.Refused n → ⊥
    go (set_clock t) n is = let no : ◌≡◌ {A = ℕ} 0 1 = cc in omega arith
    go (set_session s) n is = let no : ◌≡◌ {A = ℕ} 0 1 = cc in omega arith
    go (set_security s f) n is = let no : ◌≡◌ {A = ℕ} 0 1 = cc in omega arith
    go (enter_order k x) n is = let no : ◌≡◌ {A = ℕ} 0 1 = cc in omega arith
    go (set_rows k f) n is = let no : ◌≡◌ {A = ℕ} 0 1 = cc in omega arith

-- the condition with a number is not met
pub passed : (n : ℕ) (w : List ℕ) (e : Event) → Passed w e → met n (table w e) ≡ false
passed n w e p = unmet n (table w e) (numbered-table w e) p

-- condition 4 is not met: whom and what a change names is there. Of an event that has passed this is `passed 4`
abbrev pub Inside : List ℕ → Change → Type 0
Inside w c = (beyond (header_of w).customers (named c).0 || beyond (header_of w).securities (named c).1) ≡ false

module _ (w b : List ℕ) where
  -- where no condition of the whole table is met, the bytes are an event and it has passed
  pub none-met-bytes : first_met (conditions w b) ≡ 0 → first_met (bytes_conditions b) ≡ 0
  unfolding conditions all
  none-met-bytes none =
      let rest = none-append ((1, not (state_fits w)) ∷ bytes_conditions b) (table w (event_in b)) (numbered-state w b) none in
      (none-append ((1, not (state_fits w)) ∷ []) (bytes_conditions b) refl rest.0).1

  pub none-met-event : first_met (conditions w b) ≡ 0 → Passed w (event_in b)
  unfolding conditions
  none-met-event none =
      (none-append ((1, not (state_fits w)) ∷ bytes_conditions b) (table w (event_in b)) (numbered-state w b) none).1

  -- in a state that fits: conditions 2 and 3, and then the event's table
  pub outcome-read : state_fits w ≡ true
      → outcome w b ≡ refused_or (cond (eqb (first_met (bytes_conditions b)) 0) (first_met (table w (event_in b))) (first_met (bytes_conditions b))) (perform w (event_in b))
  unfolding outcome conditions first_met
  outcome-read fits =
      rw fits (ap (λ (n : ℕ). refused_or n (perform w (event_in b))) (first-append (bytes_conditions b) (table w (event_in b)) (numbered-bytes b)))

  -- the answer to an event that is read whole
  pub answer-read : state_fits w ≡ true → first_met (bytes_conditions b) ≡ 0 → {e : Event} → event_in b ≡ e → (n : ℕ) → first_met (table w e) ≡ n
      → event_answer w b ≡ answer_of (refused_or n (perform w e))
  answer-read fits read is n first = ap answer_of (outcome-read fits) ∙ rw (read, is, first)

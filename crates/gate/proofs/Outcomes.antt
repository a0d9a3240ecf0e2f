-- The gate's entries: what a state that does not fit, bytes that are no event and a whole event lead to; and a fresh state.
-- Assumes nothing.
use mathlib.Core.Bool.{Bool, true, false, cond, ◌&&◌, and-false}
use mathlib.Core.List.{List}
use mathlib.Core.Path.{◌≡◌, refl, ap, sym, ◌∙◌}
use Prim.Native.Nat.{ℕ}
use Rattle.std.specs.Prelude.{Result, Ok, Err}
use lib.Dec.{eqb}
use native.Mathlib.Omega.{arith}
use lib.ListN.{length}
use borrow.Author.Tests.{eq-eqb, ne_eqb}
use Rattle.definitions.specs.declared.Event.{Event}
use Rattle.definitions.specs.declared.Refusal.{Refusal}
use Rattle.definitions.specs.declared.Refusal.TheVariants as refusal
use Rattle.definitions.specs.Answers.{Answer, by_number, refusal_number, refused_by}
use Rattle.definitions.specs.Answers as answer
use Rattle.definitions.specs.Lists.{first_met}
use Rattle.definitions.specs.State.{state_fits, sizes_fit, state_size, fresh}
use Rattle.definitions.specs.Events.{event_in}
use Rattle.definitions.specs.Gate.{Outcome, refused, done, result_of, conditions, perform, refused_or, outcome, made}
use Rattle.definitions.proofs.Passed.{table, outcome-read}
use Rattle.events.specs.Readings.{unread_by, read_event}
use Rattle.kind_contract.specs.First.{first_refusal, Ready, later_outcome, event_outcome}
use Rattle.kind_contract.proofs.Laws.{by_parts}

-- an answer and the words after it
abbrev pub Left : Type 0
Left = Answer × List ℕ

abbrev outcome_of : List ℕ → Result Event ℕ → Outcome
outcome_of w (Err n) = refused n
outcome_of w (Ok e) = event_outcome w e

module _ (w b : List ℕ) where
  pub outcome-misfit : state_fits w ≡ false → ◌≡◌ {A = Left} (answer.Refused 1, w) (result_of w (outcome w b))
  unfolding outcome conditions first_met
  outcome-misfit e = rw e

  reads : state_fits w ≡ true → outcome w b ≡ outcome_of w (read_event b)
  unfolding read_event event_outcome
  reads fits = outcome-read w b fits ∙ go (unread_by b) (eqb (unread_by b) 0) refl
    where
      go : (n : ℕ) (t : Bool) → eqb n 0 ≡ t
          → refused_or (cond t (first_met (table w (event_in b))) n) (perform w (event_in b)) ≡ outcome_of w (cond t (Ok (event_in b)) (Err n))
      go n true zero = refl
      go n false some = rw some

  pub outcome-refused : state_fits w ≡ true → {r : Result Event Refusal} → by_number r ≡ read_event b → {x : Refusal} → r ≡ Err x
      → ◌≡◌ {A = Left} (answer.Refused (refusal_number x), w) (result_of w (outcome w b))
  outcome-refused fits er ex = ap (λ (x : Result Event ℕ). result_of w (outcome_of w x)) (ap by_number (sym ex) ∙ er) ∙ ap (result_of w) (sym (reads fits))

  pub outcome-whole : state_fits w ≡ true → {r : Result Event Refusal} → by_number r ≡ read_event b → {e : Event} → r ≡ Ok e → {x : Left} → x ≡ result_of w (event_outcome w e) → x ≡ result_of w (outcome w b)
  outcome-whole fits er ew ex =
      ex ∙ ap (λ (x : Result Event ℕ). result_of w (outcome_of w x)) (ap by_number (sym ew) ∙ er) ∙ ap (result_of w) (sym (reads fits))

-- no condition has the number 0
numbered-some : (x : Refusal) → refusal_number x ≡ 0 → ⊥
numbered-some refusal.State e = omega (arith, e)
numbered-some refusal.Length e = omega (arith, e)
numbered-some refusal.Kind e = omega (arith, e)
numbered-some refusal.Name e = omega (arith, e)
numbered-some refusal.Code e = omega (arith, e)
numbered-some refusal.Price e = omega (arith, e)
numbered-some refusal.Time e = omega (arith, e)
numbered-some refusal.Record e = omega (arith, e)
numbered-some refusal.NumberTaken e = omega (arith, e)
numbered-some refusal.NoOpenRow e = omega (arith, e)
numbered-some refusal.Volume e = omega (arith, e)
numbered-some refusal.FullDesk e = omega (arith, e)
numbered-some refusal.Figures e = omega (arith, e)

-- an event: conditions 4 to 8, or its kind's function
module _ (w : List ℕ) (e : Event) {r : Result (Unit {0}) Refusal} (first : refused_by r ≡ first_refusal w e) where
  pub event-refused : {x : Refusal} → r ≡ Err x → ◌≡◌ {A = Left} (answer.Refused (refusal_number x), w) (result_of w (event_outcome w e))
  event-refused {x} met =
      ap (λ (t : Bool). result_of w (cond t (later_outcome w e) (refused (refusal_number x)))) (sym (ne_eqb (refusal_number x) 0 (numbered-some x)))
      ∙ ap (λ (m : ℕ). result_of w (cond (eqb m 0) (later_outcome w e) (refused m))) (ap refused_by (sym met) ∙ first)
      ∙ ap (result_of w) (sym (by_parts w e))

  module _ {u : Unit {0}} (passed : r ≡ Ok u) where
    none-met : first_refusal w e ≡ 0
    none-met = sym first ∙ ap refused_by passed

    pub event-ready : state_fits w ≡ true → Ready w e
    event-ready fits = record { fits = fits; passed = none-met }

    pub event-later : {x : Left} → x ≡ result_of w (later_outcome w e) → x ≡ result_of w (event_outcome w e)
    event-later does =
        does
        ∙ ap (λ (n : ℕ). result_of w (cond (eqb n 0) (later_outcome w e) (refused n))) (sym none-met)
        ∙ ap (result_of w) (sym (by_parts w e))

module _ (w : List ℕ) (customers securities : ℕ) where
  pub make-misfit : sizes_fit customers securities ≡ false → ◌≡◌ {A = Left} (answer.Refused 1, w) (result_of w (made w customers securities))
  unfolding made
  make-misfit e = ap (λ (t : Bool). result_of w (cond (t && eqb (length w) (state_size customers securities)) (done answer.Ok (fresh customers securities)) (refused 1))) (sym e)

  pub make-other-length : (length w ≡ state_size customers securities → ⊥) → ◌≡◌ {A = Left} (answer.Refused 1, w) (result_of w (made w customers securities))
  unfolding made
  make-other-length e =
      ap (λ (t : Bool). result_of w (cond t (done answer.Ok (fresh customers securities)) (refused 1)))
      (sym (ap (λ (t : Bool). sizes_fit customers securities && t) (ne_eqb (length w) (state_size customers securities) e) ∙ and-false (sizes_fit customers securities)))

  pub make-done : sizes_fit customers securities ≡ true → length w ≡ state_size customers securities → {v : List ℕ} → v ≡ fresh customers securities → ◌≡◌ {A = Left} (answer.Ok, v) (result_of w (made w customers securities))
  unfolding made
  make-done fit long ev =
      ap {B = Left} (λ (x : List ℕ). (answer.Ok, x)) ev
      ∙ ap (λ (t : Bool). result_of w (cond t (done answer.Ok (fresh customers securities)) (refused 1)))
      (sym (ap (λ (t : Bool). t && eqb (length w) (state_size customers securities)) fit ∙ eq-eqb (length w) (state_size customers securities) long))

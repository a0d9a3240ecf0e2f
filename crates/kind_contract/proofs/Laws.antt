-- The two parts of an event's table: conditions 4 to 8, and what they leave to the function of a kind.
-- Assumes nothing.
use mathlib.Core.Bool.{Bool, true, false, cond, not}
use mathlib.Core.List.{List, [], ◌∷◌, ◌++◌, append_assoc}
use mathlib.Core.Path.{◌≡◌, refl, ap, sym, subst, ◌∙◌}
use Prim.Native.Nat.{ℕ, ◌≤◌, ◌+◌}
use lib.Dec.{eqb}
use borrow.Author.Tests.{leb-false, not-false}
use Rattle.definitions.specs.declared.Event.{Event}
use Rattle.definitions.specs.Answers.{Answer}
use Rattle.definitions.specs.Answers as answer
use Rattle.definitions.specs.Lists.{first_met}
use Rattle.definitions.specs.State.{header_of, header_size, security_size, desk_size, security_place, desk_place, desk_at}
use Rattle.definitions.specs.Changes.{Named, one, customer_named, security_named}
use Rattle.definitions.specs.Refusals.{beyond, bad_name, early_conditions, later_conditions}
use Rattle.definitions.specs.Gate.{refused, result_of, sound_security_at, sound_desk_at, sound_named, records_sound, view_of, perform, refused_or}
use Rattle.definitions.specs.Desks.{close_up}
use Rattle.definitions.proofs.Tests.{and_parts, or_parts}
use Rattle.definitions.proofs.SoundDesk.{SoundRows, desk-true}
use Rattle.definitions.proofs.RestRows.{closed-up}
use Rattle.definitions.proofs.Table.{Numbered, met, unmet, first-append, numbered-first}
use Rattle.definitions.proofs.Passed.{table, numbered-table}
use Rattle.kind_contract.specs.First.{event_outcome, first_refusal, Ready, later_refusal, later_outcome}
use Rattle.state.proofs.Fits.{fits-header, fits-security, fits-desk}
use lib.ListN.{length}

abbrev pub first : List ℕ → Event → List (ℕ × Bool)
first w e = early_conditions (header_of w) e ++ ((8, not (records_sound w e)) ∷ [])

abbrev later : List ℕ → Event → List (ℕ × Bool)
later w e = later_conditions (view_of w e) e

module _ (w : List ℕ) (e : Event) where
  joined : first w e ++ later w e ≡ table w e
  joined = append_assoc (early_conditions (header_of w) e) ((8, not (records_sound w e)) ∷ []) (later w e)

  numbered : Numbered (first w e)
  numbered = numbered-first (first w e) (later w e) (rw joined (numbered-table w e))

  -- the event's whole table is the one part and then the other
  pub by_parts : event_outcome w e ≡ cond (eqb (first_refusal w e) 0) (later_outcome w e) (refused (first_refusal w e))
  unfolding event_outcome first_refusal later_refusal later_outcome
  by_parts =
      ap (λ (n : ℕ). refused_or n (perform w e)) (ap first_met (sym joined) ∙ first-append (first w e) (later w e) numbered) ∙ split (first_met (first w e)) (eqb (first_met (first w e)) 0) refl
    where
      split : (n : ℕ) (t : Bool) → eqb n 0 ≡ t → refused_or (cond t (first_met (later w e)) n) (perform w e) ≡ cond t (refused_or (first_met (later w e)) (perform w e)) (refused n)
      split n true zero = refl
      split n false some = rw some

  -- a condition after 8 is met
  pub later-refused : (n : ℕ) → eqb n 0 ≡ false → later_refusal w e ≡ n → ◌≡◌ {A = Answer × List ℕ} (answer.Refused n, w) (result_of w (later_outcome w e))
  unfolding later_outcome
  later-refused n some first = rw (first, some)

  -- a market event meets none
  pub nothing-later : later_conditions (view_of w e) e ≡ [] → later_refusal w e ≡ 0
  unfolding later_refusal first_met
  nothing-later nothing = ap first_met nothing

  -- none is: the event does what it does
  pub later-done : later_refusal w e ≡ 0 → {x : Answer × List ℕ} → x ≡ result_of w (perform w e) → x ≡ result_of w (later_outcome w e)
  unfolding later_outcome
  later-done none does = does ∙ rw none

  -- the words have what a kind's function takes out of them, and what an event names is there
  module _ (ready : Ready w e) where
    -- each of the conditions 4 to 8, by its number
    pub unmet-first : (n : ℕ) → met n (first w e) ≡ false
    unfolding first_refusal
    unmet-first n = unmet n (first w e) numbered ready.passed

    named : bad_name (header_of w) e ≡ false
    named = unmet-first 4

    parts : (beyond (header_of w).customers (customer_named e) ≡ false) × (beyond (header_of w).securities (security_named e) ≡ false)
    parts = or_parts (beyond (header_of w).customers (customer_named e)) (beyond (header_of w).securities (security_named e)) named

    pub header-fits : header_size ≤ length w
    header-fits = fits-header w ready.fits

    pub security-fits : (s : ℕ) → security_named e ≡ one s → security_place s + security_size ≤ length w
    security-fits s own = fits-security w ready.fits s (leb-false (header_of w).securities s (rw own at parts.1))

    pub desk-fits : (k : ℕ) → customer_named e ≡ one k → desk_place (header_of w).securities k + desk_size ≤ length w
    desk-fits k own = fits-desk w ready.fits k (leb-false (header_of w).customers k (rw own at parts.0))

  -- condition 8 of an event that names a customer
  module _ (read : not (records_sound w e) ≡ false) (k : ℕ) (own : customer_named e ≡ one k) where
    pub desk-sound : SoundRows (header_of w).securities (header_of w).clock (desk_at w k).rows
    desk-sound =
        let h = header_of w in
        let sound = (and_parts (sound_named h.securities (sound_security_at w) (security_named e)) (sound_named h.customers (sound_desk_at w) (customer_named e)) (not-false (records_sound w e) read)).1 in
        desk-true h.securities h.clock (desk_at w k) (subst (λ (x : Named). sound_named h.customers (sound_desk_at w) x ≡ true) own sound)

    pub desk-closed : close_up (desk_at w k).rows ≡ (desk_at w k).rows
    desk-closed = closed-up (header_of w).securities (header_of w).clock (desk_at w k).rows desk-sound.each desk-sound.first

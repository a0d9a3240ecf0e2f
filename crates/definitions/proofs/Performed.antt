-- What an event that meets no condition does to the header, and to the desk of a customer; and what it therefore keeps.
-- Assumes nothing.
use mathlib.Core.Bool.{Bool, true, false, true≢false}
use mathlib.Core.List.{List}
use mathlib.Core.Path.{◌≡◌, refl, sym, subst, ◌∙◌}
use Prim.Native.Nat.{ℕ, ◌<◌}
use native.Mathlib.Omega.{arith}
use lib.Dec.{eqb}
use borrow.Author.Tests.{eqb-true}
use Rattle.definitions.specs.declared.Header.{Header}
use Rattle.definitions.specs.declared.Desk.{Desk}
use Rattle.definitions.specs.declared.Event.{Event}
use Rattle.definitions.specs.Answers.{Answer}
use Rattle.definitions.specs.Lists.{first_met}
use Rattle.definitions.specs.State.{header_of, desk_at}
use Rattle.definitions.specs.Events.{event_in}
use Rattle.definitions.specs.Changes.{Change, set_clock, set_session, set_security, enter_order, set_rows, change_of, named, customer_named, owner_named}
use Rattle.definitions.specs.Gate.{Outcome, words_of, conditions, after_session, applied, perform, outcome, event_words}
use Rattle.definitions.specs.Lone.{Lone, lone_applied, fed_to}
use Rattle.definitions.proofs.Tests.{either}
use Rattle.definitions.proofs.State as state
use Rattle.definitions.proofs.HeaderWords as words
use Rattle.definitions.proofs.HeaderWords.{with_session}
use Rattle.definitions.proofs.Passed.{Passed, passed, Inside, none-met-event}
use Rattle.definitions.proofs.ByKind.{header_in, header_by, kind-header}
use Rattle.definitions.proofs.SoundDesk as desk
use Rattle.definitions.proofs.WellFormed.{Good, below-securities, order-names, customer-named}
use Rattle.definitions.proofs.Isolation.{lone_of, same-perform, other-perform}
use Rattle.definitions.proofs.SessionChange.{changed-words}

-- an event of another customer leaves the header
pub other-header : (customers k : ℕ) (c : Change) (h : Header) → fed_to k (owner_named customers (named c).0) ≡ false → header_in c h ≡ h
other-header customers k (set_clock t) h other = absurd (true≢false other)
other-header customers k (set_session s) h other = absurd (true≢false other)
other-header customers k (set_security s f) h other = refl
other-header customers k (enter_order j x) h other = refl
other-header customers k (set_rows j f) h other = refl

-- what holds of the words before an event, and of those after what it does, holds of those that the gate leaves
pub kept-by-event : (P : List ℕ → Type 0) (w : List ℕ) → P w → ((e : Event) → Passed w e → P (words_of w (perform w e))) → (b : List ℕ) → P (event_words w b)
unfolding outcome
kept-by-event P w left done b =
    let first = first_met (conditions w b) in
    either (λ (o : Outcome). P (words_of w o)) (eqb first 0) _ _ (λ unmet. done (event_in b) (none-met-event w b (eqb-true first 0 unmet))) (λ _. left)

module _ {customers securities : ℕ} (w : List ℕ) (good : Good customers securities w) where
  header-applied : (c : Change) → Inside w c → header_of (words_of w (applied w c)) ≡ header_in c (header_of w)
  unfolding after_session
  header-applied (set_clock t) inside = words.header-clock t w (omega (arith, good.sized.long))
  header-applied (set_session s) inside =
      either (λ (v : List ℕ). header_of v ≡ with_session s (header_of w)) (eqb s (header_of w).session) _ _
      (λ same. rw (eqb-true s (header_of w).session same)) (λ _. (changed-words w good s).header)
  header-applied (set_security s f) inside = state.header-put-security w good.sized s (below-securities w good s inside) _
  header-applied (enter_order k x) inside =
      state.header-put-desk w good.sized k (order-names w good k x.security inside).0 _
      (desk.length-ordered _ (header_of w).clock x (desk_at w k) ∙ state.length-desk-rows w k)
  header-applied (set_rows k f) inside =
      state.header-put-desk w good.sized k (customer-named w good k inside) _ (desk.length-changed _ (desk_at w k) ∙ state.length-desk-rows w k)

  pub header-changed : (e : Event) → Passed w e → header_of (words_of w (perform w e)) ≡ header_in (change_of e) (header_of w)
  unfolding perform
  header-changed e p = header-applied (change_of e) (passed 4 w e p)

  pub header-performed : (e : Event) → Passed w e → header_of (words_of w (perform w e)) ≡ header_by e (header_of w)
  header-performed e p = header-changed e p ∙ kind-header e (header_of w)

  -- a customer's desk is after an event as the lone run has it, or as it was where the event is neither the market's nor that customer's
  pub desk-performed : (P : Desk → Type 0) (k : ℕ) → k < customers → (e : Event) → Passed w e
      → (fed_to k (owner_named customers (customer_named e)) ≡ false → P (desk_at w k))
      → P (lone_applied (lone_of w k) (change_of e)).1.desk
      → P (desk_at (words_of w (perform w e)) k)
  desk-performed P k below e p left done = go (fed_to k (owner_named customers (customer_named e))) refl
    where
      go : (t : Bool) → fed_to k (owner_named customers (customer_named e)) ≡ t → P (desk_at (words_of w (perform w e)) k)
      go true fed = subst (λ (x : Answer × Lone). P x.1.desk) (same-perform w good k below e fed p) done
      go false other = subst (λ (l : Lone). P l.desk) (sym (other-perform w good k below e other p)) (left other)

-- A well-formed state: its sizes, clock and session fit and every record is sound. Each event keeps it, so conditions 1 and 8 never arise in a history.
-- Assumes nothing.
use mathlib.Core.Bool.{Bool, true, false, cond, ◌||◌}
use mathlib.Core.List.{List, [], ◌∷◌}
use mathlib.Core.Logic.{◌⊎◌, inl, inr, ⊎_elim}
use mathlib.Core.Path.{◌≡◌, refl, ap, ◌∙◌}
use Prim.Native.Nat.{ℕ, zero, suc, ◌≤◌, ◌<◌}
use native.Mathlib.Nat.{le_refl}
use native.Mathlib.Omega.{arith}
use lib.Dec.{leb, eqb, lit≤, lit<}
use lib.ListN.{length}
use borrow.Author.Tests.{eq-eqb, le-leb, leb-false, eqb-true, lt-leb}
use Rattle.definitions.specs.declared.Header.{Header}
use Rattle.definitions.specs.declared.Security.{Security}
use Rattle.definitions.specs.declared.Row.{Row}
use Rattle.definitions.specs.declared.Desk.{Desk}
use Rattle.definitions.specs.declared.Event.{Event}
use Rattle.definitions.specs.Codes.{last_time, pre_close, desk_rows}
use Rattle.definitions.specs.Lists.{all_below, each, put, first_met}
use Rattle.definitions.specs.State.{header_of, security_at, desk_at, put_security, put_desk, state_fits, sizes_fit, state_size, session_place, header_size, clock_place}
use Rattle.definitions.specs.Sound.{sound_security, sound_row, sound_desk}
use Rattle.definitions.specs.Events.{event_in}
use Rattle.definitions.specs.Changes.{Change, set_clock, set_session, set_security, enter_order, set_rows, change_of, Named, none, one, every, customer_named, security_named}
use Rattle.definitions.specs.Refusals.{beyond, bad_name}
use Rattle.definitions.specs.Gate.{refused, words_of, sound_security_at, sound_desk_at, sound_named, records_sound, conditions, change_desk, session_market, after_session, applied, perform, outcome, event_words}
use Rattle.definitions.proofs.Tests.{and-whole, or_parts}
use Rattle.definitions.proofs.State as state
use Rattle.definitions.proofs.State.{Sized}
use Rattle.definitions.proofs.HeaderWords as words
use Rattle.definitions.proofs.Passed.{Passed, passed, Inside, none-met-event}
use Rattle.definitions.proofs.ByKind.{Keeps, kind-keeps}
use Rattle.definitions.proofs.Session.{Cleared, clears, DesksChanged, changes}
use Rattle.definitions.proofs.Rows.{KeepsNumbers}
use Rattle.definitions.proofs.SoundDesk as desk
use Rattle.definitions.proofs.SoundSecurity as security
use Rattle.definitions.proofs.SoundRow.{session-sound, session-kept}
use Rattle.definitions.specs.Desks.{session_row, changed}

pub record Good (customers securities : ℕ) (w : List ℕ) : Type 0 where
  pub sized : Sized customers securities w
  pub served : (header_of w).customers ≡ customers
  pub fit : sizes_fit customers securities ≡ true
  pub clock : (header_of w).clock ≤ last_time
  pub session : (header_of w).session ≤ pre_close
  pub securities-sound : (s : ℕ) → s < securities → sound_security (security_at w s) ≡ true
  pub desks-sound : (k : ℕ) → k < customers → sound_desk securities (header_of w).clock (desk_at w k) ≡ true

all-below : (n : ℕ) (p : ℕ → Bool) → ((i : ℕ) → i < n → p i ≡ true) → all_below n p ≡ true
unfolding all_below
all-below zero p h = refl
all-below (suc n) p h = rw (all-below n p (λ i less. h i (omega arith))) (h n (omega arith))

-- a test that holds of every number below n holds of what an event names
named-sound : (n : ℕ) (p : ℕ → Bool) (x : Named) → ((i : ℕ) → i < n → p i ≡ true) → beyond n x ≡ false → sound_named n p x ≡ true
named-sound n p none h inside = refl
named-sound n p (one i) h inside = h i (leb-false n i inside)
named-sound n p every h inside = all-below n p h

-- condition 4 of an event that names a customer and no security
abbrev pub bad_customer : List ℕ → ℕ → Bool
bad_customer w k = leb (header_of w).customers k || false

abbrev pub session_set : ℕ → List ℕ → List ℕ
session_set s w = put w session_place (s ∷ [])

pub compared : (a b : ℕ) → (a < b) ⊎ ((a ≡ b) ⊎ (b < a))
compared zero zero = inr (inl refl)
compared zero (suc b) = inl (omega arith)
compared (suc a) zero = inr (inr (omega arith))
compared (suc a) (suc b) =
    ⊎_elim (λ less. inl (omega arith)) (⊎_elim (λ e. inr (inl (ap suc e))) (λ more. inr (inr (omega arith)))) (compared a b)

module _ {customers securities : ℕ} (w : List ℕ) (good : Good customers securities w) where
  pub fits : state_fits w ≡ true
  unfolding state_fits
  fits =
      rw (
        good.served,
        good.sized.counted,
        good.fit,
        eq-eqb (length w) (state_size customers securities) good.sized.long,
        le-leb (header_of w).clock last_time good.clock,
      )
      (le-leb (header_of w).session pre_close good.session)

  pub desk-sound : (k : ℕ) → k < customers → sound_desk_at w k ≡ true
  desk-sound k below = rw good.sized.counted (good.desks-sound k below)

  -- condition 8 is not met by an event that names what is there
  pub records-sound : (e : Event) → bad_name (header_of w) e ≡ false → records_sound w e ≡ true
  records-sound e n =
      let parts = or_parts (beyond (header_of w).customers (customer_named e)) (beyond (header_of w).securities (security_named e)) n in
      and-whole
      (named-sound (header_of w).securities (sound_security_at w) (security_named e) (λ s below. good.securities-sound s (rw good.sized.counted at below)) parts.1)
      (named-sound (header_of w).customers (sound_desk_at w) (customer_named e) (λ k below. desk-sound k (rw good.served at below)) parts.0)

  -- a record put back
  pub good-put-security : (s : ℕ) (x : Security) → s < securities → sound_security x ≡ true → Good customers securities (put_security w s x)
  good-put-security s x below sound =
      let header = state.header-put-security w good.sized s below x in
      let clock = ap (λ (h : Header). h.clock) header in
      let session = ap (λ (h : Header). h.session) header in
      record {
        sized = state.sized-put-security w good.sized s below x;
        served = ap (λ (h : Header). h.customers) header ∙ good.served;
        fit = good.fit;
        clock = rw clock good.clock;
        session = rw session good.session;
        securities-sound = λ t t-below. kept t t-below (compared t s);
        desks-sound = λ k k-below. rw (clock, state.desk-put-security w good.sized s below x k) (good.desks-sound k k-below);
      }
    where
      kept : (t : ℕ) → t < securities → (t < s) ⊎ ((t ≡ s) ⊎ (s < t)) → sound_security (security_at (put_security w s x) t) ≡ true
      kept t t-below (inl less) = rw (state.security-put-below w good.sized s below x t less) (good.securities-sound t t-below)
      kept t t-below (inr (inl e)) = rw (e, state.security-put-same w good.sized s below x) sound
      kept t t-below (inr (inr more)) = rw (state.security-put-above w good.sized s below x t more) (good.securities-sound t t-below)

  pub good-put-desk : (k : ℕ) (d : Desk) → k < customers → length d.rows ≡ desk_rows → sound_desk securities (header_of w).clock d ≡ true → Good customers securities (put_desk w k d)
  good-put-desk k d below whole sound =
      let header = state.header-put-desk w good.sized k below d whole in
      let clock = ap (λ (h : Header). h.clock) header in
      let session = ap (λ (h : Header). h.session) header in
      record {
        sized = state.sized-put-desk w good.sized k below d whole;
        served = ap (λ (h : Header). h.customers) header ∙ good.served;
        fit = good.fit;
        clock = rw clock good.clock;
        session = rw session good.session;
        securities-sound = λ s s-below. rw (state.security-put-desk w good.sized k below d whole s s-below) (good.securities-sound s s-below);
        desks-sound = λ j j-below. rw clock (kept j j-below (compared j k));
      }
    where
      kept : (j : ℕ) → j < customers → (j < k) ⊎ ((j ≡ k) ⊎ (k < j)) → sound_desk securities (header_of w).clock (desk_at (put_desk w k d) j) ≡ true
      kept j j-below (inl less) = rw (state.desk-put-below w good.sized k below d whole j less) (good.desks-sound j j-below)
      kept j j-below (inr (inl e)) = rw (e, state.desk-put-same w good.sized k below d whole) sound
      kept j j-below (inr (inr more)) = rw (state.desk-put-above w good.sized k below d whole j more) (good.desks-sound j j-below)

  long-enough : header_size ≤ length w
  long-enough = omega (arith, good.sized.long)

  pub good-clock : (t : ℕ) → t ≤ last_time → (header_of w).clock ≤ t → Good customers securities (put w clock_place (t ∷ []))
  good-clock t last later =
      let header = words.header-clock t w long-enough in
      record {
        sized = words.sized-put w good.sized 2 (lit≤ tt) (lit< tt) t;
        served = ap (λ (h : Header). h.customers) header ∙ good.served;
        fit = good.fit;
        clock = rw (ap (λ (h : Header). h.clock) header) last;
        session = rw (ap (λ (h : Header). h.session) header) good.session;
        securities-sound = λ s below. rw (words.security-put w good.sized 2 (lit≤ tt) (lit< tt) t s) (good.securities-sound s below);
        desks-sound =
            λ k below.
            rw (ap (λ (h : Header). h.clock) header, words.desk-put w good.sized 2 (lit≤ tt) (lit< tt) t k)
            (desk.sound-later securities (header_of w).clock t (desk_at w k) later (good.desks-sound k below));
      }

  -- the session set, then every projected price absent, then every desk changed
  sized-session : (s : ℕ) → Sized customers securities (session_set s w)
  sized-session s = words.sized-put w good.sized 3 (lit≤ tt) (lit< tt) s

  pub cleared : (s : ℕ) → Cleared customers securities securities (session_set s w) (session_market s w)
  unfolding session_market
  cleared s = rw good.sized.counted (clears securities (session_set s w) (sized-session s) (le_refl securities))

  pub whole-session : (s : ℕ) → DesksChanged customers securities customers (session_market s w) (each (header_of w).customers (change_desk (changed session_row)) (session_market s w))
  whole-session s = rw good.served (changes customers (session_market s w) (cleared s).sized (le_refl customers))

  pub good-session : (s : ℕ) → s ≤ pre_close → Good customers securities (after_session s w)
  unfolding after_session
  good-session s listed = go (eqb s (header_of w).session) refl
    where
      anew : Good customers securities (each (header_of w).customers (change_desk (changed session_row)) (session_market s w))
      anew =
          let c = cleared s in
          let v = whole-session s in
          let header = v.header ∙ c.header ∙ words.header-session s w long-enough in
          record {
            sized = v.sized;
            served = ap (λ (h : Header). h.customers) header ∙ good.served;
            fit = good.fit;
            clock = rw (ap (λ (h : Header). h.clock) header) good.clock;
            session = rw (ap (λ (h : Header). h.session) header) listed;
            securities-sound =
                λ t below.
                rw (v.securities-kept t below, c.cleared t below, words.security-put w good.sized 3 (lit≤ tt) (lit< tt) s t)
                (security.sound-without-projected (security_at w t) (good.securities-sound t below));
            desks-sound =
                λ k below.
                rw
                (ap (λ (h : Header). h.clock) header, v.done k below, c.desks k, words.desk-put w good.sized 3 (lit≤ tt) (lit< tt) s k)
                (desk.sound-changed securities (header_of w).clock session_row (session-sound securities (header_of w).clock) session-kept (desk_at w k) (good.desks-sound k below));
          }

      go : (t : Bool) → eqb s (header_of w).session ≡ t → Good customers securities (cond t w (each (header_of w).customers (change_desk (changed session_row)) (session_market s w)))
      go true e = good
      go false e = anew

  pub security-counted : (s : ℕ) → s < securities → leb (header_of w).securities s ≡ false
  security-counted s below = lt-leb (header_of w).securities s (rw good.sized.counted below)

  pub below-securities : (s : ℕ) → leb (header_of w).securities s ≡ false → s < securities
  below-securities s e = omega (arith, leb-false (header_of w).securities s e, good.sized.counted)

  pub below-customers : (k : ℕ) → leb (header_of w).customers k ≡ false → k < customers
  below-customers k e = omega (arith, leb-false (header_of w).customers k e, good.served)

  -- an order's customer and security, where condition 4 is not met
  pub order-names : (k s : ℕ) → (leb (header_of w).customers k || leb (header_of w).securities s) ≡ false → (k < customers) × (s < securities)
  order-names k s e = (
    below-customers k (or_parts (leb (header_of w).customers k) (leb (header_of w).securities s) e).0,
    below-securities s (or_parts (leb (header_of w).customers k) (leb (header_of w).securities s) e).1,
  )

  -- the customer of an event that names no security, where condition 4 is not met
  pub customer-named : (k : ℕ) → bad_customer w k ≡ false → k < customers
  customer-named k e = below-customers k (or_parts (leb (header_of w).customers k) false e).0

  -- a desk with its rows changed, each left sound and with its number
  good-changed : (k : ℕ) → bad_customer w k ≡ false → (f : Row → Row)
      → ((r : Row) → sound_row securities (header_of w).clock r ≡ true → sound_row securities (header_of w).clock (f r) ≡ true) → KeepsNumbers f
      → Good customers securities (change_desk (changed f) k w)
  good-changed k named f sound kept =
      let below = customer-named k named in
      good-put-desk k _ below (desk.length-changed f (desk_at w k) ∙ state.length-desk-rows w k)
      (desk.sound-changed securities (header_of w).clock f sound kept (desk_at w k) (good.desks-sound k below))

  -- what an event that meets no condition does keeps a state well formed
  applied-good : (c : Change) → Inside w c → Keeps securities w c → Good customers securities (words_of w (applied w c))
  applied-good (set_clock t) inside kept = good-clock t kept.0 kept.1
  applied-good (set_session s) inside kept = good-session s kept
  applied-good (set_security s f) inside kept =
      let below = below-securities s inside in
      good-put-security s _ below (kept (good.securities-sound s below))
  applied-good (enter_order k x) inside kept =
      let below = order-names k x.security inside in
      good-put-desk k _ below.0 (desk.length-ordered _ (header_of w).clock x (desk_at w k) ∙ state.length-desk-rows w k) (kept below.1 (good.desks-sound k below.0))
  applied-good (set_rows k f) inside kept = good-changed k inside (f (header_of w).clock) kept.sound kept.numbers

  pub performs : (e : Event) → Passed w e → Good customers securities (words_of w (perform w e))
  unfolding perform
  performs e p = applied-good (change_of e) (passed 4 w e p) (kind-keeps securities w e p)

  -- each event keeps a state well formed
  pub keeps : (b : List ℕ) → Good customers securities (event_words w b)
  unfolding outcome
  keeps b = tried (eqb (first_met (conditions w b)) 0) refl
    where
      tried : (t : Bool) → eqb (first_met (conditions w b)) 0 ≡ t → Good customers securities (words_of w (cond t (perform w (event_in b)) (refused (first_met (conditions w b)))))
      tried true unmet = performs (event_in b) (none-met-event w b (eqb-true (first_met (conditions w b)) 0 unmet))
      tried false some = good

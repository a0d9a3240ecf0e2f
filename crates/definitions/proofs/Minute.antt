-- The minute over histories: a cancel marks its row with the present clock, and that row stands in the desk, unchanged, while the clock is at most 60,000 ms
-- later.
-- Assumes nothing.
use mathlib.Core.List.{List, [], ◌∷◌, map}
use mathlib.Core.Path.{◌≡◌, refl, subst, ◌∙◌}
use Prim.Native.Nat.{ℕ, ◌+◌, ◌-◌, ◌≤◌, ◌<◌}
use native.Mathlib.Nat.{le_refl}
use native.Mathlib.Omega.{arith}
use lib.Dec.{eqb}
use lib.ListN.{length}
use borrow.Author.Tests.{le-leb, eq-eqb}
use Rattle.definitions.specs.declared.Row.{Row}
use Rattle.definitions.specs.declared.Desk.{Desk}
use Rattle.definitions.specs.declared.Cancel.{Cancel}
use Rattle.definitions.specs.declared.Event.TheVariants as event
use Rattle.definitions.specs.Answers.{Answer}
use Rattle.definitions.specs.Answers as answer
use Rattle.definitions.specs.Codes.{open_mark, cancelled_mark, limit, minute}
use Rattle.definitions.specs.Lists.{keep, count}
use Rattle.definitions.specs.State.{row, header_of, desk_at}
use Rattle.definitions.specs.Sound.{marked, sound_row}
use Rattle.definitions.specs.Desks.{close_up, edited, expired_row, session_row, cancelled_row, changed, row_of_order, added_last, added, counter_of, counted, takes_row, ordered}
use Rattle.definitions.specs.Gate.{perform, event_answer, event_words, words_after}
use Rattle.definitions.specs.Events.{event_in}
use Rattle.definitions.specs.Changes.{Change, set_clock, set_session, set_security, enter_order, set_rows, change_of}
use Rattle.definitions.specs.Lone.{Lone, lone_verdict, lone_applied}
use Rattle.definitions.proofs.Tests.{either}
use Rattle.definitions.proofs.Rows.{all-kept}
use Rattle.definitions.proofs.SoundDesk.{rows-counted, desk-true, length-changed}
use Rattle.definitions.proofs.SoundRow.{cancelled-limit}
use Rattle.definitions.proofs.State.{header-market, length-desk-rows, desk-put-same}
use Rattle.definitions.proofs.Passed.{Passed, passed, none-met-event}
use Rattle.definitions.proofs.ByKind.{header_in, Keeps, kind-keeps}
use Rattle.definitions.proofs.WellFormed.{Good, keeps, customer-named}
use Rattle.definitions.proofs.Refused.{unrefused, unrefused-performs}
use Rattle.definitions.proofs.Isolation.{lone_of}
use Rattle.definitions.proofs.Standing.{StandsIn, stands-all, stands-mapped, stands-kept, stands-edited, stands-added}
use Rattle.definitions.proofs.Performed.{kept-by-event, header-changed, desk-performed}

-- refusal 7 never lets the clock go back
clock-moves : (securities : ℕ) (w : List ℕ) (c : Change) → Keeps securities w c → (header_of w).clock ≤ (header_in c (header_of w)).clock
clock-moves securities w (set_clock t) kept = kept.1
clock-moves securities w (set_session s) kept = le_refl (header_of w).clock
clock-moves securities w (set_security s f) kept = le_refl (header_of w).clock
clock-moves securities w (enter_order k x) kept = le_refl (header_of w).clock
clock-moves securities w (set_rows k f) kept = le_refl (header_of w).clock

module _ {customers securities : ℕ} where
  clock-event : (w : List ℕ) → Good customers securities w → (b : List ℕ) → (header_of w).clock ≤ (header_of (event_words w b)).clock
  clock-event w good =
      kept-by-event (λ (v : List ℕ). (header_of w).clock ≤ (header_of v).clock) w (le_refl (header_of w).clock) (λ e p. rw (header-changed w good e p) (clock-moves securities w (change_of e) (kind-keeps securities w e p)))

  pub clock-history : (w : List ℕ) → Good customers securities w → (history : List (List ℕ)) → (header_of w).clock ≤ (header_of (words_after w history)).clock
  unfolding words_after
  clock-history w good [] = le_refl (header_of w).clock
  clock-history w good (b ∷ bs) = omega (arith, clock-event w good b, clock-history (event_words w b) (keeps w good b) bs)

-- a cancelled row of the lone run in its minute
module _ (l : Lone) (r : Row) (mark : r.mark ≡ cancelled_mark) (type : r.order_type ≡ limit) (now : (header_of l.market).clock ≤ r.cancel_time + 60_000)
    (there : StandsIn r l.desk.rows) where
  left_by : (f : Row → Row) → f r ≡ r → StandsIn r (edited f l.desk.rows)
  left_by f same = stands-edited f same (rw mark) there

  not-expired : expired_row (header_of l.market).clock r ≡ r
  not-expired = rw (mark, le-leb (header_of l.market).clock (r.cancel_time + minute) (omega arith))

  left-by-order : (new : Row) → StandsIn r (added_last new (edited (expired_row (header_of l.market).clock) l.desk.rows))
  unfolding edited close_up
  left-by-order new =
      let expired = map (expired_row (header_of l.market).clock) l.desk.rows in
      stands-added new (keep marked expired) (length expired - count marked expired) (all-kept marked expired) (stands-kept marked (rw mark) (stands-mapped _ not-expired there))

  left-applied : (securities : ℕ) (w : List ℕ) (c : Change) → Keeps securities w c → StandsIn r (lone_applied l c).1.desk.rows
  unfolding lone_applied changed ordered counted added
  left-applied securities w (set_clock t) kept = there
  left-applied securities w (set_session s) kept =
      either (λ (x : Answer × Lone). StandsIn r x.1.desk.rows) (eqb s (header_of l.market).session) _ _ (λ _. there) (λ _. left_by session_row (rw type))
  left-applied securities w (set_security s f) kept = there
  left-applied securities w (enter_order k x) kept =
      let v = lone_verdict l x in
      rw (rows-counted (counter_of v) _) (either (λ (d : Desk). StandsIn r d.rows) (takes_row v) _ _ (λ _. left-by-order (row_of_order x)) (λ _. there))
  left-applied securities w (set_rows k f) kept = left_by (f (header_of l.market).clock) (kept.not-open (header_of l.market).clock r (rw mark))

module _ {customers securities : ℕ} (k : ℕ) (below : k < customers) (r : Row) (mark : r.mark ≡ cancelled_mark) where
  -- "a cancelled row is a limit"
  is-limit : (w : List ℕ) → Good customers securities w → StandsIn r (desk_at w k).rows → r.order_type ≡ limit
  is-limit w good there =
      let sound = desk-true securities (header_of w).clock (desk_at w k) (good.desks-sound k below) in
      cancelled-limit securities (header_of w).clock r (stands-all (sound_row securities (header_of w).clock) sound.each there) mark

  left-by-event : (w : List ℕ) → Good customers securities w → (header_of w).clock ≤ r.cancel_time + 60_000 → StandsIn r (desk_at w k).rows
      → (b : List ℕ) → StandsIn r (desk_at (event_words w b) k).rows
  left-by-event w good now there =
      kept-by-event (λ (v : List ℕ). StandsIn r (desk_at v k).rows) w there
      (λ e p.
      desk-performed w good (λ (d : Desk). StandsIn r d.rows) k below e p (λ _. there)
      (left-applied (lone_of w k) r mark (is-limit w good there) (rw (header-market w good.sized) now) there securities w (change_of e) (kind-keeps securities w e p)))

  pub left-in-minute : (w : List ℕ) → Good customers securities w → StandsIn r (desk_at w k).rows
      → (later : List (List ℕ)) → (header_of (words_after w later)).clock ≤ r.cancel_time + 60_000 → StandsIn r (desk_at (words_after w later) k).rows
  unfolding words_after
  left-in-minute w good there [] end = there
  left-in-minute w good there (b ∷ bs) end =
      let now : (header_of w).clock ≤ r.cancel_time + 60_000 = omega (arith, clock-history w good (b ∷ bs)) in
      left-in-minute (event_words w b) (keeps w good b) (left-by-event w good now there b) bs end

-- a row as a cancel at some time marks it
abbrev pub cancelled_at : ℕ → Row → Row
cancelled_at time r = row cancelled_mark r.number r.security r.board r.side r.order_type r.price r.volume time

pub cancel-marks : {customers securities : ℕ} (w : List ℕ) → Good customers securities w → (b : List ℕ) (k : ℕ) (x : Cancel) → event_in b ≡ event.Cancel k x
    → ((n : ℕ) → event_answer w b ≡ answer.Refused n → ⊥) → (r : Row) → StandsIn r (desk_at w k).rows
    → r.mark ≡ open_mark → r.number ≡ x.number → r.order_type ≡ limit
    → StandsIn (cancelled_at (header_of w).clock r) (desk_at (event_words w b) k).rows
unfolding perform changed
cancel-marks w good b k x e answered r there mark number type =
    let p = subst (Passed w) e (none-met-event w b (unrefused w b answered)) in
    let below = customer-named w good k (passed 4 w (event.Cancel k x) p) in
    let f = cancelled_row x.number (header_of w).clock in
    let marks : f r ≡ cancelled_at (header_of w).clock r = rw (mark, eq-eqb r.number x.number number, type) in
    rw (unrefused-performs w b answered, e, desk-put-same w good.sized k below (changed f (desk_at w k)) (length-changed f (desk_at w k) ∙ length-desk-rows w k))
    (stands-edited f marks refl there)

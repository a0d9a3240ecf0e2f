-- What each kind of event does to the header, and what it keeps where it meets no condition, an arm a kind. What is proved after this of an event goes by the
-- five forms of a change, but for FiguresSet and Ownership, which say something of each kind too.
-- Assumes nothing.
use mathlib.Core.Bool.{true, false}
use mathlib.Core.List.{List}
use mathlib.Core.Logic.{◌⊎◌, inl, inr}
use mathlib.Core.Path.{◌≡◌, refl}
use Prim.Native.Nat.{ℕ, ◌≤◌, ◌<◌}
use borrow.Author.Tests.{ltb-false, lt-leb, not-false}
use Rattle.ladder.specs.Ladder.{legal}
use Rattle.definitions.specs.declared.Header.{Header}
use Rattle.definitions.specs.declared.Row.{Row}
use Rattle.definitions.specs.declared.Event.{Event}
use Rattle.definitions.specs.declared.Event.TheVariants as event
use Rattle.definitions.specs.Codes.{limit, last_time, pre_close}
use Rattle.definitions.specs.State.{header_of, security_at, desk_at}
use Rattle.definitions.specs.Sound.{sound_security, sound_row, sound_desk}
use Rattle.definitions.specs.Desks.{is_open}
use Rattle.definitions.specs.Changes.{Change, set_clock, set_session, set_security, enter_order, set_rows, change_of}
use Rattle.definitions.specs.Gate.{market_view_at, ordered_at}
use Rattle.definitions.proofs.State.{length-desk-rows}
use Rattle.definitions.proofs.HeaderWords.{with_clock, with_session}
use Rattle.definitions.proofs.Rows.{KeepsNumbers}
use Rattle.definitions.proofs.SoundRow.{cancelled-frees, matched-frees, rest-changes, cancelled-sound, cancelled-kept, matched-sound, matched-kept, rest-sound, rest-kept}
use Rattle.definitions.proofs.SoundDesk.{sound-ordered}
use Rattle.definitions.proofs.SoundSecurity.{sound-setup, sound-prices, sound-figures}
use Rattle.definitions.proofs.Passed.{Passed, passed}

-- what a change makes of the header,
abbrev pub header_in : Change → Header → Header
header_in (set_clock t) h = with_clock t h
header_in (set_session s) h = with_session s h
header_in (set_security s f) h = h
header_in (enter_order k x) h = h
header_in (set_rows k f) h = h

-- and by kind: "Only kind 1 moves the clock", and only kind 2 the session
abbrev pub header_by : Event → Header → Header
header_by (event.Clock t) h = with_clock t h
header_by (event.Session s) h = with_session s h
header_by (event.Setup x) h = h
header_by (event.Prices x) h = h
header_by (event.Order k x) h = h
header_by (event.Cancel k x) h = h
header_by (event.Match k x) h = h
header_by (event.Rest k x) h = h
header_by (event.Figures x) h = h

pub kind-header : (e : Event) (h : Header) → header_in (change_of e) h ≡ header_by e h
kind-header (event.Clock t) h = refl
kind-header (event.Session s) h = refl
kind-header (event.Setup x) h = refl
kind-header (event.Prices x) h = refl
kind-header (event.Order k x) h = refl
kind-header (event.Cancel k x) h = refl
kind-header (event.Match k x) h = refl
kind-header (event.Rest k x) h = refl
kind-header (event.Figures x) h = refl

-- rows set at a clock: each stays sound and keeps its number; at any clock open rows alone change, and a row keeps its type or becomes a limit
pub record RowsSet (securities clock : ℕ) (f : ℕ → Row → Row) : Type 0 where
  pub sound : (r : Row) → sound_row securities clock r ≡ true → sound_row securities clock (f clock r) ≡ true
  pub numbers : KeepsNumbers (f clock)
  pub not-open : (at : ℕ) (r : Row) → is_open r ≡ false → f at r ≡ r
  pub type : (at : ℕ) (r : Row) → ((f at r).order_type ≡ r.order_type) ⊎ ((f at r).order_type ≡ limit)

abbrev pub Keeps : ℕ → List ℕ → Change → Type 0
Keeps securities w (set_clock t) = (t ≤ last_time) × ((header_of w).clock ≤ t)
Keeps securities w (set_session s) = s ≤ pre_close
Keeps securities w (set_security s f) = sound_security (security_at w s) ≡ true → sound_security (f (security_at w s)) ≡ true
Keeps securities w (enter_order k x) =
    x.security < securities → sound_desk securities (header_of w).clock (desk_at w k) ≡ true → sound_desk securities (header_of w).clock (ordered_at w k x) ≡ true
Keeps securities w (set_rows k f) = RowsSet securities (header_of w).clock f

module _ (securities : ℕ) (w : List ℕ) where
  -- a row's type, as f leaves it
  abbrev Typed : Row → Row → Type 0
  Typed r x = (x.order_type ≡ r.order_type) ⊎ (x.order_type ≡ limit)

  pub kind-keeps : (e : Event) → Passed w e → Keeps securities w (change_of e)
  kind-keeps (event.Clock t) p = (ltb-false last_time t (passed 5 w (event.Clock t) p), ltb-false t (header_of w).clock (passed 7 w (event.Clock t) p))
  kind-keeps (event.Session s) p = ltb-false pre_close s (passed 5 w (event.Session s) p)
  kind-keeps (event.Setup x) p = λ sound. sound-setup x _ sound (passed 5 w (event.Setup x) p) (passed 6 w (event.Setup x) p)
  kind-keeps (event.Prices x) p = λ sound. sound-prices x _ sound (passed 6 w (event.Prices x) p)
  kind-keeps (event.Order k x) p =
      λ below sound.
      let at = event.Order k x in
      sound-ordered securities (market_view_at w x.security) (desk_at w k) x (length-desk-rows w k) sound (lt-leb securities x.security below) (passed 5 w at p) (passed 6 w at p) (passed 9 w at p) (passed 12 w at p)
  kind-keeps (event.Cancel k x) p =
      record {
        sound = cancelled-sound securities (header_of w).clock x.number;
        numbers = cancelled-kept x.number (header_of w).clock;
        not-open = λ at r shut. rw shut;
        type = λ at r. cancelled-frees (Typed r) x.number at r (inr refl) (inl refl) (λ _ _. inl refl);
      }
  kind-keeps (event.Match k x) p =
      record {
        sound = matched-sound securities (header_of w).clock x.number x.volume;
        numbers = matched-kept x.number x.volume;
        not-open = λ at r shut. rw shut;
        type = λ at r. matched-frees (Typed r) x.number x.volume r (inr refl) (inl refl) (λ _ _. inl refl);
      }
  kind-keeps (event.Rest k x) p =
      record {
        sound = rest-sound securities (header_of w).clock x.number x.price (not-false (legal x.price) (passed 6 w (event.Rest k x) p));
        numbers = rest-kept x.number x.price;
        not-open = λ at r shut. rw shut;
        type = λ at r. rest-changes (Typed r) x.number x.price r (inl refl) (λ _. inr refl);
      }
  kind-keeps (event.Figures x) p = λ sound. sound-figures x _ sound (passed 13 w (event.Figures x) p)

-- ATO, ATC and MP rows over histories: rule S lets them in only in their session, and another session removes them.
-- Assumes nothing.
use mathlib.Core.Bool.{Bool, true, false, ◌&&◌, ◌||◌, not}
use mathlib.Core.List.{List, [], ◌∷◌, map}
use mathlib.Core.Logic.{⊎_elim}
use mathlib.Core.Path.{◌≡◌, refl, subst}
use Prim.Native.Nat.{ℕ, zero, suc, ◌-◌, ◌<◌}
use lib.Dec.{eqb}
use lib.ListN.{length, replicate, set}
use borrow.Author.Tests.{not-true, not-false, eqb-true}
use Rattle.definitions.specs.declared.Header.{Header}
use Rattle.definitions.specs.declared.Row.{Row}
use Rattle.definitions.specs.declared.Desk.{Desk}
use Rattle.definitions.specs.declared.Order.{Order}
use Rattle.definitions.specs.Answers.{Answer}
use Rattle.definitions.specs.Codes.{closed, pre_open, opened, break, pre_close, desk_rows, ato, atc, mp, is_auction}
use Rattle.definitions.specs.Lists.{all, keep, count}
use Rattle.definitions.specs.State.{header_of, desk_at}
use Rattle.definitions.specs.Sound.{marked}
use Rattle.definitions.specs.Desks.{free_row, fresh_desk, close_up, edited, expired_row, session_row, changed, row_of_order, added, counter_of, is_rejected, counted, takes_row, ordered}
use Rattle.definitions.specs.Rules.{View, prices_on, best_opposite, rule_s, verdict_of}
use Rattle.definitions.specs.Changes.{Change, set_clock, set_session, set_security, enter_order, set_rows, change_of}
use Rattle.definitions.specs.Gate.{market_view_at, event_words, words_after}
use Rattle.definitions.specs.Lone.{Lone, lone_verdict, lone_applied}
use Rattle.definitions.proofs.Tests.{either, and_parts, and-whole, or_parts, joined-parts}
use Rattle.definitions.proofs.Rows.{all_append, all_replicate, all_keep, all_map}
use Rattle.definitions.proofs.SoundRow.{session-frees, expired-frees}
use Rattle.definitions.proofs.SoundDesk.{rows-counted, no-rules}
use Rattle.definitions.proofs.State.{header-market}
use Rattle.definitions.proofs.ByKind.{header_in, Keeps, kind-keeps}
use Rattle.definitions.proofs.WellFormed.{Good, keeps}
use Rattle.definitions.proofs.Isolation.{lone_of}
use Rattle.definitions.proofs.Performed.{other-header, kept-by-event, header-changed, desk-performed}
use Rattle.definitions.proofs.Standing.{StandsIn, stands-all}

-- "ATO outside 1; ATC outside 4; MP outside 2" is rejected, and another session removes all three: such a row is there only in its session
pub record InItsSession (session : ℕ) (r : Row) : Type 0 where
  pub ato-row : r.order_type ≡ ato → session ≡ pre_open
  pub atc-row : r.order_type ≡ atc → session ≡ pre_close
  pub mp-row : r.order_type ≡ mp → session ≡ opened

-- and as a test
abbrev only_in : ℕ → ℕ → ℕ → ℕ → Bool
only_in its one session type = not (eqb type one && not (eqb session its))

abbrev in_its_session : ℕ → ℕ → Bool
in_its_session session type = only_in pre_open ato session type && only_in pre_close atc session type && only_in opened mp session type

abbrev row_in_its_session : ℕ → Row → Bool
row_in_its_session session r = in_its_session session r.order_type

told : (session : ℕ) (r : Row) → row_in_its_session session r ≡ true → InItsSession session r
told session r e =
    let type = r.order_type in
    let parts = joined-parts (only_in pre_open ato session type) (only_in pre_close atc session type ∷ only_in opened mp session type ∷ []) e in
    record {
      ato-row = λ type. eqb-true session pre_open (not-false _ (not-true _ (rw type at parts.0)));
      atc-row = λ type. eqb-true session pre_close (not-false _ (not-true _ (rw type at parts.1.0)));
      mp-row = λ type. eqb-true session opened (not-false _ (not-true _ (rw type at parts.1.1.0)));
    }

-- rows of which each is in its session, edited and with one put among them
module _ (session : ℕ) where
  abbrev Fits : Row → Type 0
  Fits r = row_in_its_session session r ≡ true

  abbrev Stands : List Row → Type 0
  Stands rows = all (row_in_its_session session) rows ≡ true

  edited-stand : (p : Row → Bool) (f : Row → Row) → ((r : Row) → p r ≡ true → Fits (f r)) → (rows : List Row) → all p rows ≡ true → Stands (edited f rows)
  unfolding edited close_up
  edited-stand p f h rows given =
      let q = row_in_its_session session in
      let n = length (map f rows) - count marked (map f rows) in
      all_append q (keep marked (map f rows)) (replicate n free_row) (all_keep q marked (map f rows) (all_map p q f h rows given)) (all_replicate q n free_row refl)

  set-stand : (rows : List Row) (i : ℕ) (r : Row) → Stands rows → Fits r → Stands (set rows i r)
  unfolding all
  set-stand [] i r given new = refl
  set-stand (x ∷ xs) zero r given new = and-whole new (and_parts (row_in_its_session session x) (all (row_in_its_session session) xs) given).1
  set-stand (x ∷ xs) (suc i) r given new =
      let parts = and_parts (row_in_its_session session x) (all (row_in_its_session session) xs) given in
      and-whole parts.0 (set-stand xs i r parts.1 new)

  -- a limit stands in any session
  other_fits : (r : Row) → (is_auction r.order_type || eqb r.order_type mp) ≡ false → Fits r
  other_fits r e =
      let parts = or_parts (is_auction r.order_type) (eqb r.order_type mp) e in
      let auction = or_parts (eqb r.order_type ato) (eqb r.order_type atc) parts.0 in
      rw (auction.0, auction.1, parts.1)

-- rule S: an order that takes a row is of a type for its session
order-fits : (v : View) (o : Order) → takes_row (verdict_of v o) ≡ true → in_its_session v.market.session o.order_type ≡ true
unfolding rule_s
order-fits v o takes =
    let rule = (no-rules v o (not-true (is_rejected (counter_of (verdict_of v o))) takes)).0 in
    let s = v.market.session in
    let shut = eqb s closed || eqb s break in
    let ato-outside = eqb o.order_type ato && not (eqb s pre_open) in
    let atc-outside = eqb o.order_type atc && not (eqb s pre_close) in
    let mp-outside = eqb o.order_type mp && not (eqb s opened) in
    let mp-alone = eqb o.order_type mp && eqb (best_opposite (prices_on v.market.security o.board) o.side) 0 in
    let r₂ = or_parts (shut || ato-outside || atc-outside || mp-outside) mp-alone rule in
    let r₁ = or_parts (shut || ato-outside || atc-outside) mp-outside r₂.0 in
    let r₀ = or_parts (shut || ato-outside) atc-outside r₁.0 in
    rw ((or_parts shut ato-outside r₀.0).1, r₀.1, r₁.1)

-- an event of the lone run
module _ (l : Lone) (given : Stands (header_of l.market).session l.desk.rows) where
  abbrev now : ℕ
  now = (header_of l.market).session

  left_by : (f : Row → Row) → ((r : Row) → Fits now r → Fits now (f r)) → Stands now (edited f l.desk.rows)
  left_by f h = edited-stand now (row_in_its_session now) f h l.desk.rows given

  stand-applied : (securities : ℕ) (w : List ℕ) (c : Change) → Keeps securities w c → Stands (header_in c (header_of l.market)).session (lone_applied l c).1.desk.rows
  unfolding lone_applied changed ordered counted added
  stand-applied securities w (set_clock t) kept = given
  stand-applied securities w (set_session s) kept =
      either (λ (x : Answer × Lone). Stands s x.1.desk.rows) (eqb s now) _ _
      (λ same. rw (eqb-true s now same) given)
      (λ _. edited-stand s (row_in_its_session now) session_row (λ r _. session-frees (Fits s) r refl (other_fits s r)) l.desk.rows given)
  stand-applied securities w (set_security s f) kept = given
  stand-applied securities w (enter_order k x) kept =
      let v = lone_verdict l x in
      let clock = (header_of l.market).clock in
      let expired = left_by (expired_row clock) (λ r e. expired-frees (Fits now) clock r refl e) in
      rw (rows-counted (counter_of v) _)
      (either (λ (d : Desk). Stands now d.rows) (takes_row v) _ _
      (λ takes. set-stand now _ _ (row_of_order x) expired (order-fits (record { market = market_view_at l.market x.security; desk = l.desk }) x takes))
      (λ _. given))
  stand-applied securities w (set_rows k f) kept =
      left_by _ (λ r fits. ⊎_elim (λ same. rw same fits) (λ is-limit. rw is-limit) (kept.type (header_of l.market).clock r))

fresh-stand : (session : ℕ) (d : Desk) → d ≡ fresh_desk → Stands session d.rows
fresh-stand session d e = rw e (all_replicate (row_in_its_session session) desk_rows free_row refl)

module _ {customers securities : ℕ} (k : ℕ) (below : k < customers) where
  stand-event : (w : List ℕ) → Good customers securities w → Stands (header_of w).session (desk_at w k).rows
      → (b : List ℕ) → Stands (header_of (event_words w b)).session (desk_at (event_words w b) k).rows
  stand-event w good given =
      let same = header-market w good.sized in
      kept-by-event (λ (v : List ℕ). Stands (header_of v).session (desk_at v k).rows) w given
      (λ e p.
      rw (header-changed w good e p)
      (desk-performed w good (λ (d : Desk). Stands (header_in (change_of e) (header_of w)).session d.rows) k below e p
      (λ other. rw (other-header customers k (change_of e) (header_of w) other) given)
      (subst (λ (h : Header). Stands (header_in (change_of e) h).session (lone_applied (lone_of w k) (change_of e)).1.desk.rows) same
      (stand-applied (lone_of w k) (rw same given) securities w (change_of e) (kind-keeps securities w e p)))))

  stand-history : (w : List ℕ) → Good customers securities w → Stands (header_of w).session (desk_at w k).rows
      → (history : List (List ℕ)) → Stands (header_of (words_after w history)).session (desk_at (words_after w history) k).rows
  unfolding words_after
  stand-history w good given [] = given
  stand-history w good given (b ∷ bs) = stand-history (event_words w b) (keeps w good b) (stand-event w good given b) bs

  pub in-its-session : (w : List ℕ) → Good customers securities w → desk_at w k ≡ fresh_desk → (history : List (List ℕ)) (r : Row)
      → StandsIn r (desk_at (words_after w history) k).rows → InItsSession (header_of (words_after w history)).session r
  in-its-session w good e history r there =
      let session = (header_of (words_after w history)).session in
      told session r (stands-all (row_in_its_session session) (stand-history w good (fresh-stand (header_of w).session (desk_at w k) e) history) there)

-- Paper 02, 1, "What is left of a market order": kind 8 makes one row a limit and leaves every other word, and is refused where the paper says so and nowhere
-- else; W compares with no row of type 3.
-- Assumes nothing.
use mathlib.Core.Bool.{Bool, true, false, cond, ◌&&◌, not, and-false, or-false}
use mathlib.Core.List.{List, [], ◌∷◌, map, map-id}
use mathlib.Core.Path.{◌≡◌, refl, ap, ap₂, sym, subst, ◌∙◌}
use Prim.Native.Nat.{ℕ, ◌-◌, ◌<◌}
use native.Mathlib.Nat.{suc-sub-suc}
use native.Mathlib.Omega.{arith}
use lib.Dec.{eqb}
use lib.ListN.{length, replicate, length-replicate}
use borrow.Author.Tests.{eqb-true, not-true, not-false, lt-leb}
use Rattle.ladder.specs.Ladder.{legal}
use Rattle.definitions.specs.declared.Prices.{Prices}
use Rattle.definitions.specs.declared.Row.{Row}
use Rattle.definitions.specs.declared.Desk.{Desk}
use Rattle.definitions.specs.declared.Order.{Order}
use Rattle.definitions.specs.declared.Rest.{Rest}
use Rattle.definitions.specs.declared.Counter.{Counter}
use Rattle.definitions.specs.declared.Event.TheVariants as event
use Rattle.definitions.specs.Answers as answer
use Rattle.definitions.specs.Codes.{open_mark, limit, mp, online}
use Rattle.definitions.specs.Lists.{any, all, keep, count, first_met}
use Rattle.definitions.specs.State.{row, header_of, desk_at, put_desk}
use Rattle.definitions.specs.Sound.{marked, sound_row, marked_first, sound_desk}
use Rattle.definitions.specs.Desks.{free_row, close_up, edited, rest_row, with_rows, changed}
use Rattle.definitions.specs.Events.{event_in, bytes_conditions}
use Rattle.definitions.specs.Rules.{View, trades_with_own, rule_w}
use Rattle.definitions.specs.Refusals.{bad_name}
use Rattle.definitions.specs.Gate.{answer_of, perform, event_answer, event_words}
use Rattle.definitions.proofs.Tests.{never, and_parts, or_parts}
use Rattle.definitions.proofs.Rows.{any-keep, count-replicate}
use Rattle.definitions.proofs.SoundRow.{unmarked-free, open-time, open-number, rest-changes}
use Rattle.definitions.proofs.SoundDesk.{desk-true, length-changed}
use Rattle.definitions.proofs.State.{length-desk-rows, desk-put-same}
use Rattle.definitions.proofs.Passed.{table, Passed, passed, none-met-event, outcome-read}
use Rattle.definitions.proofs.WellFormed.{Good, fits, records-sound, customer-named}
use Rattle.definitions.proofs.Refused.{unrefused, unrefused-performs}
use Rattle.definitions.proofs.Counters.{counter_in, counter-changed}
use Rattle.definitions.proofs.SessionChange.{keep-free}

-- free rows are closed up
pub closed-free : (n : ℕ) → close_up (replicate n free_row) ≡ replicate n free_row
unfolding close_up
closed-free n =
    let none : length (replicate n free_row) - count marked (replicate n free_row) ≡ n = omega (arith, length-replicate n free_row, count-replicate marked n free_row refl) in
    rw (keep-free marked n refl, none)

-- a change that leaves marked rows marked and free rows free: the rows of a sound desk stay in their places
module _ (S clock : ℕ) (f : Row → Row) (free : f free_row ≡ free_row) (marks : (r : Row) → marked r ≡ true → marked (f r) ≡ true) where
  all-free : (rows : List Row) → all (sound_row S clock) rows ≡ true → any marked rows ≡ false → map f rows ≡ replicate (length rows) free_row
  unfolding all any
  all-free [] sound none = refl
  all-free (r ∷ rs) sound none =
      let parts = and_parts (sound_row S clock r) (all (sound_row S clock) rs) sound in
      let unmarked = or_parts (marked r) (any marked rs) none in
      ap₂ (λ (x : Row) (xs : List Row). x ∷ xs) (ap f (unmarked-free S clock r parts.0 unmarked.0) ∙ free) (all-free rs parts.1 unmarked.1)

  closed_same : (rows : List Row) → all (sound_row S clock) rows ≡ true → marked_first rows ≡ true → close_up (map f rows) ≡ map f rows
  unfolding all any marked_first close_up keep count
  closed_same [] sound first = refl
  closed_same (r ∷ rs) sound first = go (marked r) refl first (closed_same rs parts.1)
    where
      parts : (sound_row S clock r ≡ true) × (all (sound_row S clock) rs ≡ true)
      parts = and_parts (sound_row S clock r) (all (sound_row S clock) rs) sound

      go : (t : Bool) → marked r ≡ t → cond t (marked_first rs) (not (any marked rs)) ≡ true → (marked_first rs ≡ true → close_up (map f rs) ≡ map f rs) → close_up (f r ∷ map f rs) ≡ f r ∷ map f rs
      go true m first later = rw (marks r m, suc-sub-suc) (ap (λ (xs : List Row). f r ∷ xs) (later first))
      go false m none later =
          subst (λ (xs : List Row). close_up xs ≡ xs) (sym (all-free (r ∷ rs) sound (rw m (not-true (any marked rs) none)))) (closed-free (length (r ∷ rs)))

  in_place : (d : Desk) → sound_desk S clock d ≡ true → changed f d ≡ with_rows (map f d.rows) d
  unfolding changed edited
  in_place d e =
      let sound = desk-true S clock d e in
      ap (λ (rows : List Row). with_rows rows d) (closed_same d.rows sound.each sound.first)

-- the rows of a sound desk are closed up
pub closed-up : (S clock : ℕ) (rows : List Row) → all (sound_row S clock) rows ≡ true → marked_first rows ≡ true → close_up rows ≡ rows
closed-up S clock rows sound first = subst (λ (xs : List Row). close_up xs ≡ xs) (map-id rows) (closed_same S clock (λ r. r) refl (λ r m. m) rows sound first)

pub rest-in-place : (S clock number price : ℕ) (d : Desk) → sound_desk S clock d ≡ true
    → changed (rest_row number price) d ≡ with_rows (map (rest_row number price) d.rows) d
rest-in-place S clock number price =
    in_place S clock (rest_row number price) refl (λ r m. rest-changes (λ (x : Row). marked x ≡ true) number price r m (λ _. m))

-- "an open type 3 row" with the number, and the limit that it is made: open, with its number, security, board, side and volume
abbrev pub is_rest : ℕ → Row → Bool
is_rest number r = eqb r.mark open_mark && eqb r.number number && eqb r.order_type mp

abbrev pub as_limit : Rest → Row → Row
as_limit x r = cond (is_rest x.number r) (row open_mark x.number r.security r.board r.side limit x.price r.volume 0) r

-- v is w after kind 8: such a row was there, it is made a limit at a ladder price, and nothing else changes
pub record RestLimited (w v : List ℕ) (k : ℕ) (x : Rest) : Type 0 where
  pub there : any (is_rest x.number) (desk_at w k).rows ≡ true
  pub on-ladder : legal x.price ≡ true
  pub rows : (desk_at v k).rows ≡ map (as_limit x) (desk_at w k).rows
  pub counters : (c : Counter) → counter_in c (desk_at v k) ≡ counter_in c (desk_at w k)
  pub elsewhere : v ≡ put_desk w k (desk_at v k)

module _ (S clock : ℕ) (x : Rest) where
  same-limit : (r : Row) → sound_row S clock r ≡ true → rest_row x.number x.price r ≡ as_limit x r
  same-limit r e = go (is_rest x.number r) refl
    where
      go : (t : Bool) → is_rest x.number r ≡ t
          → cond t (row r.mark r.number r.security r.board r.side limit x.price r.volume r.cancel_time) r
          ≡ cond t (row open_mark x.number r.security r.board r.side limit x.price r.volume 0) r
      go true found =
          let parts = and_parts (eqb r.mark open_mark && eqb r.number x.number) (eqb r.order_type mp) found in
          let own = and_parts (eqb r.mark open_mark) (eqb r.number x.number) parts.0 in
          let mark = eqb-true r.mark open_mark own.0 in
          rw (open-time S clock r e mark, mark, eqb-true r.number x.number own.1)
      go false other = refl

  same-limits : (rows : List Row) → all (sound_row S clock) rows ≡ true → map (rest_row x.number x.price) rows ≡ map (as_limit x) rows
  unfolding all
  same-limits [] sound = refl
  same-limits (r ∷ rs) sound =
      let parts = and_parts (sound_row S clock r) (all (sound_row S clock) rs) sound in
      ap₂ (λ (y : Row) (ys : List Row). y ∷ ys) (same-limit r parts.0) (same-limits rs parts.1)

pub rest-limits : {customers securities : ℕ} (w : List ℕ) → Good customers securities w → (b : List ℕ) (k : ℕ) (x : Rest) → event_in b ≡ event.Rest k x
    → ((n : ℕ) → event_answer w b ≡ answer.Refused n → ⊥) → RestLimited w (event_words w b) k x
unfolding perform
rest-limits {customers} {securities} w good b k x e answered =
    let p = subst (Passed w) e (none-met-event w b (unrefused w b answered)) in
    let below = customer-named w good k (passed 4 w (event.Rest k x) p) in
    let d = desk_at w k in
    let f = rest_row x.number x.price in
    let sound = good.desks-sound k below in
    let words : event_words w b ≡ put_desk w k (changed f d) = rw (unrefused-performs w b answered, e) in
    let after : desk_at (event_words w b) k ≡ changed f d = rw words (desk-put-same w good.sized k below (changed f d) (length-changed f d ∙ length-desk-rows w k)) in
    record {
      there = not-false _ (passed 10 w (event.Rest k x) p);
      on-ladder = not-false _ (passed 6 w (event.Rest k x) p);
      rows =
          ap (λ (y : Desk). y.rows) (after ∙ rest-in-place securities (header_of w).clock x.number x.price d sound)
          ∙ same-limits securities (header_of w).clock x d.rows (desk-true securities (header_of w).clock d sound).each;
      counters = λ c. ap (counter_in c) after ∙ counter-changed c f d;
      elsewhere = words ∙ ap (put_desk w k) (sym after);
    }

-- the other way round: kind 8 for a row that is there, at a ladder price, is answered ok. No number 0 has a row.
no-rest-of-0 : (S clock : ℕ) (rows : List Row) → all (sound_row S clock) rows ≡ true → any (is_rest 0) rows ≡ false
unfolding all any
no-rest-of-0 S clock [] sound = refl
no-rest-of-0 S clock (r ∷ rs) sound =
    let parts = and_parts (sound_row S clock r) (all (sound_row S clock) rs) sound in
    rw (none (is_rest 0 r) refl parts.0) (no-rest-of-0 S clock rs parts.1)
  where
    none : (t : Bool) → is_rest 0 r ≡ t → sound_row S clock r ≡ true → is_rest 0 r ≡ false
    none false e sound = e
    none true e sound =
        let own = and_parts (eqb r.mark open_mark) (eqb r.number 0) (and_parts (eqb r.mark open_mark && eqb r.number 0) (eqb r.order_type mp) e).0 in
        absurd (omega (arith, open-number S clock r sound (eqb-true r.mark open_mark own.0), eqb-true r.number 0 own.1))

module _ {customers securities : ℕ} (w : List ℕ) (good : Good customers securities w) (k : ℕ) (below : k < customers) (x : Rest)
    (there : any (is_rest x.number) (desk_at w k).rows ≡ true) (on-ladder : legal x.price ≡ true) where
  number-above-0 : eqb x.number 0 ≡ false
  number-above-0 = go (eqb x.number 0) refl
    where
      sound : all (sound_row securities (header_of w).clock) (desk_at w k).rows ≡ true
      sound = (desk-true securities (header_of w).clock (desk_at w k) (good.desks-sound k below)).each

      go : (t : Bool) → eqb x.number 0 ≡ t → eqb x.number 0 ≡ false
      go false e = e
      go true e = never there (rw (eqb-true x.number 0 e) (no-rest-of-0 securities (header_of w).clock (desk_at w k).rows sound))

  named : bad_name (header_of w) (event.Rest k x) ≡ false
  named = rw (lt-leb (header_of w).customers k (rw good.served below))

  unmet : first_met (table w (event.Rest k x)) ≡ 0
  unfolding first_met
  unmet = rw (named, number-above-0, on-ladder, records-sound w good (event.Rest k x) named, there)

  pub rest-answered : (b : List ℕ) → first_met (bytes_conditions b) ≡ 0 → event_in b ≡ event.Rest k x → event_answer w b ≡ answer.Ok
  unfolding perform
  rest-answered b read e = ap answer_of (outcome-read w b (fits w good)) ∙ rw (read, e, unmet)

-- "W compares with such a row only once it is a limit": without its rows of type 3 a desk gives the same W
mp-unmet : (session : ℕ) (p : Prices) (o : Order) (r : Row) → r.order_type ≡ mp → trades_with_own session p o r ≡ false
unfolding trades_with_own
mp-unmet session p o r type = simp (type, and-false, or-false)

abbrev pub without_mp_rows : View → View
without_mp_rows v = record { market = v.market; desk = with_rows (keep (λ (r : Row). not (eqb r.order_type mp)) v.desk.rows) v.desk }

pub w-without-mp-rows : (v : View) (o : Order) → rule_w (without_mp_rows v) o ≡ rule_w v o
unfolding rule_w
w-without-mp-rows v o =
    ap (λ (t : Bool). eqb o.channel online && t)
    (any-keep (trades_with_own _ _ o) (λ (r : Row). not (eqb r.order_type mp))
    (λ r other. mp-unmet _ _ o r (eqb-true r.order_type mp (not-false _ other))) v.desk.rows)

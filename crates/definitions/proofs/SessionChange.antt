-- A session change, as the paper says it: what it leaves of every desk, every security and the header.
-- Assumes nothing.
use mathlib.Core.Bool.{Bool, true, false, cond, ◌&&◌, ◌||◌}
use mathlib.Core.List.{List, [], ◌∷◌, ◌++◌, map, append-nil}
use mathlib.Core.Logic.{⊎_elim}
use mathlib.Core.Path.{◌≡◌, refl, ap, ◌∙◌}
use Prim.Native.Nat.{ℕ, zero, suc, ◌-◌, ◌<◌}
use native.Mathlib.Omega.{arith}
use lib.Dec.{eqb, lit≤, lit<}
use lib.ListN.{length, replicate}
use borrow.Author.Tests.{eq-eqb, ne_eqb, eqb-true}
use Rattle.definitions.specs.declared.Prices.{Prices}
use Rattle.definitions.specs.declared.Security.{Security}
use Rattle.definitions.specs.declared.Row.{Row}
use Rattle.definitions.specs.declared.Desk.{Desk}
use Rattle.definitions.specs.declared.Counter.{Counter}
use Rattle.definitions.specs.declared.Event.TheVariants as event
use Rattle.definitions.specs.Answers as answer
use Rattle.definitions.specs.Codes.{open_mark, cancelled_mark, limit, ato, atc, mp}
use Rattle.definitions.specs.Lists.{any, keep, count, each, first_met}
use Rattle.definitions.specs.State.{header_of, security_at, desk_at}
use Rattle.definitions.specs.Sound.{marked}
use Rattle.definitions.specs.Events.{event_in}
use Rattle.definitions.specs.Desks.{free_row, is_open, close_up, edited, session_row, changed}
use Rattle.definitions.specs.Gate.{Outcome, words_of, conditions, change_desk, session_market, after_session, perform, outcome, event_answer, event_words}
use Rattle.definitions.specs.Securities.{no_projected, without_projected}
use Rattle.definitions.proofs.Tests.{either, and_parts, or_cases}
use Rattle.definitions.proofs.HeaderWords as words
use Rattle.definitions.proofs.HeaderWords.{with_session}
use Rattle.definitions.proofs.Rows.{any_append, any-replicate}
use Rattle.definitions.proofs.SoundRow.{session-frees}
use Rattle.definitions.proofs.WellFormed.{Good, cleared, whole-session}
use Rattle.definitions.proofs.Refused.{unrefused-performs}
use Rattle.definitions.proofs.Counters.{counter_in, counter-changed}

-- "makes every projected price absent": q is p but for that price
pub record ProjectedAbsent (p q : Prices) : Type 0 where
  pub projected : q.projected ≡ 0
  pub last_sale : q.last_sale ≡ p.last_sale
  pub bid : q.bid ≡ p.bid
  pub offer : q.offer ≡ p.offer

pub record SecurityCleared (x y : Security) : Type 0 where
  pub terms : y.terms ≡ x.terms
  pub prior : y.prior ≡ x.prior
  pub main : ProjectedAbsent x.main y.main
  pub foreign : ProjectedAbsent x.foreign y.foreign
  pub figures : y.figures ≡ x.figures

-- "removes all ATO and ATC rows", and those of type 3 (paper 02, 1): the limit rows, open and cancelled, stay word for word and in their order, and so do the
-- counters
abbrev pub is_limit_row : Row → Bool
is_limit_row r = (eqb r.mark open_mark || eqb r.mark cancelled_mark) && eqb r.order_type limit

abbrev pub is_unpriced_row : Row → Bool
is_unpriced_row r = eqb r.order_type ato || eqb r.order_type atc || eqb r.order_type mp

pub record DeskCleared (d e : Desk) : Type 0 where
  pub limits : keep is_limit_row e.rows ≡ keep is_limit_row d.rows
  pub unpriced : any is_unpriced_row e.rows ≡ false
  pub counters : (c : Counter) → counter_in c e ≡ counter_in c d

-- v is w after a change to another session
pub record SessionChanged (customers securities session : ℕ) (w v : List ℕ) : Type 0 where
  pub header : header_of v ≡ with_session session (header_of w)
  pub security : (s : ℕ) → s < securities → SecurityCleared (security_at w s) (security_at v s)
  pub desk : (k : ℕ) → k < customers → DeskCleared (desk_at w k) (desk_at v k)

security-cleared : (x : Security) → SecurityCleared x (without_projected x)
unfolding without_projected
security-cleared x =
    let absent : (p : Prices) → ProjectedAbsent p (no_projected p) = λ p. record { projected = refl; last_sale = refl; bid = refl; offer = refl } in
    record { terms = refl; prior = refl; main = absent x.main; foreign = absent x.foreign; figures = refl }

module _ (p : Row → Bool) where
  keep_append : (xs ys : List Row) → keep p (xs ++ ys) ≡ keep p xs ++ keep p ys
  unfolding keep
  keep_append [] ys = refl
  keep_append (x ∷ xs) ys = go (p x) (keep_append xs ys)
    where
      go : (t : Bool) → keep p (xs ++ ys) ≡ keep p xs ++ keep p ys → cond t (x ∷ keep p (xs ++ ys)) (keep p (xs ++ ys)) ≡ cond t (x ∷ keep p xs) (keep p xs) ++ keep p ys
      go true below = ap (λ (rs : List Row). x ∷ rs) below
      go false below = below

  pub keep-free : (n : ℕ) → p free_row ≡ false → keep p (replicate n free_row) ≡ []
  unfolding keep
  keep-free zero h = refl
  keep-free (suc n) h = rw h (keep-free n h)

  -- a change of rows that leaves those of a kind, and makes none of that kind
  module _ (f : Row → Row) (stays : (r : Row) → p r ≡ true → f r ≡ r) (others : (r : Row) → p r ≡ false → p (f r) ≡ false) (marks : (r : Row) → p r ≡ true → marked r ≡ true) where
    keep_left : (rows : List Row) → keep p (keep marked (map f rows)) ≡ keep p rows
    unfolding keep
    keep_left [] = refl
    keep_left (r ∷ rs) = go (p r) refl (keep_left rs)
      where
        rest : List Row
        rest = keep marked (map f rs)

        go : (t : Bool) → p r ≡ t → keep p rest ≡ keep p rs → keep p (cond (marked (f r)) (f r ∷ rest) rest) ≡ cond t (r ∷ keep p rs) (keep p rs)
        go true e below = rw (stays r e, marks r e, e) (ap (λ (xs : List Row). r ∷ xs) below)
        go false e below = either (λ (xs : List Row). keep p xs ≡ keep p rs) (marked (f r)) _ _ (λ _. rw (others r e) below) (λ _. below)

    keep-edited : p free_row ≡ false → (rows : List Row) → keep p (edited f rows) ≡ keep p rows
    unfolding edited close_up
    keep-edited free rows =
        let front = keep marked (map f rows) in
        let n = length (map f rows) - count marked (map f rows) in
        keep_append front (replicate n free_row) ∙ rw (keep-free n free, append-nil (keep p front)) (keep_left rows)

  -- a change of rows that leaves none of a kind
  module _ (f : Row → Row) (none : (r : Row) → p (f r) ≡ false) where
    none_left : (rows : List Row) → any p (keep marked (map f rows)) ≡ false
    unfolding any keep
    none_left [] = refl
    none_left (r ∷ rs) =
        either (λ (xs : List Row). any p xs ≡ false) (marked (f r)) _ _ (λ _. rw (none r) (none_left rs)) (λ _. none_left rs)

    none-edited : p free_row ≡ false → (rows : List Row) → any p (edited f rows) ≡ false
    unfolding edited close_up
    none-edited free rows =
        let n = length (map f rows) - count marked (map f rows) in
        any_append p (keep marked (map f rows)) (replicate n free_row) ∙ rw (none_left rows) (any-replicate p n free_row free)

limit-stays : (r : Row) → is_limit_row r ≡ true → session_row r ≡ r
limit-stays r e = rw (eqb-true r.order_type limit (and_parts (is_open r || eqb r.mark cancelled_mark) (eqb r.order_type limit) e).1)

limit-marked : (r : Row) → is_limit_row r ≡ true → marked r ≡ true
limit-marked r e =
    ⊎_elim (λ o. rw (eqb-true r.mark open_mark o)) (λ c. rw (eqb-true r.mark cancelled_mark c))
    (or_cases (is_open r) (eqb r.mark cancelled_mark) (and_parts (is_open r || eqb r.mark cancelled_mark) (eqb r.order_type limit) e).0)

desk-cleared : (d : Desk) → DeskCleared d (changed session_row d)
unfolding changed
desk-cleared d =
    record {
      limits =
          keep-edited is_limit_row session_row limit-stays (λ r e. session-frees (λ (x : Row). is_limit_row x ≡ false) r refl (λ _. e)) limit-marked refl d.rows;
      unpriced = none-edited is_unpriced_row session_row (λ r. session-frees (λ (x : Row). is_unpriced_row x ≡ false) r refl (λ other. other)) refl d.rows;
      counters = λ c. counter-changed c session_row d;
    }

module _ {customers securities : ℕ} (w : List ℕ) (good : Good customers securities w) (s : ℕ) where
  pub changed-words : SessionChanged customers securities s w (each (header_of w).customers (change_desk (changed session_row)) (session_market s w))
  changed-words =
      let c = cleared w good s in
      let v = whole-session w good s in
      record {
        header = v.header ∙ c.header ∙ words.header-session s w (omega (arith, good.sized.long));
        security =
            λ t below.
            rw (v.securities-kept t below, c.cleared t below, words.security-put w good.sized 3 (lit≤ tt) (lit< tt) s t) (security-cleared (security_at w t));
        desk = λ k below. rw (v.done k below, c.desks k, words.desk-put w good.sized 3 (lit≤ tt) (lit< tt) s k) (desk-cleared (desk_at w k));
      }

  pub another-session : (b : List ℕ) → event_in b ≡ event.Session s → ((n : ℕ) → event_answer w b ≡ answer.Refused n → ⊥) → (s ≡ (header_of w).session → ⊥)
      → SessionChanged customers securities s w (event_words w b)
  unfolding perform after_session
  another-session b e answered other =
      rw (unrefused-performs w b answered, e, ne_eqb s (header_of w).session other) changed-words

pub same-session : (w b : List ℕ) → event_in b ≡ event.Session (header_of w).session → event_words w b ≡ w
unfolding outcome perform after_session
same-session w b e =
    rw e
    (either (λ (o : Outcome). words_of w o ≡ w) (eqb (first_met (conditions w b)) 0) _ _
    (λ _. rw (eq-eqb (header_of w).session (header_of w).session refl)) (λ _. refl))

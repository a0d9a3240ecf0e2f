-- Paper 02, 4: an order reads the header, its security and its desk, and writes its desk. Two states that are alike in these, whatever else they hold, sound or
-- damaged, therefore answer it alike.
-- Assumes nothing.
use mathlib.Core.Bool.{Bool, true, false, ◌&&◌, not}
use mathlib.Core.List.{List, [], ◌∷◌, ◌++◌}
use mathlib.Core.Path.{◌≡◌, refl, ap, sym, ◌∙◌}
use Prim.Native.Nat.{ℕ, ◌+◌, ◌≤◌, ◌<◌}
use native.Mathlib.Omega.{arith}
use lib.Dec.{leb, eqb}
use lib.ListN.{length, take, drop}
use borrow.Author.Tests.{eqb-true, leb-false, not-false}
use Rattle.definitions.specs.declared.Header.{Header}
use Rattle.definitions.specs.declared.Security.{Security}
use Rattle.definitions.specs.declared.Desk.{Desk}
use Rattle.definitions.specs.declared.Order.{Order}
use Rattle.definitions.specs.declared.Event.{Event}
use Rattle.definitions.specs.declared.Event.TheVariants as event
use Rattle.definitions.specs.declared.Verdict.{Verdict}
use Rattle.definitions.specs.Answers as answer
use Rattle.definitions.specs.Codes.{desk_rows}
use Rattle.definitions.specs.Lists.{part, first_met}
use Rattle.definitions.specs.State.{header_size, security_size, desk_size, security_place, desk_place, header_in, header_of, security_of, desk_of, desk_words, security_at, desk_at, put_desk, state_fits}
use Rattle.definitions.specs.Sound.{sound_security, sound_desk}
use Rattle.definitions.specs.Events.{event_in, bytes_conditions}
use Rattle.definitions.specs.Desks.{ordered}
use Rattle.definitions.specs.Rules.{verdict_of}
use Rattle.definitions.specs.Refusals.{bad_name, event_conditions}
use Rattle.definitions.specs.Gate.{Outcome, refused, answer_of, words_of, conditions, ordered_at, perform, refused_or, outcome, event_answer, event_words}
use Rattle.definitions.specs.Lone.{customer_words}
use Rattle.definitions.proofs.Tests.{or_parts}
use Rattle.definitions.proofs.Table.{unmet}
use Rattle.definitions.proofs.Words as words
use Rattle.definitions.proofs.Records.{length-desk}
use Rattle.definitions.proofs.State as state
use Rattle.definitions.proofs.State.{Sized}
use Rattle.definitions.proofs.SoundDesk.{length-ordered}
use Rattle.definitions.proofs.Refused.{numbered-conditions}
use Rattle.definitions.proofs.Isolation.{view_with}

-- "two lent states of one length, alike in the header, the order's security and its desk". Neither need fit, nor be sound; a security of S or more and a customer of
-- C or more have no words to be alike in.
pub record AlikeFor (s k : ℕ) (v w : List ℕ) : Type 0 where
  pub one-length : length v ≡ length w
  pub header : part v 0 header_size ≡ part w 0 header_size
  pub security : s < (header_of v).securities → part v (security_place s) security_size ≡ part w (security_place s) security_size
  pub desk : k < (header_of v).customers → customer_words v k ≡ customer_words w k

-- "changes no other word": the words are as many, and those before the desk and those after it stay
pub record OnlyItsDesk (k : ℕ) (old new : List ℕ) : Type 0 where
  pub one-length : length new ≡ length old
  pub before : take (desk_place (header_of old).securities k) new ≡ take (desk_place (header_of old).securities k) old
  pub after : drop (desk_place (header_of old).securities k + desk_size) new ≡ drop (desk_place (header_of old).securities k + desk_size) old

-- "the order gets the same answer, leaves these alike and changes no other word"
pub record OneOrder (s k : ℕ) (b v w : List ℕ) : Type 0 where
  pub same_answer : event_answer v b ≡ event_answer w b
  pub left-alike : AlikeFor s k (event_words v b) (event_words w b)
  pub one_only : OnlyItsDesk k v (event_words v b)
  pub other-only : OnlyItsDesk k w (event_words w b)

unchanged : {k : ℕ} (w : List ℕ) → OnlyItsDesk k w w
unchanged w = record { one-length = refl; before = refl; after = refl }

same-header : (v w : List ℕ) → part v 0 header_size ≡ part w 0 header_size → header_of v ≡ header_of w
unfolding header_of
same-header v w e = ap header_in e

-- words that stand before the desk
kept : {k : ℕ} {old new : List ℕ} → OnlyItsDesk k old new → (at n : ℕ) → at + n ≤ desk_place (header_of old).securities k → part new at n ≡ part old at n
kept {k} {old} {new} only at n h =
    let place = desk_place (header_of old).securities k in
    sym (words.part-take new place at n h) ∙ ap (λ (u : List ℕ). part u at n) only.before ∙ words.part-take old place at n h

-- two states that are alike, each with nothing but its desk changed, are alike again once the desks are
alike-again : {s k : ℕ} {v w v₁ w₁ : List ℕ} → AlikeFor s k v w → OnlyItsDesk k v v₁ → OnlyItsDesk k w w₁ → customer_words v₁ k ≡ customer_words w₁ k
    → AlikeFor s k v₁ w₁
alike-again {s} {k} {v} {w} {v₁} alike one other desks =
    let header-kept = kept one 0 header_size (omega arith) in
    let counted = ap (λ (h : Header). h.securities) (same-header v₁ v header-kept) in
    let as_many = ap (λ (h : Header). h.securities) (same-header v w alike.header) in
    record {
      one-length = one.one-length ∙ alike.one-length ∙ sym other.one-length;
      header = header-kept ∙ alike.header ∙ sym (kept other 0 header_size (omega arith));
      security =
          λ below.
          kept one (security_place s) security_size (omega (arith, counted))
          ∙ alike.security (omega (arith, counted))
          ∙ sym (kept other (security_place s) security_size (omega (arith, counted, as_many)));
      desk = λ _. desks;
    }

module _ (b : List ℕ) (k : ℕ) (o : Order) (is-order : event_in b ≡ event.Order k o) where
  abbrev e : Event
  e = event.Order k o

  -- by what an order reads: the number found first, the verdict and the desk after it
  abbrev sound_by : Header → Security → Desk → Bool
  sound_by h x d = sound_security x && sound_desk h.securities h.clock d

  abbrev first_by : Bool → Header → Security → Desk → ℕ
  first_by fits h x d =
      first_met ((1, not fits) ∷ (bytes_conditions b ++ event_conditions h ((8, not (sound_by h x d)) ∷ []) (view_with h x d) e))

  abbrev verdict_by : Header → Security → Desk → Verdict
  verdict_by h x d = verdict_of (view_with h x d) o

  abbrev desk_by : Header → Security → Desk → Desk
  desk_by h x d = ordered (verdict_by h x d) h.clock o d

  abbrev read : {A : Type 0} → (Header → Security → Desk → A) → List ℕ → A
  read f w = f (header_of w) (security_at w o.security) (desk_at w k)

  first_by_lem : (w : List ℕ) → first_met (conditions w b) ≡ read (first_by (state_fits w)) w
  unfolding conditions
  first_by_lem w = rw is-order

  -- a bad name is found before a record is read
  first-bad-name : (fits : Bool) (h : Header) (x y : Security) (c d : Desk) → bad_name h e ≡ true → first_by fits h x c ≡ first_by fits h y d
  unfolding first_met
  first-bad-name fits h x y c d bad = rw bad

  performed : (w : List ℕ) → first_met (conditions w b) ≡ 0 → outcome w b ≡ perform w e
  unfolding outcome
  performed w none = ap (λ (n : ℕ). refused_or n (perform w (event_in b))) none ∙ ap (perform w) is-order

  -- the desk that follows the verdict, put back in a state that has its place
  module _ (w : List ℕ) (fits : state_fits w ≡ true) (below : k < (header_of w).customers) where
    abbrev after : Desk
    after = ordered_at w k o

    sized : Sized (header_of w).customers (header_of w).securities w
    sized = state.fits-sized w fits

    whole : length after.rows ≡ desk_rows
    whole = length-ordered _ (header_of w).clock o (desk_at w k) ∙ state.length-desk-rows w k

    put_only : OnlyItsDesk k w (put_desk w k after)
    unfolding put_desk
    put_only =
        let place = desk_place (header_of w).securities k in
        let long = length-desk after whole in
        let room : place + length (desk_words after) ≤ length w = omega (arith, sized.long) in
        record {
          one-length = words.length-put w place (desk_words after) room;
          before = words.take-put-before w place (desk_words after) room place (omega arith);
          after = words.drop-put-after w place (desk_words after) room (place + desk_size) (omega arith);
        }

    put-words : customer_words (put_desk w k after) k ≡ desk_words after
    put-words =
        state.customer-words (put_desk w k after) (state.sized-put-desk w sized k below after whole) k below
        ∙ ap desk_words (state.desk-put-same w sized k below after whole)

  module _ (v w : List ℕ) (alike : AlikeFor o.security k v w) where
    header-same : header_of v ≡ header_of w
    header-same = same-header v w alike.header

    fits-same : state_fits v ≡ state_fits w
    unfolding state_fits
    fits-same = rw (header-same, alike.one-length)

    abbrev GoodNames : Type 0
    GoodNames = bad_name (header_of v) e ≡ false

    below : GoodNames → (k < (header_of v).customers) × (o.security < (header_of v).securities)
    below good =
        let parts = or_parts (leb (header_of v).customers k) (leb (header_of v).securities o.security) good in
        (leb-false (header_of v).customers k parts.0, leb-false (header_of v).securities o.security parts.1)

    security-same : GoodNames → security_at v o.security ≡ security_at w o.security
    unfolding security_at
    security-same good = ap security_of (alike.security (below good).1)

    desk_same : GoodNames → desk_at v k ≡ desk_at w k
    unfolding desk_at customer_words
    desk_same good = ap desk_of (alike.desk (below good).0)

    read_same : {A : Type 0} (f : Header → Security → Desk → A) → GoodNames → read f v ≡ read f w
    read_same f good = rw (header-same, security-same good, desk_same good)

    first-same : first_met (conditions v b) ≡ first_met (conditions w b)
    first-same = first_by_lem v ∙ go (bad_name (header_of v) e) refl ∙ sym (first_by_lem w)
      where
        go : (t : Bool) → bad_name (header_of v) e ≡ t → read (first_by (state_fits v)) v ≡ read (first_by (state_fits w)) w
        go true bad = rw (← fits-same, ← header-same) (first-bad-name (state_fits v) (header_of v) _ _ _ _ bad)
        go false good = rw (← fits-same) (read_same (first_by (state_fits v)) good)

    from-outcomes : (x y : Outcome) → outcome v b ≡ x → outcome w b ≡ y → answer_of x ≡ answer_of y
        → AlikeFor o.security k (words_of v x) (words_of w y) → OnlyItsDesk k v (words_of v x) → OnlyItsDesk k w (words_of w y)
        → OneOrder o.security k b v w
    from-outcomes x y ex ey answers left one other =
        record { same_answer = ap answer_of ex ∙ answers ∙ ap answer_of (sym ey); left-alike = rw (ex, ey) left; one_only = rw ex one; other-only = rw ey other }

    unrefused : first_met (conditions v b) ≡ 0 → OneOrder o.security k b v w
    unfolding perform conditions
    unrefused none =
        let good : GoodNames = rw is-order at (unmet 4 (conditions v b) (numbered-conditions v b) none) in
        let fits = not-false (state_fits v) (unmet 1 (conditions v b) (numbered-conditions v b) none) in
        let fits₁ = sym fits-same ∙ fits in
        let there = (below good).0 in
        let there₁ : k < (header_of w).customers = rw header-same at there in
        let one = put_only v fits there in
        let other = put_only w fits₁ there₁ in
        let desks = put-words v fits there ∙ ap desk_words (read_same desk_by good) ∙ sym (put-words w fits₁ there₁) in
        from-outcomes _ _ (performed v none) (performed w (sym first-same ∙ none)) (ap answer.Verdict (read_same verdict_by good)) (alike-again alike one other desks) one other

    pub one-order : OneOrder o.security k b v w
    unfolding outcome
    one-order = go (first_met (conditions v b)) refl (eqb (first_met (conditions v b)) 0) refl
      where
        go : (n : ℕ) → first_met (conditions v b) ≡ n → (t : Bool) → eqb n 0 ≡ t → OneOrder o.security k b v w
        go n first true zero = unrefused (first ∙ eqb-true n 0 zero)
        go n first false some =
            from-outcomes (refused n) (refused n) (rw (first, some)) (rw (sym first-same ∙ first, some)) refl alike (unchanged v) (unchanged w)

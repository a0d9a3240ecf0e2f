-- One event, seen by the lone run of k: an event of the market or of k does there what it does to the market's words and k's desk in the gate, and any
-- other event leaves both as they were.
-- Assumes nothing.
use mathlib.Core.Bool.{Bool, true, false, cond, ◌&&◌, not, true≢false, false≢true, and-eq-true_iff}
use mathlib.Core.List.{List, [], ◌∷◌}
use mathlib.Core.Logic.{⊎_elim}
use mathlib.Core.Path.{◌≡◌, refl, ap, ap₂, sym, ◌∙◌}
use Prim.Native.Nat.{ℕ, ◌<◌}
use lib.Dec.{leb, ltb, eqb, lit≤, lit<}
use lib.ListN.{length}
use borrow.Author.Tests.{eqb-true, eqb-false, leb-true, lt-ltb}
use Rattle.definitions.specs.declared.Header.{Header}
use Rattle.definitions.specs.declared.Security.{Security}
use Rattle.definitions.specs.declared.Row.{Row}
use Rattle.definitions.specs.declared.Desk.{Desk}
use Rattle.definitions.specs.declared.Order.{Order}
use Rattle.definitions.specs.declared.Event.{Event}
use Rattle.definitions.specs.Answers.{Answer}
use Rattle.definitions.specs.Answers as answer
use Rattle.definitions.specs.Codes.{desk_rows}
use Rattle.definitions.specs.Lists.{each, put, first_met}
use Rattle.definitions.specs.State.{header_of, security_at, desk_at, put_security, put_desk, session_place}
use Rattle.definitions.specs.Events.{event_in, bytes_conditions}
use Rattle.definitions.specs.Changes.{Change, set_clock, set_session, set_security, enter_order, set_rows, change_of, Named, none, one, every, if_one, named, customer_named, security_named, customer, nobody, owner_named, owner_of}
use Rattle.definitions.specs.Desks.{fresh_desk, session_row, changed, ordered}
use Rattle.definitions.specs.Rules.{View, verdict_of}
use Rattle.definitions.specs.Refusals.{beyond, bad_name, early_conditions, later_conditions, event_conditions}
use Rattle.definitions.specs.Gate.{Outcome, refused, done, answer_of, words_of, view_by, view_of, records_sound, conditions, after_session, session_market, change_security, change_desk, applied, perform, refused_or, outcome, event_words}
use Rattle.definitions.specs.Securities.{without_projected}
use Rattle.definitions.specs.Lone.{Lone, market_words, lone_conditions, lone_done, lone_applied, lone_refused_or, lone_outcome, fed_to, is_fed}
use Rattle.definitions.proofs.Tests.{or_parts}
use Rattle.definitions.proofs.Table.{first-append, first-without}
use Rattle.definitions.proofs.State as state
use Rattle.definitions.proofs.HeaderWords as words
use Rattle.definitions.proofs.Passed.{table, Passed, passed, Inside, numbered-bytes, none-met-bytes, none-met-event, outcome-read}
use Rattle.definitions.proofs.SoundDesk as desk
use Rattle.definitions.proofs.WellFormed.{Good, fits, compared, records-sound, cleared, whole-session, order-names, bad_customer, customer-named, below-securities}

-- what the lone run of k holds of a state
abbrev pub lone_of : List ℕ → ℕ → Lone
lone_of w k = record { market = market_words w; desk = desk_at w k }

abbrev pub view_with : Header → Security → Desk → View
view_with h s d = record { market = record { session = h.session; clock = h.clock; security = s }; desk = d }

-- the number found first, given the header, the records' condition and what the event meets
abbrev found_by : Header → List (ℕ × Bool) → View → Event → ℕ
found_by h records v e = first_met (event_conditions h records v e)

named-first : (h : Header) (r₁ r₂ : List (ℕ × Bool)) (v₁ v₂ : View) (e : Event) → bad_name h e ≡ true → found_by h r₁ v₁ e ≡ found_by h r₂ v₂ e
unfolding first_met
named-first h r₁ r₂ v₁ v₂ e t = rw t

-- a customer of whom an event speaks, where the lone run of k is fed it
fed-customer : (customers j k : ℕ) → fed_to k (owner_named customers (one j)) ≡ true → j ≡ k
fed-customer customers j k = go (ltb j customers)
  where
    go : (t : Bool) → fed_to k (cond t (customer j) nobody) ≡ true → j ≡ k
    go true e = eqb-true j k e
    go false e = absurd (false≢true e)

module _ {customers securities : ℕ} (w : List ℕ) (good : Good customers securities w) (k : ℕ) (below : k < customers) where
  header-same : header_of (market_words w) ≡ header_of w
  header-same = state.header-market w good.sized

  security-same : (s : ℕ) → s < securities → security_at (market_words w) s ≡ security_at w s
  security-same s h = state.security-market w good.sized s h

  some-security : 0 < securities
  some-security =
      let parts = (and-eq-true_iff (leb 1 customers && leb customers 256 && leb 1 securities) (leb securities 1_024)).0 good.fit in
      leb-true 1 securities ((and-eq-true_iff (leb 1 customers && leb customers 256) (leb 1 securities)).0 parts.0).1

  -- a security that is named is there, and where none is, security 0 is
  named-there : (x : Named) → beyond (header_of w).securities x ≡ false → if_one 0 (λ s. s) x < securities
  named-there none inside = some-security
  named-there (one s) inside = below-securities w good s inside
  named-there every inside = some-security

  abbrev pub Fed : Event → Type 0
  Fed e = fed_to k (owner_named customers (customer_named e)) ≡ true

  -- the lone run meets what the gate meets: the desk of the customer that is named, and the security, where both are there
  desk_same : (x : Named) → fed_to k (owner_named customers x) ≡ true → if_one fresh_desk (λ j. desk_at w k) x ≡ if_one fresh_desk (desk_at w) x
  desk_same none fed = refl
  desk_same (one j) fed = ap (desk_at w) (sym (fed-customer customers j k fed))
  desk_same every fed = refl

  abbrev met_alone : Event → View
  met_alone e = view_by (λ j. desk_at w k) (market_words w) e

  view-same : (e : Event) → Fed e → bad_name (header_of w) e ≡ false → met_alone e ≡ view_of w e
  view-same e fed n =
      let parts = or_parts (beyond (header_of w).customers (customer_named e)) (beyond (header_of w).securities (security_named e)) n in
      let s = if_one 0 (λ s. s) (security_named e) in
      ap₂ (λ (h : Header) (x : Security). view_with h x (if_one fresh_desk (λ j. desk_at w k) (customer_named e))) header-same (security-same s (named-there (security_named e) parts.1))
      ∙ ap (view_with (header_of w) (security_at w s)) (desk_same (customer_named e) fed)

  -- "gets the number found first": the same in both, since condition 8 never arises
  same-refusal : (e : Event) → Fed e → found_by (header_of (market_words w)) [] (met_alone e) e ≡ first_met (table w e)
  same-refusal e fed = ap (λ (h : Header). found_by h [] (met_alone e) e) header-same ∙ go (bad_name (header_of w) e) refl
    where
      go : (t : Bool) → bad_name (header_of w) e ≡ t → found_by (header_of w) [] (met_alone e) e ≡ first_met (table w e)
      go true n = named-first (header_of w) [] ((8, not (records_sound w e)) ∷ []) (met_alone e) (view_of w e) e n
      go false n =
          ap (λ (v : View). found_by (header_of w) [] v e) (view-same e fed n)
          ∙ sym (first-without (early_conditions (header_of w) e) (later_conditions (view_of w e) e) 8)
          ∙ ap (λ (t : Bool). found_by (header_of w) ((8, not t) ∷ []) (view_of w e) e) (sym (records-sound w good e n))

  -- what the gate did, as the lone run would show it
  abbrev shown : Outcome → Answer × Lone
  shown o = (answer_of o, lone_of (words_of w o) k)

  -- an order decided by a header, a security and the desk
  abbrev order_by : Order → Header → Security → Answer × Lone
  order_by x h s =
      lone_done (answer.Verdict (verdict_of (view_with h s (desk_at w k)) x)) (market_words w)
      (ordered (verdict_of (view_with h s (desk_at w k)) x) h.clock x (desk_at w k))

  -- a desk put back at k's place
  put_back : (a : Answer) (d : Desk) → length d.rows ≡ desk_rows → lone_done a (market_words w) d ≡ lone_done a (market_words (put_desk w k d)) (desk_at (put_desk w k d) k)
  put_back a d whole =
      ap₂ (lone_done a) (sym (state.market-put-desk w good.sized k below d whole)) (sym (state.desk-put-same w good.sized k below d whole))

  -- a security put back
  put-security : (s : ℕ) (f : Security → Security) → s < securities
      → lone_done answer.Ok (put_security (market_words w) s (f (security_at (market_words w) s))) (desk_at w k)
      ≡ lone_done answer.Ok (market_words (put_security w s (f (security_at w s)))) (desk_at (put_security w s (f (security_at w s))) k)
  put-security s f s-below =
      ap₂ (lone_done answer.Ok)
      (ap (λ (x : Security). put_security (market_words w) s (f x)) (security-same s s-below)
      ∙ sym (state.market-put-security w good.sized s s-below (f (security_at w s))))
      (sym (state.desk-put-security w good.sized s s-below (f (security_at w s)) k))

  put-back-changed : (f : Row → Row) → lone_done answer.Ok (market_words w) (changed f (desk_at w k)) ≡ shown (done answer.Ok (change_desk (changed f) k w))
  put-back-changed f = put_back answer.Ok (changed f (desk_at w k)) (desk.length-changed f (desk_at w k) ∙ state.length-desk-rows w k)

  session-same : (s : ℕ) → lone_applied (lone_of w k) (set_session s) ≡ shown (applied w (set_session s))
  unfolding lone_applied after_session session_market
  session-same s =
      ap (λ (h : Header). cond (eqb s h.session) (lone_done answer.Ok (market_words w) (desk_at w k)) anew) header-same ∙ go (eqb s (header_of w).session)
    where
      anew : Answer × Lone
      anew = lone_done answer.Ok (session_market s (market_words w)) (changed session_row (desk_at w k))

      changed-words : List ℕ
      changed-words = each (header_of w).customers (change_desk (changed session_row)) (session_market s w)

      market_same : session_market s (market_words w) ≡ market_words changed-words
      market_same =
          ap (λ (h : Header). each h.securities (change_security without_projected) (put (market_words w) session_place (s ∷ []))) header-same
          ∙ ap (λ (n : ℕ). each n (change_security without_projected) (put (market_words w) session_place (s ∷ []))) good.sized.counted
          ∙ ap (each securities (change_security without_projected)) (sym (words.market-put w good.sized 3 (lit≤ tt) (lit< tt) s))
          ∙ sym (cleared w good s).market
          ∙ sym (whole-session w good s).market

      own-desk : changed session_row (desk_at w k) ≡ desk_at changed-words k
      own-desk =
          ap (changed session_row) (sym (words.desk-put w good.sized 3 (lit≤ tt) (lit< tt) s k) ∙ sym ((cleared w good s).desks k)) ∙ sym ((whole-session w good s).done k below)

      go : (t : Bool) → cond t (lone_done answer.Ok (market_words w) (desk_at w k)) anew ≡ lone_done answer.Ok (market_words (cond t w changed-words)) (desk_at (cond t w changed-words) k)
      go true = refl
      go false = ap₂ (lone_done answer.Ok) market_same own-desk

  -- an event that meets no condition does in the lone run what it does in the gate
  same-applied : (c : Change) → fed_to k (owner_named customers (named c).0) ≡ true → Inside w c → lone_applied (lone_of w k) c ≡ shown (applied w c)
  unfolding lone_applied
  same-applied (set_clock t) fed inside =
      ap₂ (lone_done answer.Ok) (sym (words.market-put w good.sized 2 (lit≤ tt) (lit< tt) t)) (sym (words.desk-put w good.sized 2 (lit≤ tt) (lit< tt) t k))
  same-applied (set_session s) fed inside = session-same s
  same-applied (set_security s f) fed inside = put-security s f (below-securities w good s inside)
  same-applied (enter_order j x) fed inside =
      ap₂ (order_by x) header-same (security-same x.security (order-names w good j x.security inside).1)
      ∙ put_back _ _ (desk.length-ordered _ (header_of w).clock x (desk_at w k) ∙ state.length-desk-rows w k)
      ∙ ap (λ (i : ℕ). shown (applied w (enter_order i x))) (sym (fed-customer customers j k fed))
  same-applied (set_rows j f) fed inside =
      ap (λ (h : Header). lone_done answer.Ok (market_words w) (changed (f h.clock) (desk_at w k))) header-same
      ∙ put-back-changed (f (header_of w).clock)
      ∙ ap (λ (i : ℕ). shown (applied w (set_rows i f))) (sym (fed-customer customers j k fed))

  pub same-perform : (e : Event) → Fed e → Passed w e → lone_applied (lone_of w k) (change_of e) ≡ shown (perform w e)
  unfolding perform
  same-perform e fed p = same-applied (change_of e) fed (passed 4 w e p)

  -- an event of the market or of k
  pub same-event : (b : List ℕ) → is_fed customers k b ≡ true → lone_outcome (lone_of w k) b ≡ shown (outcome w b)
  unfolding is_fed owner_of lone_outcome lone_conditions
  same-event b fed =
      ap (λ (n : ℕ). lone_refused_or n (lone_of w k) (lone_applied (lone_of w k) (change_of e)))
      (first-append (bytes_conditions b) (event_conditions (header_of (market_words w)) [] (met_alone e) e) (numbered-bytes b))
      ∙ read (eqb unread 0) refl fed
      ∙ ap shown (sym (outcome-read w b (fits w good)))
    where
      e : Event
      e = event_in b

      unread : ℕ
      unread = first_met (bytes_conditions b)

      told : (t : Bool) → eqb (first_met (table w e)) 0 ≡ t → Fed e
          → cond t (lone_applied (lone_of w k) (change_of e)) (lone_done (answer.Refused (first_met (table w e))) (market_words w) (desk_at w k)) ≡ shown (cond t (perform w e) (refused (first_met (table w e))))
      told true unmet own = same-perform e own (eqb-true (first_met (table w e)) 0 unmet)
      told false some own = refl

      read : (t : Bool) → eqb unread 0 ≡ t → fed_to k (cond t (owner_named customers (customer_named e)) nobody) ≡ true
          → lone_refused_or (cond t (found_by (header_of (market_words w)) [] (met_alone e) e) unread) (lone_of w k) (lone_applied (lone_of w k) (change_of e))
          ≡ shown (refused_or (cond t (first_met (table w e)) unread) (perform w e))
      read true whole own =
          ap (λ (n : ℕ). lone_refused_or n (lone_of w k) (lone_applied (lone_of w k) (change_of e))) (same-refusal e own) ∙ told (eqb (first_met (table w e)) 0) refl own
      read false short own = absurd (false≢true own)

  -- another customer's desk put back
  other-desk : (j : ℕ) (d : Desk) → j < customers → (j ≡ k → ⊥) → length d.rows ≡ desk_rows → lone_of (put_desk w j d) k ≡ lone_of w k
  other-desk j d j-below differ whole =
      ap₂ {C = Lone} (λ (m : List ℕ) (x : Desk). record { market = m; desk = x })
      (state.market-put-desk w good.sized j j-below d whole)
      (⊎_elim (λ less. state.desk-put-below w good.sized j j-below d whole k less)
      (⊎_elim (λ e. absurd (differ (sym e))) (λ more. state.desk-put-above w good.sized j j-below d whole k more))
      (compared k j))

  not_own : (j : ℕ) → j < customers → fed_to k (owner_named customers (one j)) ≡ false → j ≡ k → ⊥
  not_own j j-below f = eqb-false j k (rw (lt-ltb j customers j-below) at f)

  other-changed : (j : ℕ) → bad_customer w j ≡ false → fed_to k (owner_named customers (one j)) ≡ false → (f : Row → Row)
      → lone_of (change_desk (changed f) j w) k ≡ lone_of w k
  other-changed j named other f =
      let j-below = customer-named w good j named in
      other-desk j _ j-below (not_own j j-below other) (desk.length-changed f (desk_at w j) ∙ state.length-desk-rows w j)

  other-applied : (c : Change) → fed_to k (owner_named customers (named c).0) ≡ false → Inside w c → lone_of (words_of w (applied w c)) k ≡ lone_of w k
  other-applied (set_clock t) other inside = absurd (true≢false other)
  other-applied (set_session s) other inside = absurd (true≢false other)
  other-applied (set_security s f) other inside = absurd (true≢false other)
  other-applied (enter_order j x) other inside =
      let j-below = (order-names w good j x.security inside).0 in
      other-desk j _ j-below (not_own j j-below other) (desk.length-ordered _ (header_of w).clock x (desk_at w j) ∙ state.length-desk-rows w j)
  other-applied (set_rows j f) other inside = other-changed j inside other (f (header_of w).clock)

  pub other-perform : (e : Event) → fed_to k (owner_named customers (customer_named e)) ≡ false → Passed w e → lone_of (words_of w (perform w e)) k ≡ lone_of w k
  unfolding perform
  other-perform e other p = other-applied (change_of e) other (passed 4 w e p)

  -- an event of another customer, or of nobody
  pub other-event : (b : List ℕ) → is_fed customers k b ≡ false → lone_of (event_words w b) k ≡ lone_of w k
  unfolding is_fed owner_of outcome
  other-event b f = tried (eqb first 0) refl
    where
      first : ℕ
      first = first_met (conditions w b)

      whole : first ≡ 0 → fed_to k (owner_named customers (customer_named (event_in b))) ≡ false
      whole unmet = rw (none-met-bytes w b unmet) at f

      tried : (t : Bool) → eqb first 0 ≡ t → lone_of (words_of w (cond t (perform w (event_in b)) (refused first))) k ≡ lone_of w k
      tried true unmet =
          let zero = eqb-true first 0 unmet in
          other-perform (event_in b) (whole zero) (none-met-event w b zero)
      tried false some = refl

-- Counters over histories: after every one, each counter of a customer is the number of the answers of its kind to that customer's events.
-- Assumes nothing.
use mathlib.Core.Bool.{Bool, true, false, cond, ◌&&◌, ◌||◌, and-false, false≢true}
use mathlib.Core.List.{List, [], ◌∷◌}
use mathlib.Core.Path.{◌≡◌, refl, ap, sym, ◌∙◌}
use Prim.Native.Nat.{ℕ, ◌+◌, ◌<◌}
use native.Mathlib.Nat.{zero-add}
use native.Mathlib.Omega.{arith}
use lib.Dec.{leb, ltb, eqb}
use borrow.Author.Tests.{ltb-true, ltb-false}
use Rattle.definitions.specs.declared.Row.{Row}
use Rattle.definitions.specs.declared.Desk.{Desk}
use Rattle.definitions.specs.declared.Event.{Event}
use Rattle.definitions.specs.declared.Verdict.{Verdict}
use Rattle.definitions.specs.declared.Verdict.TheVariants as verdict
use Rattle.definitions.specs.declared.Counter.{Counter}
use Rattle.definitions.specs.declared.Counter.TheVariants as counts
use Rattle.definitions.specs.Answers.{Answer}
use Rattle.definitions.specs.Answers as answer
use Rattle.definitions.specs.Codes.{max_count}
use Rattle.definitions.specs.Lists.{count, first_met}
use Rattle.definitions.specs.State.{header_of, desk_at}
use Rattle.definitions.specs.Answers.{verdict_number}
use Rattle.definitions.specs.Events.{event_in, bytes_conditions}
use Rattle.definitions.specs.Changes.{Change, set_clock, set_session, set_security, enter_order, set_rows, change_of, one, named, customer_named, Owner, market, customer, nobody, owner_named, owner_of}
use Rattle.definitions.specs.Desks.{fresh_desk, counted_up, with_rows, session_row, changed, counted, takes_row, added, ordered}
use Rattle.definitions.specs.Gate.{answer_of, refused, applied, perform, outcome, conditions, event_answer, event_words, words_after, answers_to}
use Rattle.definitions.specs.Lone.{Lone, lone_conditions, lone_verdict, lone_applied, lone_outcome, fed_to, is_fed}
use Rattle.definitions.proofs.Tests.{either}
use Rattle.definitions.proofs.Lists.{bit, count-cons}
use Rattle.definitions.proofs.Rows.{count_none}
use Rattle.definitions.proofs.WellFormed.{Good, keeps}
use Rattle.definitions.proofs.Isolation.{lone_of, same-event, other-event}

-- a counter's word of a desk
abbrev pub counter_in : Counter → Desk → ℕ
counter_in counts.Accepted d = d.accepted
counter_in counts.Warned d = d.warned
counter_in counts.Rejected d = d.rejected

-- the verdicts that a counter counts, by the number that a caller is told: 100 accept, 110 and 130 warn, 200 and a letter's place reject
abbrev pub counts_verdict : Counter → ℕ → Bool
counts_verdict counts.Accepted n = eqb n 100
counts_verdict counts.Warned n = eqb n 110 || eqb n 130
counts_verdict counts.Rejected n = leb 200 n

abbrev pub counts_answer : Counter → Answer → Bool
counts_answer c answer.Ok = false
counts_answer c (answer.Verdict v) = counts_verdict c (verdict_number v)
counts_answer c (answer.Refused n) = false

-- "each stays at 4,294,967,295 once there"
abbrev pub up_to_max : ℕ → ℕ
up_to_max n = cond (ltb n max_count) n max_count

-- "Kinds 5 to 7 belong to the customer they name", and kind 8
abbrev pub is_owner : ℕ → Owner → Bool
is_owner k market = false
is_owner k (customer j) = eqb j k
is_owner k nobody = false

unfoldable pub belongs_to : ℕ → ℕ → List ℕ → Bool
belongs_to customers k b = is_owner k (owner_of customers b)

-- a counter, raised where a test says so
abbrev raised : Bool → ℕ → ℕ
raised t n = cond t (counted_up n) n

raised-up : (t : Bool) (n : ℕ) → raised t (up_to_max n) ≡ up_to_max (n + bit t)
raised-up false n = let same : n ≡ n + 0 = omega arith in ap up_to_max same
raised-up true n = go (ltb n max_count) refl (ltb (n + 1) max_count) refl
  where
    go : (t : Bool) → ltb n max_count ≡ t → (u : Bool) → ltb (n + 1) max_count ≡ u → counted_up (cond t n max_count) ≡ cond u (n + 1) max_count
    go true less true next = rw less
    go true less false next = rw less (omega (arith, ltb-true n max_count less, ltb-false (n + 1) max_count next))
    go false more true next = absurd (omega (arith, ltb-false n max_count more, ltb-true (n + 1) max_count next))
    go false more false next = refl

by-counter : (P : Counter → Type 0) → P counts.Accepted → P counts.Warned → P counts.Rejected → (c : Counter) → P c
by-counter P a w r counts.Accepted = a
by-counter P a w r counts.Warned = w
by-counter P a w r counts.Rejected = r

-- a verdict raises the counter that counts it, and no other
counted-raises : (v : Verdict) (d : Desk) (c : Counter) → counter_in c (counted v d) ≡ raised (counts_verdict c (verdict_number v)) (counter_in c d)
unfolding counted
counted-raises verdict.RejectS d = by-counter _ refl refl refl
counted-raises verdict.RejectV d = by-counter _ refl refl refl
counted-raises verdict.RejectC d = by-counter _ refl refl refl
counted-raises verdict.RejectQ d = by-counter _ refl refl refl
counted-raises verdict.RejectW d = by-counter _ refl refl refl
counted-raises verdict.RejectP d = by-counter _ refl refl refl
counted-raises verdict.Warn30 d = by-counter _ refl refl refl
counted-raises verdict.Warn10 d = by-counter _ refl refl refl
counted-raises verdict.Accept d = by-counter _ refl refl refl

-- other rows leave the counters
pub counter-with-rows : (c : Counter) (rows : List Row) (d : Desk) → counter_in c (with_rows rows d) ≡ counter_in c d
counter-with-rows counts.Accepted rows d = refl
counter-with-rows counts.Warned rows d = refl
counter-with-rows counts.Rejected rows d = refl

pub counter-changed : (c : Counter) (f : Row → Row) (d : Desk) → counter_in c (changed f d) ≡ counter_in c d
unfolding changed
counter-changed c f d = counter-with-rows c _ d

module _ (c : Counter) (l : Lone) where
  -- an answer of the lone run, and the counter as that answer says
  abbrev Counts : Answer × Lone → Type 0
  Counts x = counter_in c x.1.desk ≡ raised (counts_answer c x.0) (counter_in c l.desk)

  counts-applied : (e : Change) → Counts (lone_applied l e)
  unfolding lone_applied ordered added
  counts-applied (set_clock t) = refl
  counts-applied (set_session s) = either Counts (eqb s (header_of l.market).session) _ _ (λ _. refl) (λ _. counter-changed c session_row l.desk)
  counts-applied (set_security s f) = refl
  counts-applied (enter_order k x) =
      let v = lone_verdict l x in
      counted-raises v _ c
      ∙ ap (raised (counts_verdict c (verdict_number v)))
      (either (λ (d : Desk). counter_in c d ≡ counter_in c l.desk) (takes_row v) _ _ (λ _. counter-with-rows c _ l.desk) (λ _. refl))
  counts-applied (set_rows k f) = counter-changed c _ l.desk

  counts-outcome : (b : List ℕ) → Counts (lone_outcome l b)
  unfolding lone_outcome
  counts-outcome b = either Counts (eqb (first_met (lone_conditions l b)) 0) _ _ (λ _. counts-applied (change_of (event_in b))) (λ _. refl)

-- an event that is fed to the lone run of k is k's, or the market's and not answered with a verdict
module _ (c : Counter) (customers k : ℕ) (w : List ℕ) where
  own : (j : ℕ) → fed_to k (owner_named customers (one j)) ≡ true → is_owner k (owner_named customers (one j)) ≡ true
  own j = go (ltb j customers)
    where
      go : (t : Bool) → fed_to k (cond t (customer j) nobody) ≡ true → is_owner k (cond t (customer j) nobody) ≡ true
      go true e = e
      go false e = e

  abbrev told : Change → Bool
  told e = counts_answer c (answer_of (applied w e))

  own-counted : (e : Change) → fed_to k (owner_named customers (named e).0) ≡ true → is_owner k (owner_named customers (named e).0) && told e ≡ told e
  own-counted (set_clock t) fed = refl
  own-counted (set_session s) fed = refl
  own-counted (set_security s f) fed = refl
  own-counted (enter_order j x) fed = rw (own j fed)
  own-counted (set_rows j f) fed = rw (own j fed)

  fed-counted : (b : List ℕ) → is_fed customers k b ≡ true → belongs_to customers k b && counts_answer c (event_answer w b) ≡ counts_answer c (event_answer w b)
  unfolding is_fed belongs_to owner_of outcome perform
  fed-counted b = go (eqb (first_met (bytes_conditions b)) 0) (eqb (first_met (conditions w b)) 0)
    where
      e : Event
      e = event_in b

      owner : Bool → Owner
      owner t = cond t (owner_named customers (customer_named e)) nobody

      given : Bool → Bool
      given u = counts_answer c (answer_of (cond u (perform w e) (refused (first_met (conditions w b)))))

      go : (t u : Bool) → fed_to k (owner t) ≡ true → is_owner k (owner t) && given u ≡ given u
      go true true fed = own-counted (change_of e) fed
      go true false fed = and-false (is_owner k (owner true))
      go false u fed = absurd (false≢true fed)

  other-uncounted : (b : List ℕ) → is_fed customers k b ≡ false → belongs_to customers k b ≡ false
  unfolding is_fed belongs_to
  other-uncounted b = go (owner_of customers b)
    where
      go : (o : Owner) → fed_to k o ≡ false → is_owner k o ≡ false
      go market e = refl
      go (customer j) e = e
      go nobody e = refl

module _ (c : Counter) {customers securities : ℕ} (k : ℕ) (below : k < customers) where
  counts-event : (w : List ℕ) → Good customers securities w → (b : List ℕ)
      → counter_in c (desk_at (event_words w b) k) ≡ raised (belongs_to customers k b && counts_answer c (event_answer w b)) (counter_in c (desk_at w k))
  counts-event w good b = go (is_fed customers k b) refl
    where
      n : ℕ
      n = counter_in c (desk_at w k)

      given : Bool
      given = counts_answer c (event_answer w b)

      go : (t : Bool) → is_fed customers k b ≡ t → counter_in c (desk_at (event_words w b) k) ≡ raised (belongs_to customers k b && given) n
      go true fed =
          let same = same-event w good k below b fed in
          ap (λ (x : Answer × Lone). counter_in c x.1.desk) (sym same)
          ∙ counts-outcome c (lone_of w k) b
          ∙ ap (λ (x : Answer × Lone). raised (counts_answer c x.0) n) same
          ∙ ap (λ (t : Bool). raised t n) (sym (fed-counted c customers k w b fed))
      go false other =
          ap (λ (l : Lone). counter_in c l.desk) (other-event w good k below b other)
          ∙ ap (λ (t : Bool). raised (t && given) n) (sym (other-uncounted c customers k w b other))

  -- a counter that stood at n orders stands at n and those that the history adds
  counts-history : (n : ℕ) (w : List ℕ) → Good customers securities w → counter_in c (desk_at w k) ≡ up_to_max n → (history : List (List ℕ))
      → counter_in c (desk_at (words_after w history) k) ≡ up_to_max (n + count (counts_answer c) (answers_to (belongs_to customers k) w history))
  unfolding words_after answers_to
  counts-history n w good e [] =
      let same : n ≡ n + count (counts_answer c) [] = omega (arith, count_none (counts_answer c)) in
      e ∙ ap up_to_max same
  counts-history n w good e (b ∷ bs) =
      counts-history (n + bit now) (event_words w b) (keeps w good b) (counts-event w good b ∙ ap (raised now) e ∙ raised-up now n) bs
      ∙ ap up_to_max (go (belongs_to customers k b))
    where
      a : Answer
      a = event_answer w b

      now : Bool
      now = belongs_to customers k b && counts_answer c a

      later : List Answer
      later = answers_to (belongs_to customers k) (event_words w b) bs

      go : (t : Bool) → n + bit (t && counts_answer c a) + count (counts_answer c) later ≡ n + count (counts_answer c) (cond t (a ∷ later) later)
      go true = omega (arith, count-cons (counts_answer c) a later)
      go false = omega arith

  pub counts-fresh : (w : List ℕ) → Good customers securities w → desk_at w k ≡ fresh_desk → (history : List (List ℕ))
      → counter_in c (desk_at (words_after w history) k) ≡ up_to_max (count (counts_answer c) (answers_to (belongs_to customers k) w history))
  counts-fresh w good e history = counts-history 0 w good (ap (counter_in c) e ∙ by-counter (λ (x : Counter). counter_in x fresh_desk ≡ 0) refl refl refl c) history ∙ rw zero-add

-- Request 7 of paper 02 as theorems, a sentence each, over `call_answer` and `lent_after`, which the code's contracts name (crates/auction_current).
-- `Fits`, `AsksBad` and `Beyond` say in numbers when each refusal is given, and `Accepted` that none is: CurrentCalls. What request 6's answer and scratch list are: VolumePromises.
-- Assumes nothing.
use mathlib.Core.List.{List, [], ◌∷◌, ◌++◌, append-nil}
use mathlib.Core.Logic.{◌↔◌, ◌⊎◌}
use mathlib.Core.Path.{◌≡◌, refl, sym, ◌∙◌, ap}
use Prim.Native.Nat.{ℕ, ◌+◌, ◌-◌, ◌≤◌, ◌<◌}
use lib.Dec.{leb}
use lib.ListN.{length, get_or, take, drop, replicate, length-append, length-take, get_or-replicate, drop_of_length-le, get_or-append}
use lib.Seq.{get_or-append-add, get_or_at, get_or-drop, get_or-take, take_at}
use borrow.Author.Tests.{le-leb, lt-leb, ne_eqb}
use native.Mathlib.Omega.{arith}
use Rattle.definitions.specs.Lists.{any}
use Rattle.auction_definitions.specs.declared.AuctionOrder.{AuctionOrder}
use Rattle.auction_definitions.specs.Answers.{AuctionAnswer, Refused}
use Rattle.auction_definitions.specs.Auction.{auction, bad_order, max_orders}
use Rattle.auction_definitions.specs.Volumes.{auction_in_one, volumes_after}
use Rattle.auction_definitions.specs.Current.{Add, Call, Lent, Take, call_answer, call_refusal, changed, held, lent_after, lent_of, list_of, zero_order}
use Rattle.auction_definitions.proofs.Promises.{refusal_of}
use Rattle.auction_definitions.proofs.VolumePromises as six
use Rattle.auction_definitions.proofs.CurrentCalls.{Accepted, AsksBad, Beyond, Fits, any-scratch, by_length, good-says, held_of, list-places, same-made, accepted-counted, accepted-fits, accepted-tests, added-count, asked-says, beyond-says, changed-places, counted, either_way, first-0, first-14, first-15, first-16, first_any, fits-says, held-read, is_bad, is_beyond, is_fit, place-held, priced, says-not, scratch-fits, taken-count, tests-accepted}

module _ (c : Call) (l : Lent) where
  -- a call not refused leaves this
  pub left : Accepted c l → lent_after c l ≡ lent_of (length l.orders) (changed c (held l)) l.volumes
  unfolding lent_after
  left e = rw e

  -- the orders held are the changed ones: "one adds an order at the end, one takes out the order at a given place and closes the gap"
  pub held_after : Accepted c l → held (lent_after c l) ≡ changed c (held l)
  held_after e = rw (left e) (held_of (length l.orders) (changed c (held l)) l.volumes)

  -- an order held afterwards stands at its own place
  listed : Accepted c l → (i : ℕ) (d : AuctionOrder) → i < length (changed c (held l)) → get_or (lent_after c l).orders i d ≡ get_or (changed c (held l)) i d
  unfolding lent_of list_of
  listed e i d small =
      ap (λ (m : Lent). get_or m.orders i d) (left e) ∙ get_or-append (changed c (held l)) (replicate (length l.orders - length (changed c (held l))) zero_order) d i small

-- "one adds an order at the end": the count is one more, the orders held before stand where they stood, and the new one stands behind them
module _ (o : AuctionOrder) (l : Lent) (e : Accepted (Add o) l) where
  pub one_more : (lent_after (Add o) l).count ≡ l.count + 1
  unfolding lent_of
  one_more = ap (λ (m : Lent). m.count) (left (Add o) l e) ∙ added-count o l e

  pub old-stay : (i : ℕ) (d : AuctionOrder) → i < l.count → get_or (lent_after (Add o) l).orders i d ≡ get_or l.orders i d
  unfolding changed
  old-stay i d small =
      let here : i < length (held l) = omega (arith, accepted-counted (Add o) l e) in
      listed (Add o) l e i d (omega (arith, added-count o l e))
      ∙ get_or-append (held l) (o ∷ []) d i here
      ∙ held-read l (counted (Add o) l (accepted-fits (Add o) l e)) i d small

  pub new-last : (d : AuctionOrder) → get_or (lent_after (Add o) l).orders l.count d ≡ o
  unfolding changed
  new-last d =
      listed (Add o) l e l.count d (omega (arith, added-count o l e))
      ∙ get_or_at (held l) o [] d l.count (accepted-counted (Add o) l e)

-- "one takes out the order at a given place and closes the gap": the count is one less, the orders before the place stand where they stood, and each one behind it stands one place further to the front
module _ (place : ℕ) (l : Lent) (e : Accepted (Take place) l) where
  pub one_less : (lent_after (Take place) l).count + 1 ≡ l.count
  unfolding lent_of
  one_less = ap (λ (m : Lent). m.count + 1) (left (Take place) l e) ∙ taken-count place l e

  pub front-stays : (i : ℕ) (d : AuctionOrder) → i < place → get_or (lent_after (Take place) l).orders i d ≡ get_or l.orders i d
  unfolding changed
  front-stays i d small =
      let here : i < length (take place (held l)) = omega (arith, length-take place (held l), accepted-counted (Take place) l e, place-held place l e) in
      listed (Take place) l e i d (omega (arith, taken-count place l e, place-held place l e))
      ∙ get_or-append (take place (held l)) (drop (place + 1) (held l)) d i here
      ∙ get_or-take place (held l) i d small
      ∙ held-read l (counted (Take place) l (accepted-fits (Take place) l e)) i d (omega (arith, place-held place l e))

  pub gap-closed : (i : ℕ) (d : AuctionOrder) → place ≤ i → i + 1 < l.count → get_or (lent_after (Take place) l).orders i d ≡ get_or l.orders (i + 1) d
  unfolding changed
  gap-closed i d past small =
      let front : length (take place (held l)) ≡ place = omega (arith, length-take place (held l), accepted-counted (Take place) l e, place-held place l e) in
      let at : i ≡ length (take place (held l)) + (i - place) = omega arith in
      listed (Take place) l e i d (omega (arith, taken-count place l e))
      ∙ ap (λ (j : ℕ). get_or (take place (held l) ++ drop (place + 1) (held l)) j d) at
      ∙ get_or-append-add (take place (held l)) (drop (place + 1) (held l)) (i - place) d
      ∙ get_or-drop (place + 1) (held l) (i - place) d
      ∙ ap (λ (j : ℕ). get_or (held l) j d) (omega arith)
      ∙ held-read l (counted (Take place) l (accepted-fits (Take place) l e)) (i + 1) d small

module _ (c : Call) (l : Lent) where
  -- "After each call not refused, answer and scratch are request 6's, worked out afresh from the list": the answer is request 6's for the orders held, whatever scratch list is lent for it,
  pub answer-afresh : Accepted c l → (reference : ℕ) (volumes : List ℕ) → 1_024 ≤ length volumes
      → call_answer c reference l ≡ auction_in_one (held (lent_after c l)) reference volumes
  unfolding call_answer
  answer-afresh e reference volumes long =
      rw (e, held_after c l e) (any-scratch (changed c (held l)) reference l.volumes volumes (le-leb max_orders (length l.volumes) (scratch-fits c l e) ∙ sym (le-leb max_orders (length volumes) long)))

  -- and the scratch list is as request 6 leaves it
  pub scratch-afresh : Accepted c l → (lent_after c l).volumes ≡ volumes_after (held (lent_after c l)) l.volumes
  unfolding lent_of
  scratch-afresh e = ap (λ (m : Lent). m.volumes) (left c l e) ∙ rw (held_after c l e, priced c l l.volumes e (scratch-fits c l e))

  -- "The list is lent with its count": it counts the orders held
  pub count_held : Accepted c l → (lent_after c l).count ≡ length (held (lent_after c l))
  unfolding lent_of
  count_held e = ap (λ (m : Lent). m.count) (left c l e) ∙ ap length (sym (held_after c l e))

  -- "and places past the count are zero afterwards"
  pub zero-past-count : Accepted c l → (i : ℕ) (d : AuctionOrder) → (lent_after c l).count ≤ i → i < length l.orders → get_or (lent_after c l).orders i d ≡ record { side = 0; price = 0; volume = 0 }
  unfolding lent_of list_of
  zero-past-count e i d past small =
      let orders : List AuctionOrder = changed c (held l) in
      let before : length orders ≤ i = omega (arith, past, ap (λ (m : Lent). m.count) (left c l e)) in
      let at : i ≡ length orders + (i - length orders) = omega arith in
      ap (λ (m : Lent). get_or m.orders i d) (left c l e)
      ∙ ap (λ (j : ℕ). get_or (list_of (length l.orders) orders) j d) at
      ∙ get_or-append-add orders (replicate (length l.orders - length orders) zero_order) (i - length orders) d
      ∙ get_or-replicate (length l.orders - length orders) (i - length orders) zero_order d (omega arith)

  -- "Adding where the count is the list's length or 1,024, either call with a count above one of these, or a short scratch list gives 14,
  pub gives-14 : (call_refusal c l ≡ 14) ↔ (Fits c l → ⊥)
  unfolding call_refusal
  gives-14 =
      let says = says-not (is_fit c l) (fits-says c l) in
      let found = first-14 (is_fit c l) (is_bad c l) (is_beyond c l) in
      (λ e. says.0 (found.0 e), λ none. found.1 (says.1 none))

  -- and a bad order, new or held, 15"
  pub gives-15 : (call_refusal c l ≡ 15) ↔ (Fits c l × AsksBad c l)
  unfolding call_refusal
  gives-15 =
      let found = first-15 (is_fit c l) (is_bad c l) (is_beyond c l) in (
        λ e. let fit = (fits-says c l).0 (found.0 e).0 in (fit, (asked-says c l fit).0 (found.0 e).1),
        λ its. found.1 ((fits-says c l).1 its.0, (asked-says c l its.0).1 its.1),
      )

  -- "a refusal leaves list, count and scratch equal"
  pub refused-equal : (Accepted c l → ⊥) → lent_after c l ≡ l
  unfolding lent_after
  refused-equal some = rw (ne_eqb (call_refusal c l) 0 some)

  -- list and scratch list are as long as they were, whether the call is refused or not
  pub list-as-long : length (lent_after c l).orders ≡ length l.orders
  unfolding lent_of
  list-as-long =
      either_way c l
      (λ e. ap (λ (m : Lent). length m.orders) (left c l e) ∙ list-places (length l.orders) (changed c (held l)) (changed-places c l e))
      (λ some. ap (λ (m : Lent). length m.orders) (refused-equal some))

  pub scratch-as-long : length (lent_after c l).volumes ≡ length l.volumes
  scratch-as-long =
      either_way c l (λ e. ap length (scratch-afresh e) ∙ six.as_long (held (lent_after c l)) l.volumes) (λ some. ap (λ (m : Lent). length m.volumes) (refused-equal some))

  -- "Turned away: 16, last, if the place is at or beyond the count"
  pub gives-16 : (call_refusal c l ≡ 16) ↔ (Fits c l × (AsksBad c l → ⊥) × Beyond c l)
  unfolding call_refusal
  gives-16 =
      let found = first-16 (is_fit c l) (is_bad c l) (is_beyond c l) in (
        λ e. let fit = (fits-says c l).0 (found.0 e).0 in (fit, (good-says c l fit).0 (found.0 e).1, (beyond-says c l).0 (found.0 e).2),
        λ its. found.1 ((fits-says c l).1 its.0, (good-says c l its.0).1 its.1, (beyond-says c l).1 its.2),
      )

  -- a call is not refused exactly where none of these is met,
  pub not-refused : Accepted c l ↔ (Fits c l × (AsksBad c l → ⊥) × (Beyond c l → ⊥))
  unfolding call_refusal
  not-refused =
      let found = first-0 (is_fit c l) (is_bad c l) (is_beyond c l) in
      let past = says-not (is_beyond c l) (beyond-says c l) in (
        λ e. let fit = (fits-says c l).0 (found.0 e).0 in (fit, (good-says c l fit).0 (found.0 e).1, past.0 (found.0 e).2),
        λ its. found.1 ((fits-says c l).1 its.0, (good-says c l its.0).1 its.1, past.1 its.2),
      )

  -- and it is given no other number
  pub no-other-number : Accepted c l ⊎ (call_refusal c l ≡ 14) ⊎ (call_refusal c l ≡ 15) ⊎ (call_refusal c l ≡ 16)
  unfolding call_refusal
  no-other-number = first_any (is_fit c l) (is_bad c l) (is_beyond c l)

  -- an answer is a refusal exactly where the call is refused, with the number of the condition found first
  pub refused-with : (reference n : ℕ) → (call_answer c reference l ≡ Refused n) ↔ ((call_refusal c l ≡ n) × (n ≡ 0 → ⊥))
  unfolding call_answer auction_in_one
  refused-with reference n = (
    either_way c l
        (λ e f. let its = refusal_of (changed c (held l)) reference l.volumes l.volumes (sym (answered e) ∙ f) in absurd (its.1 (sym its.0 ∙ priced c l l.volumes e (scratch-fits c l e))))
        (λ some f. let same = number (sym (turned some) ∙ f) in (same, λ z. some (same ∙ z))),
    λ its. rw (its.0, ne_eqb n 0 its.1),
  )
    where
      answered : Accepted c l → call_answer c reference l ≡ auction (changed c (held l)) reference l.volumes l.volumes
      answered e = rw e

      turned : (Accepted c l → ⊥) → call_answer c reference l ≡ Refused (call_refusal c l)
      turned some = rw (ne_eqb (call_refusal c l) 0 some)

      number : {m : ℕ} → ◌≡◌ {A = AuctionAnswer} (Refused m) (Refused n) → m ≡ n
      number e = cc

  -- so a call not refused is answered, and only such a call
  pub answered : (reference : ℕ) → Accepted c l ↔ ((n : ℕ) → call_answer c reference l ≡ Refused n → ⊥)
  answered reference = (
    λ e n f. let its = (refused-with reference n).0 f in its.1 (sym its.0 ∙ e),
    λ none. either_way c l (λ e. e) (λ some. absurd (none (call_refusal c l) ((refused-with reference (call_refusal c l)).1 (refl, some)))),
  )

-- adding has no place, and is never given 16
pub never-16 : (o : AuctionOrder) (l : Lent) → call_refusal (Add o) l ≡ 16 → ⊥
never-16 o l e = ((gives-16 (Add o) l).0 e).2

-- what stands past the count is not asked, and of the scratch list only how long it is
pub record Alike (l m : Lent) : Type 0 where
  pub orders : held l ≡ held m
  pub count : l.count ≡ m.count
  pub places : length l.orders ≡ length m.orders
  pub scratch : length l.volumes ≡ length m.volumes

module _ (c : Call) (l m : Lent) (same : Alike l m) where
  same-refusal : call_refusal c l ≡ call_refusal c m
  unfolding call_refusal
  same-refusal = rw (same.orders, same.count, same.places, same.scratch)

  pub same_answer : (reference : ℕ) → call_answer c reference l ≡ call_answer c reference m
  unfolding call_answer
  same_answer reference =
      rw (same-refusal, same.orders, any-scratch (changed c (held m)) reference l.volumes m.volumes (ap (leb max_orders) same.scratch))

  pub same_left : Accepted c l → lent_after c l ≡ lent_after c m
  unfolding lent_of
  same_left e =
      left c l e ∙ rw (same.orders, same.places, by_length (changed c (held m)) l.volumes m.volumes same.scratch) (sym (left c m (sym same-refusal ∙ e)))

-- an order added and taken out again
module _ (o : AuctionOrder) (l : Lent) (e : Accepted (Add o) l) where
  abbrev added : Lent
  added = lent_after (Add o) l

  -- the call that takes it out is not refused,
  pub taken-again : Accepted (Take l.count) added
  unfolding changed
  taken-again =
      tests-accepted (Take l.count) added
      ((fits-says (Take l.count) added).1
      (omega (arith, fit.0, one_more o l e, list-as-long (Add o) l), omega (arith, fit.1, one_more o l e), omega (arith, fit.2, scratch-as-long (Add o) l)))
      (ap (any bad_order) (held_after (Add o) l e) ∙ (accepted-tests (Add o) l e).1) (lt-leb added.count l.count (omega (arith, one_more o l e)))
    where
      fit : Fits (Add o) l
      fit = accepted-fits (Add o) l e

  -- and the orders held are those held before
  held-again : changed (Take l.count) (held added) ≡ held l
  unfolding changed
  held-again =
      let size = accepted-counted (Add o) l e in
      rw (held_after (Add o) l e, take_at (held l) (o ∷ []) l.count size, drop_of_length-le (held l ++ o ∷ []) {i = l.count + 1} (omega (arith, size, length-append (held l) (o ∷ [])))) (append-nil (held l))

-- from what a call left, adding an order and taking it out again leaves list, count and scratch list as they were, and the answer
module _ (c : Call) (l : Lent) (o : AuctionOrder) (e : Accepted c l) (f : Accepted (Add o) (lent_after c l)) where
  abbrev call : Call
  call = Take (lent_after c l).count

  abbrev between : Lent
  between = lent_after (Add o) (lent_after c l)

  pub left-again : lent_after call between ≡ lent_after c l
  left-again =
      left call between (taken-again o (lent_after c l) f)
      ∙ ap (λ (os : List AuctionOrder). lent_of (length between.orders) os between.volumes) (held-again o (lent_after c l) f ∙ held_after c l e)
      ∙ same-made (changed c (held l)) between.volumes l.volumes (list-as-long (Add o) (lent_after c l) ∙ list-as-long c l) (scratch-as-long (Add o) (lent_after c l) ∙ scratch-as-long c l)
      ∙ sym (left c l e)

  pub answered-again : (reference : ℕ) → call_answer call reference between ≡ call_answer c reference l
  answered-again reference =
      answer-afresh call between (taken-again o (lent_after c l) f) reference l.volumes (scratch-fits c l e)
      ∙ ap (λ (m : Lent). auction_in_one (held m) reference l.volumes) left-again
      ∙ sym (answer-afresh c l e reference l.volumes (scratch-fits c l e))

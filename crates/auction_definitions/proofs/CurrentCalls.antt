-- Request 7's tests as statements about the numbers and the orders lent, and what holds of a call that is not refused.
-- Assumes nothing.
use mathlib.Core.Bool.{Bool, true, false, not, ◌&&◌, ◌||◌, and_self, or-false}
use mathlib.Core.List.{List, [], ◌∷◌}
use mathlib.Core.Logic.{◌↔◌, ◌⊎◌, inl, inr, ⊎_elim}
use mathlib.Core.Path.{◌≡◌, refl, sym, ◌∙◌, ap}
use Prim.Native.Nat.{ℕ, zero, suc, ◌+◌, ◌-◌, ◌≤◌, ◌<◌}
use lib.Dec.{leb, ltb, eqb}
use lib.ListN.{length, get_or, take, drop, replicate, length-append, length-take, length-drop, length-replicate}
use lib.Seq.{get_or-take, split_at, take-append_seam}
use borrow.Author.Tests.{eqb-true, eqb-false, leb-true, ltb-true, le-leb, lt-ltb, leb-false}
use native.Mathlib.Nat.{not-suc-le-zero, le_of_suc-le-suc}
use native.Mathlib.Numerals.{add-one}
use native.Mathlib.Omega.{arith}
use Rattle.definitions.specs.Lists.{any, first_met}
use Rattle.definitions.proofs.Tests.{and_parts, and-whole, never, or_cases, or-first, or-second, or_parts}
use Rattle.definitions.proofs.Rows.{any_append}
use Rattle.auction_definitions.specs.declared.AuctionOrder.{AuctionOrder}
use Rattle.auction_definitions.specs.Auction.{bad_order, max_orders, refusal}
use Rattle.auction_definitions.specs.Volumes.{auction_in_one, volumes_in}
use Rattle.auction_definitions.specs.Current.{Add, Call, Lent, Take, asked, beyond, call_refusal, changed, fits, held, lent_of, list_of, zero_order}
use Rattle.auction_definitions.proofs.VolumePromises.{given-before}

-- a call fits: "Adding where the count is the list's length or 1,024, either call with a count above one of these, or a short scratch list" is where it does not
abbrev pub Fits : Call → Lent → Type 0
Fits (Add o) l = (l.count < length l.orders) × (l.count < 1_024) × (1_024 ≤ length l.volumes)
Fits (Take place) l = (l.count ≤ length l.orders) × (l.count ≤ 1_024) × (1_024 ≤ length l.volumes)

-- "a bad order, .. held"
abbrev pub HoldsBad : Lent → Type 0
HoldsBad l = (i : ℕ) × (i < l.count) × (bad_order (get_or l.orders i zero_order) ≡ true)

-- "a bad order, new or held"
abbrev pub AsksBad : Call → Lent → Type 0
AsksBad (Add o) l = (bad_order o ≡ true) ⊎ HoldsBad l
AsksBad (Take place) l = HoldsBad l

-- "if the place is at or beyond the count"
abbrev pub Beyond : Call → Lent → Type 0
Beyond (Add o) l = ⊥
Beyond (Take place) l = l.count ≤ place

-- a test that says whether something holds says whether it does not
pub says-not : {A : Type 0} (t : Bool) → ((t ≡ true) ↔ A) → ((t ≡ false) ↔ (A → ⊥))
says-not true says = (λ e. never refl e, λ none. absurd (none (says.0 refl)))
says-not false says = (λ e a. never (says.1 a) e, λ none. refl)

three-parts : (a b c : Bool) {A B C : Type 0} → ((a ≡ true) ↔ A) → ((b ≡ true) ↔ B) → ((c ≡ true) ↔ C) → (((a && b && c) ≡ true) ↔ (A × B × C))
three-parts a b c f g h = (
  λ e. let parts = and_parts (a && b) c e in let both = and_parts a b parts.0 in (f.0 both.0, g.0 both.1, h.0 parts.1),
  λ its. and-whole (and-whole (f.1 its.0) (g.1 its.1)) (h.1 its.2),
)

at_most : (a b : ℕ) → (leb a b ≡ true) ↔ (a ≤ b)
at_most a b = (leb-true a b, le-leb a b)

below : (a b : ℕ) → (ltb a b ≡ true) ↔ (a < b)
below a b = (ltb-true a b, lt-ltb a b)

pub fits-says : (c : Call) (l : Lent) → (fits c l.count (length l.orders) (length l.volumes) ≡ true) ↔ Fits c l
fits-says (Add o) l =
    three-parts (ltb l.count (length l.orders)) (ltb l.count max_orders) (leb max_orders (length l.volumes))
    (below l.count (length l.orders)) (below l.count max_orders) (at_most max_orders (length l.volumes))
fits-says (Take place) l =
    three-parts (leb l.count (length l.orders)) (leb l.count max_orders) (leb max_orders (length l.volumes))
    (at_most l.count (length l.orders)) (at_most l.count max_orders) (at_most max_orders (length l.volumes))

pub beyond-says : (c : Call) (l : Lent) → (beyond c l.count ≡ true) ↔ Beyond c l
beyond-says (Add o) l = (λ e. never e refl, λ none. absurd none)
beyond-says (Take place) l = at_most l.count place

-- a call that fits counts no more places than there are
pub counted : (c : Call) (l : Lent) → Fits c l → l.count ≤ length l.orders
counted (Add o) l fit = omega (arith, fit.0)
counted (Take place) l fit = fit.0

-- any order has it: the one at some place does
abbrev Somewhere : (AuctionOrder → Bool) → List AuctionOrder → Type 0
Somewhere t os = (i : ℕ) × (i < length os) × (t (get_or os i zero_order) ≡ true)

some-place : (t : AuctionOrder → Bool) (os : List AuctionOrder) → any t os ≡ true → Somewhere t os
unfolding any
some-place t [] e = never e refl
some-place t (o ∷ os) e =
    ⊎_elim (λ here. (zero, omega arith, here)) (λ there. let its = some-place t os there in (suc its.0, omega (arith, its.1), its.2)) (or_cases (t o) (any t os) e)

place-some : (t : AuctionOrder → Bool) (os : List AuctionOrder) (i : ℕ) → i < length os → t (get_or os i zero_order) ≡ true → any t os ≡ true
unfolding any
place-some t [] i small e = absurd (not-suc-le-zero small)
place-some t (o ∷ os) zero small e = or-first (any t os) e
place-some t (o ∷ os) (suc i) small e = or-second (t o) (place-some t os i (le_of_suc-le-suc small) e)

-- the orders held are read at the list's own places
module _ (l : Lent) (fit : l.count ≤ length l.orders) where
  pub held-count : length (held l) ≡ l.count
  unfolding held
  held-count = omega (arith, length-take l.count l.orders)

  pub held-read : (i : ℕ) (d : AuctionOrder) → i < l.count → get_or (held l) i d ≡ get_or l.orders i d
  unfolding held
  held-read i d small = get_or-take l.count l.orders i d small

  pub held-bad : (any bad_order (held l) ≡ true) ↔ HoldsBad l
  held-bad = (
    λ e. let its = some-place bad_order (held l) e in
        let small : its.0 < l.count = omega (arith, its.1, held-count) in
        (its.0, small, ap bad_order (sym (held-read its.0 zero_order small)) ∙ its.2),
    λ its. place-some bad_order (held l) its.0 (omega (arith, its.1, held-count)) (ap bad_order (held-read its.0 zero_order its.1) ∙ its.2),
  )

asked-new : (o : AuctionOrder) (l : Lent) → any bad_order (asked (Add o) (held l)) ≡ any bad_order (held l) || bad_order o
unfolding any
asked-new o l = any_append bad_order (held l) (o ∷ []) ∙ ap (λ (t : Bool). any bad_order (held l) || t) (or-false (bad_order o))

pub asked-says : (c : Call) (l : Lent) → Fits c l → (any bad_order (asked c (held l)) ≡ true) ↔ AsksBad c l
asked-says (Add o) l fit = (
  λ e. ⊎_elim (λ old. inr ((held-bad l (counted (Add o) l fit)).0 old)) (λ new. inl new) (or_cases (any bad_order (held l)) (bad_order o) (sym (asked-new o l) ∙ e)),
  λ its. asked-new o l ∙ ⊎_elim (λ new. or-second (any bad_order (held l)) new) (λ old. or-first (bad_order o) ((held-bad l (counted (Add o) l fit)).1 old)) its,
)
asked-says (Take place) l fit = held-bad l (counted (Take place) l fit)

pub good-says : (c : Call) (l : Lent) → Fits c l → (any bad_order (asked c (held l)) ≡ false) ↔ (AsksBad c l → ⊥)
good-says c l fit = says-not (any bad_order (asked c (held l))) (asked-says c l fit)

-- the number found first, of three tests
abbrev pub first : Bool → Bool → Bool → ℕ
first fit bad past = first_met ((14, not fit) ∷ (15, bad) ∷ (16, past) ∷ [])

pub first-0 : (fit bad past : Bool) → (first fit bad past ≡ 0) ↔ ((fit ≡ true) × (bad ≡ false) × (past ≡ false))
unfolding first_met
first-0 true true past = (λ e. absurd (omega (arith, e)), λ its. never refl its.1)
first-0 true false true = (λ e. absurd (omega (arith, e)), λ its. never refl its.2)
first-0 true false false = (λ e. (refl, refl, refl), λ its. refl)
first-0 false bad past = (λ e. absurd (omega (arith, e)), λ its. never its.0 refl)

pub first-14 : (fit bad past : Bool) → (first fit bad past ≡ 14) ↔ (fit ≡ false)
unfolding first_met
first-14 true true past = (λ e. absurd (omega (arith, e)), λ none. never refl none)
first-14 true false true = (λ e. absurd (omega (arith, e)), λ none. never refl none)
first-14 true false false = (λ e. absurd (omega (arith, e)), λ none. never refl none)
first-14 false bad past = (λ e. refl, λ none. refl)

pub first-15 : (fit bad past : Bool) → (first fit bad past ≡ 15) ↔ ((fit ≡ true) × (bad ≡ true))
unfolding first_met
first-15 true true past = (λ e. (refl, refl), λ its. refl)
first-15 true false true = (λ e. absurd (omega (arith, e)), λ its. never its.1 refl)
first-15 true false false = (λ e. absurd (omega (arith, e)), λ its. never its.1 refl)
first-15 false bad past = (λ e. absurd (omega (arith, e)), λ its. never its.0 refl)

pub first-16 : (fit bad past : Bool) → (first fit bad past ≡ 16) ↔ ((fit ≡ true) × (bad ≡ false) × (past ≡ true))
unfolding first_met
first-16 true true past = (λ e. absurd (omega (arith, e)), λ its. never refl its.1)
first-16 true false true = (λ e. (refl, refl, refl), λ its. refl)
first-16 true false false = (λ e. absurd (omega (arith, e)), λ its. never its.2 refl)
first-16 false bad past = (λ e. absurd (omega (arith, e)), λ its. never its.0 refl)

pub first_any : (fit bad past : Bool) → (first fit bad past ≡ 0) ⊎ (first fit bad past ≡ 14) ⊎ (first fit bad past ≡ 15) ⊎ (first fit bad past ≡ 16)
unfolding first_met
first_any true true past = inr (inr (inl refl))
first_any true false true = inr (inr (inr refl))
first_any true false false = inl refl
first_any false bad past = inr (inl refl)

module _ (c : Call) (l : Lent) where
  -- the three tests of a call
  abbrev pub is_fit : Bool
  is_fit = fits c l.count (length l.orders) (length l.volumes)

  abbrev pub is_bad : Bool
  is_bad = any bad_order (asked c (held l))

  abbrev pub is_beyond : Bool
  is_beyond = beyond c l.count

  -- "not refused"
  abbrev pub Accepted : Type 0
  Accepted = call_refusal c l ≡ 0

  -- a call is refused or it is not
  pub either_way : {A : Type 0} → (Accepted → A) → ((Accepted → ⊥) → A) → A
  either_way {A} done turned = go (eqb (call_refusal c l) 0) refl
    where
      go : (t : Bool) → eqb (call_refusal c l) 0 ≡ t → A
      go true e = done (eqb-true (call_refusal c l) 0 e)
      go false e = turned (eqb-false (call_refusal c l) 0 e)

  pub accepted-tests : Accepted → (is_fit ≡ true) × (is_bad ≡ false) × (is_beyond ≡ false)
  unfolding call_refusal
  accepted-tests e = (first-0 is_fit is_bad is_beyond).0 e

  pub tests-accepted : is_fit ≡ true → is_bad ≡ false → is_beyond ≡ false → Accepted
  unfolding call_refusal
  tests-accepted fit good before = (first-0 is_fit is_bad is_beyond).1 (fit, good, before)

  pub accepted-fits : Accepted → Fits c l
  accepted-fits e = (fits-says c l).0 (accepted-tests e).0

  pub accepted-counted : Accepted → length (held l) ≡ l.count
  accepted-counted e = held-count l (counted c l (accepted-fits e))

-- "at the end": one order more
pub added-count : (o : AuctionOrder) (l : Lent) → Accepted (Add o) l → length (changed (Add o) (held l)) ≡ l.count + 1
unfolding changed
added-count o l e = omega (arith, length-append (held l) (o ∷ []), accepted-counted (Add o) l e)

-- a place below the count, where an order is taken out
pub place-held : (place : ℕ) (l : Lent) → Accepted (Take place) l → place < l.count
place-held place l e = leb-false l.count place (accepted-tests (Take place) l e).2

-- "closes the gap": one order less
pub taken-count : (place : ℕ) (l : Lent) → Accepted (Take place) l → length (changed (Take place) (held l)) + 1 ≡ l.count
unfolding changed
taken-count place l e =
    omega (arith, length-append (take place (held l)) (drop (place + 1) (held l)), length-take place (held l), length-drop (place + 1) (held l), accepted-counted (Take place) l e, place-held place l e)

-- no order is bad where none was asked, and there are no more of them than places and 1,024
pub changed-good : (c : Call) (l : Lent) → Accepted c l → any bad_order (changed c (held l)) ≡ false
unfolding changed any
changed-good (Add o) l e = (accepted-tests (Add o) l e).1
changed-good (Take place) l e =
    let small : place < length (held l) = omega (arith, place-held place l e, accepted-counted (Take place) l e) in
    let parts = or_parts (any bad_order (take place (held l))) (bad_order (get_or (held l) place zero_order) || any bad_order (drop (suc place) (held l)))
    (sym (any_append bad_order (take place (held l)) (get_or (held l) place zero_order ∷ drop (suc place) (held l))) ∙ ap (any bad_order) (sym (split_at (held l) place zero_order small)) ∙ (accepted-tests (Take place) l e).1) in
    rw (add-one place, any_append bad_order (take place (held l)) (drop (suc place) (held l)), parts.0) (or_parts (bad_order (get_or (held l) place zero_order)) (any bad_order (drop (suc place) (held l))) parts.1).1

pub changed-places : (c : Call) (l : Lent) → Accepted c l → length (changed c (held l)) ≤ length l.orders
changed-places (Add o) l e = omega (arith, added-count o l e, (accepted-fits (Add o) l e).0)
changed-places (Take place) l e = omega (arith, taken-count place l e, (accepted-fits (Take place) l e).0)

pub changed-most : (c : Call) (l : Lent) → Accepted c l → length (changed c (held l)) ≤ 1_024
changed-most (Add o) l e = omega (arith, added-count o l e, (accepted-fits (Add o) l e).1)
changed-most (Take place) l e = omega (arith, taken-count place l e, (accepted-fits (Take place) l e).1)

pub scratch-fits : (c : Call) (l : Lent) → Accepted c l → 1_024 ≤ length l.volumes
scratch-fits (Add o) l e = (accepted-fits (Add o) l e).2
scratch-fits (Take place) l e = (accepted-fits (Take place) l e).2

-- request 6 does not refuse the orders that a call leaves
pub priced : (c : Call) (l : Lent) (volumes : List ℕ) → Accepted c l → 1_024 ≤ length volumes → refusal (changed c (held l)) volumes volumes ≡ 0
unfolding refusal first_met
priced c l volumes e long = rw (le-leb (length (changed c (held l))) max_orders (changed-most c l e), le-leb max_orders (length volumes) long, changed-good c l e)

-- the answer depends on the scratch list only by whether it is long enough
pub any-scratch : (orders : List AuctionOrder) (reference : ℕ) (volumes others : List ℕ) → leb max_orders (length volumes) ≡ leb max_orders (length others)
    → auction_in_one orders reference volumes ≡ auction_in_one orders reference others
unfolding auction_in_one
any-scratch orders reference volumes others e = given-before orders reference volumes others others (e ∙ sym (and_self (leb max_orders (length others))))

-- and what it holds afterwards only by how long it is
pub by_length : (orders : List AuctionOrder) (volumes others : List ℕ) → length volumes ≡ length others → volumes_in orders volumes ≡ volumes_in orders others
unfolding volumes_in
by_length orders volumes others e = rw e

pub same-made : (orders : List AuctionOrder) (volumes scratch : List ℕ) {places others : ℕ} → places ≡ others → length volumes ≡ length scratch
    → lent_of places orders volumes ≡ lent_of others orders scratch
unfolding lent_of
same-made orders volumes scratch e f = rw (e, by_length orders volumes scratch f)

-- what is made of orders holds them
pub held_of : (places : ℕ) (orders : List AuctionOrder) (volumes : List ℕ) → held (lent_of places orders volumes) ≡ orders
unfolding held lent_of list_of
held_of places orders volumes = take-append_seam orders (replicate (places - length orders) zero_order)

-- what is made of orders is as long as it was
pub list-places : (places : ℕ) (orders : List AuctionOrder) → length orders ≤ places → length (list_of places orders) ≡ places
unfolding list_of
list-places places orders fit = omega (arith, length-append orders (replicate (places - length orders) zero_order), length-replicate (places - length orders) zero_order)

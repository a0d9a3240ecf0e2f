-- What stands at a position of lent bytes: one law for each exit of `found_at`, and what a loop over the events learns of what is found.
-- Assumes nothing.
use mathlib.Core.Bool.{Bool, true, false, cond, ◌||◌}
use mathlib.Core.List.{List, [], ◌∷◌, ◌++◌}
use mathlib.Core.Path.{◌≡◌, refl, ap, ◌∙◌}
use Prim.Native.Nat.{ℕ, zero, suc, ◌+◌, ◌-◌, ◌≤◌, ◌<◌}
use native.Mathlib.Nat.{add-zero}
use native.Mathlib.Omega.{arith}
use lib.Dec.{ltb, eqb}
use lib.ListN.{length, get_or, take, drop, length-take, length-drop, drop_of_length-le, take-append-drop}
use lib.Seq.{get_or-drop, get_or-take, drop-drop, length-take-le}
use borrow.Author.Tests.{ltb-false, eqb-false, lt-ltb, le-ltb, le-leb, lt-leb, eq-eqb, ne_eqb}
use Rattle.definitions.specs.Lists.{first_met}
use Rattle.definitions.specs.Events.{length_of, bytes_conditions}
use Rattle.definitions.specs.Walk.{taken, split}
use Rattle.std.specs.Prelude.{Some, None}
use Rattle.reader.specs.Places.{found_at, events_from}

-- as `taken` has it, of the number of bytes left and of the length of their kind
abbrev takes : ℕ → ℕ → ℕ
takes left n = cond (eqb n 0 || ltb left n) left n

module _ (b : List ℕ) (at : ℕ) where
  pub no-event : length b ≤ at → None ≡ found_at b at
  unfolding found_at
  no-event h = rw (le-leb _ _ h)

  some-event : at < length b → found_at b at ≡ Some (at + taken (drop at b))
  unfolding found_at
  some-event h = rw (lt-leb _ _ h)

  taken_at : {n : ℕ} → n ≡ length_of (get_or b at 0) → taken (drop at b) ≡ takes (length b - at) n
  unfolding taken
  taken_at of-kind = rw (length-drop, get_or-drop, add-zero, of-kind)

  module _ {n : ℕ} (some : at < length b) (of-kind : n ≡ length_of (get_or b at 0)) where
    pub unknown-kind : n ≡ 0 → Some (at + (length b - at)) ≡ found_at b at
    unknown-kind e = rw (some-event some, taken_at of-kind, eq-eqb n 0 e)

    pub short-event : (n ≡ 0 → ⊥) → length b - at < n → Some (at + (length b - at)) ≡ found_at b at
    short-event known h = rw (some-event some, taken_at of-kind, ne_eqb n 0 known, lt-ltb (length b - at) n h)

    pub whole-event : (n ≡ 0 → ⊥) → n ≤ length b - at → Some (at + n) ≡ found_at b at
    whole-event known h = rw (some-event some, taken_at of-kind, ne_eqb n 0 known, le-ltb (length b - at) n h)

-- of some bytes, at least one and at most all
record Part (left n : ℕ) : Type 0 where
  least : 0 < takes left n
  most : takes left n ≤ left

part : (left n : ℕ) → 0 < left → Part left n
part left n h = go (eqb n 0) refl (ltb left n) refl where
  go : (unknown : Bool) → eqb n 0 ≡ unknown → (short : Bool) → ltb left n ≡ short → Part left n
  go true z short s = record { least = rw z h; most = rw z (omega arith) }
  go false z true s = record { least = rw (z, s) h; most = rw (z, s) (omega arith) }
  go false z false s = record { least = rw (z, s) (omega (arith, eqb-false n 0 z)); most = rw (z, s) (ltb-false left n s) }

-- what a loop learns of an event at a position: where it ends, and so that the position grows and stays within the bytes
pub record EventAt (b : List ℕ) (at end : ℕ) : Type 0 where
  pub some : at < length b
  pub ends : end ≡ at + taken (drop at b)
  pub grows : at < end
  pub within : end ≤ length b

module _ (b : List ℕ) (at : ℕ) where
  pub event-at : (end : ℕ) → found_at b at ≡ Some end → EventAt b at end
  event-at end e =
      let over : length b ≤ at → ⊥ = λ h. let z : ◌≡◌ {A = ℕ} 0 1 = cc (no-event b at h) in omega arith in
      let some : at < length b = omega arith in
      let ends : end ≡ at + taken (drop at b) = cc (some-event b at some) in
      let left = part (length b - at) (length_of (get_or b at 0)) (omega arith) in
      let takes = taken_at b at refl in
      record { some = some; ends = ends; grows = omega arith; within = omega arith }

  pub end-at : found_at b at ≡ None → length b ≤ at
  end-at e =
      let more : at < length b → ⊥ = λ h. let z : ◌≡◌ {A = ℕ} 0 1 = cc (some-event b at h) in omega arith in
      omega arith

-- no event is left
pub split-none : (n : ℕ) (b : List ℕ) (at : ℕ) → length b ≤ at → split n (drop at b) ≡ []
unfolding split
split-none zero b at h = refl
split-none (suc n) b at h = rw (drop_of_length-le b h)

-- the event at a place, and those after it
pub split-next : (n : ℕ) (b : List ℕ) (at end : ℕ) → EventAt b at end → split (suc n) (drop at b) ≡ take (end - at) (drop at b) ∷ split n (drop end b)
unfolding split
split-next n b at end here =
    let left : length (drop at b) ≡ length b - at = length-drop at b in
    let some : length (drop at b) ≡ 0 → ⊥ = λ e. omega (arith, here.some) in
    let long : taken (drop at b) ≡ end - at = omega (arith, here.ends) in
    let past : at + (end - at) ≡ end = omega (arith, here.grows) in
    rw (ne_eqb (length (drop at b)) 0 some, long, drop-drop (end - at) at b, past)

-- no more events than are asked
pub split-most : (n : ℕ) (b : List ℕ) → length (split n b) ≤ n
unfolding split
split-most zero b = omega arith
split-most (suc n) [] = omega arith
split-most (suc n) (x ∷ b) = rw (ne_eqb (length (x ∷ b)) 0 (λ e. omega arith)) (omega (arith, split-most n (drop (taken (x ∷ b)) (x ∷ b))))

-- an event takes one byte at least
least : (x : ℕ) (b : List ℕ) → 0 < taken (x ∷ b)
least x b = rw (taken_at (x ∷ b) 0 refl) (part (length (x ∷ b) - 0) (length_of x) (omega arith)).least

pub split-some : (n : ℕ) (b : List ℕ) {e : List ℕ} {es : List (List ℕ)} → split n b ≡ e ∷ es → 0 < length e
unfolding split
split-some zero b h = cc
split-some (suc n) [] h = cc
split-some (suc n) (x ∷ b) {e} {es} h =
    let first : take (taken (x ∷ b)) (x ∷ b) ∷ split n (drop (taken (x ∷ b)) (x ∷ b)) ≡ e ∷ es = rw (ne_eqb (length (x ∷ b)) 0 (λ z. omega arith)) at h in
    let same : take (taken (x ∷ b)) (x ∷ b) ≡ e = cc in
    rw (← same) (omega (arith, length-take (taken (x ∷ b)) (x ∷ b), least x b))

behind : (n : ℕ) (x : ℕ) (b : List ℕ) → length (x ∷ b) ≤ suc n → length (drop (taken (x ∷ b)) (x ∷ b)) ≤ n
behind n x b h =
    omega (arith, least x b, length-drop (taken (x ∷ b)) (x ∷ b))

-- bytes have no more events than bytes
split-enough : (n m : ℕ) (b : List ℕ) → length b ≤ n → length b ≤ m → split n b ≡ split m b
unfolding split
split-enough zero zero b h k = refl
split-enough zero (suc m) [] h k = refl
split-enough zero (suc m) (x ∷ b) h k = absurd (omega arith)
split-enough (suc n) zero [] h k = refl
split-enough (suc n) zero (x ∷ b) h k = absurd (omega arith)
split-enough (suc n) (suc m) [] h k = refl
split-enough (suc n) (suc m) (x ∷ b) h k =
    let rest : List ℕ = drop (taken (x ∷ b)) (x ∷ b) in
    rw (ne_eqb (length (x ∷ b)) 0 (λ e. omega arith)) (ap (λ (es : List (List ℕ)). take (taken (x ∷ b)) (x ∷ b) ∷ es) (split-enough n m rest (behind n x b h) (behind m x b k)))

-- the reader's events: none where nothing is found, and else the event that is found and those behind it
module _ (b : List ℕ) (at : ℕ) where
  pub none-from : found_at b at ≡ None → events_from b at ≡ []
  none-from e = split-none (length (drop at b)) b at (end-at b at e)

  pub next-from : (end : ℕ) → found_at b at ≡ Some end → events_from b at ≡ take (end - at) (drop at b) ∷ events_from b end
  next-from end e =
      let here = event-at b at end e in
      let one_more : length (drop at b) ≡ suc (length b - (at + 1)) = omega (arith, length-drop at b, here.some) in
      ap (λ (n : ℕ). split n (drop at b)) one_more
      ∙ split-next (length b - (at + 1)) b at end here
      ∙ ap (λ (es : List (List ℕ)). take (end - at) (drop at b) ∷ es)
      (split-enough (length b - (at + 1)) (length (drop end b)) (drop end b) (omega (arith, length-drop end b, here.grows)) (omega arith))

abbrev pub joined : List (List ℕ) → List ℕ
joined [] = []
joined (e ∷ es) = e ++ joined es

-- the events are all of the bytes, where there may be as many events as bytes
pub split-all : (n : ℕ) (b : List ℕ) → length b ≤ n → joined (split n b) ≡ b
unfolding split
split-all zero [] h = refl
split-all zero (x ∷ b) h = absurd (omega arith)
split-all (suc n) [] h = refl
split-all (suc n) (x ∷ b) h =
    rw (ne_eqb (length (x ∷ b)) 0 (λ e. omega arith), split-all n (drop (taken (x ∷ b)) (x ∷ b)) (behind n x b h)) (take-append-drop (taken (x ∷ b)) (x ∷ b))

-- "`refused 2` or `refused 3` ends the listing": an event that others follow is whole
pub whole_before : (b : List ℕ) → taken b < length b → first_met (bytes_conditions (take (taken b) b)) ≡ 0
unfolding taken first_met
whole_before b = go (length_of (get_or b 0 0)) refl (eqb (length_of (get_or b 0 0)) 0) refl (ltb (length b) (length_of (get_or b 0 0))) refl where
  go : (n : ℕ) → n ≡ length_of (get_or b 0 0) → (unknown : Bool) → eqb n 0 ≡ unknown → (short : Bool) → ltb (length b) n ≡ short
      → cond (unknown || short) (length b) n < length b → first_met (bytes_conditions (take (cond (unknown || short) (length b) n) b)) ≡ 0
  go n of-kind true z short s h = absurd (omega arith)
  go n of-kind false z true s h = absurd (omega arith)
  go n of-kind false z false s h =
      rw (length-take-le n b (omega arith), get_or-take n b 0 0 (omega (arith, eqb-false n 0 z)), ← of-kind, z, eq-eqb n n refl) refl

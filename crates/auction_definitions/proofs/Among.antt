-- What stands in a list, in one with some left out, and in one with each changed.
-- Assumes nothing.
use mathlib.Core.Bool.{Bool, true, false, cond}
use mathlib.Core.List.{List, [], ◌∷◌, map}
use mathlib.Core.Path.{◌≡◌, refl}
use Prim.Native.Nat.{ℕ, zero, suc, ◌<◌}
use native.Mathlib.Nat.{not-suc-le-zero, le_of_suc-le-suc}
use lib.ListN.{length, get_or}
use Rattle.definitions.specs.Lists.{any, keep}
use Rattle.definitions.proofs.Tests.{or_parts}

-- x stands in the list
pub data Among {A : Type 0} (x : A) : List A → Type 0 where
  first : {xs : List A} → Among x (x ∷ xs)
  later : {y : A} {xs : List A} → Among x xs → Among x (y ∷ xs)

pub none_in : {A : Type 0} (x : A) → Among x [] → ⊥
none_in x = elim [ ]

-- what is read at a place of the list
pub read : {A : Type 0} (xs : List A) (i : ℕ) (d : A) → i < length xs → Among (get_or xs i d) xs
read [] i d small = absurd (not-suc-le-zero small)
read (x ∷ xs) zero d small = first
read (x ∷ xs) (suc i) d small = later (read xs i d (le_of_suc-le-suc small))

module _ {A : Type 0} (t : A → Bool) where
  pub kept : (x : A) (xs : List A) → Among x xs → t x ≡ true → Among x (keep t xs)
  unfolding keep
  kept x [] at has = elim at [ ]
  kept x (y ∷ ys) first has = rw has first
  kept x (y ∷ ys) (later at) has = go (t y) (kept x ys at has)
    where
      go : (u : Bool) → Among x (keep t ys) → Among x (cond u (y ∷ keep t ys) (keep t ys))
      go true below = later below
      go false below = below

  of-kept-cons : (u : Bool) (x y : A) (ys ks : List A) → t y ≡ u → Among x (cond u (y ∷ ks) ks) → (Among x ks → Among x ys × (t x ≡ true)) → Among x (y ∷ ys) × (t x ≡ true)
  of-kept-cons true x y ys ks has first below = (first, has)
  of-kept-cons true x y ys ks has (later at) below = (later (below at).0, (below at).1)
  of-kept-cons false x y ys ks has at below = (later (below at).0, (below at).1)

  pub of-kept : (x : A) (xs : List A) → Among x (keep t xs) → Among x xs × (t x ≡ true)
  unfolding keep
  of-kept x [] at = absurd (none_in x at)
  of-kept x (y ∷ ys) at = of-kept-cons (t y) x y ys (keep t ys) refl at (of-kept x ys)

  -- what any element has is false of each where it is false of all
  pub none_of : (x : A) (xs : List A) → any t xs ≡ false → Among x xs → t x ≡ false
  unfolding any
  none_of x [] none at = elim at [ ]
  none_of x (y ∷ ys) none first = (or_parts (t x) (any t ys) none).0
  none_of x (y ∷ ys) none (later at) = none_of x ys (or_parts (t y) (any t ys) none).1 at

module _ {A B : Type 0} (f : A → B) where
  pub mapped : (x : A) (xs : List A) → Among x xs → Among (f x) (map f xs)
  mapped x [] at = elim at [ ]
  mapped x (y ∷ ys) first = first
  mapped x (y ∷ ys) (later at) = later (mapped x ys at)

  -- what stands in the changed list comes from one that stands in the list
  pub record From (y : B) (xs : List A) : Type 0 where
    pub of : A
    pub among : Among of xs
    pub same : y ≡ f of

  of-mapped-cons : (x : A) (xs : List A) (y : B) → Among y (f x ∷ map f xs) → (Among y (map f xs) → From y xs) → From y (x ∷ xs)
  of-mapped-cons x xs y first below = record { of = x; among = first; same = refl }
  of-mapped-cons x xs y (later at) below = let b : From y xs = below at in record { of = b.of; among = later b.among; same = b.same }

  pub of-mapped : (y : B) (xs : List A) → Among y (map f xs) → From y xs
  of-mapped y [] at = elim at [ ]
  of-mapped y (x ∷ xs) at = of-mapped-cons x xs y at (of-mapped y xs)

-- Laws of `any`, `all`, `count`, `keep`, `all_below` and `each`: at the next element of a list, as a loop meets it, and at the next number.
-- Assumes nothing.
use mathlib.Core.Bool.{Bool, true, false, ◌&&◌, ◌||◌, and_assoc, or_assoc, or-false, and-true, cond}
use mathlib.Core.List.{List, [], ◌∷◌, ◌++◌, map}
use mathlib.Core.Path.{◌≡◌, ap, sym, ◌∙◌}
use Prim.Native.Nat.{ℕ, ◌+◌, ◌≤◌, ◌<◌}
use native.Mathlib.Numerals.{add-one}
use lib.ListN.{length, get_or, take, drop, drop_of_length-le, length-map}
use lib.Seq.{drop-cons, take-suc}
use Rattle.definitions.specs.Lists.{any, all, count, all_below, each, keep}
use native.Mathlib.Omega.{arith}

abbrev pub bit : Bool → ℕ
bit true = 1
bit false = 0

-- the length of an array of records, which the logic says of their machine values
pub length-mapped : {A B : Type 0} (f : A → B) (xs : List A) {n : ℕ} → length (map f xs) ≡ n → length xs ≡ n
length-mapped f xs e = sym (length-map xs f) ∙ e

module _ {A : Type 0} where
  -- the code's i + 1 where the library has suc i
  pub drop-next : (xs : List A) (i : ℕ) (d : A) → i < length xs → drop i xs ≡ get_or xs i d ∷ drop (i + 1) xs
  drop-next xs i d h = rw add-one (drop-cons xs i d h)

  pub take_next : (xs : List A) (i : ℕ) (d : A) → i < length xs → take (i + 1) xs ≡ take i xs ++ (get_or xs i d ∷ [])
  take_next xs i d h = rw add-one (take-suc xs i d h)

  module _ (p : A → Bool) where
    pub any_next : (xs : List A) (i : ℕ) (d : A) → i < length xs → any p (drop i xs) ≡ p (get_or xs i d) || any p (drop (i + 1) xs)
    unfolding any
    any_next xs i d h = rw (drop-next xs i d h)

    pub any-end : (xs : List A) (i : ℕ) → length xs ≤ i → any p (drop i xs) ≡ false
    unfolding any
    any-end xs i h = rw (drop_of_length-le xs h)

    pub all-next : (xs : List A) (i : ℕ) (d : A) → i < length xs → all p (drop i xs) ≡ p (get_or xs i d) && all p (drop (i + 1) xs)
    unfolding all
    all-next xs i d h = rw (drop-next xs i d h)

    pub all_end : (xs : List A) (i : ℕ) → length xs ≤ i → all p (drop i xs) ≡ true
    unfolding all
    all_end xs i h = rw (drop_of_length-le xs h)

    pub count-cons : (x : A) (xs : List A) → count p (x ∷ xs) ≡ bit (p x) + count p xs
    unfolding count keep
    count-cons x xs = go (p x)
      where
        go : (t : Bool) → length (cond t (x ∷ keep p xs) (keep p xs)) ≡ bit t + length (keep p xs)
        go true = omega arith
        go false = omega arith

    -- a loop that looks for an element: what it found so far, or what is left
    pub found-next : (found : Bool) (xs : List A) (i : ℕ) (d : A) (now : Bool) → i < length xs → now ≡ p (get_or xs i d)
        → (found || any p (drop i xs)) ≡ any p xs → (found || now || any p (drop (i + 1) xs)) ≡ any p xs
    found-next found xs i d now h e inv =
        or_assoc found now (any p (drop (i + 1) xs)) ∙ ap (λ (b : Bool). found || (b || any p (drop (i + 1) xs))) e ∙ ap (λ (b : Bool). found || b) (sym (any_next xs i d h)) ∙ inv

    pub found-end : (found : Bool) (xs : List A) (i : ℕ) → length xs ≤ i → (found || any p (drop i xs)) ≡ any p xs → found ≡ any p xs
    found-end found xs i h inv = sym (or-false found) ∙ ap (λ (b : Bool). found || b) (sym (any-end xs i h)) ∙ inv

    -- a loop that tests every element
    pub tested-next : (ok : Bool) (xs : List A) (i : ℕ) (d : A) (now : Bool) → i < length xs → now ≡ p (get_or xs i d)
        → (ok && all p (drop i xs)) ≡ all p xs → (ok && now && all p (drop (i + 1) xs)) ≡ all p xs
    tested-next ok xs i d now h e inv =
        and_assoc ok now (all p (drop (i + 1) xs)) ∙ ap (λ (b : Bool). ok && (b && all p (drop (i + 1) xs))) e ∙ ap (λ (b : Bool). ok && b) (sym (all-next xs i d h)) ∙ inv

    pub tested-end : (ok : Bool) (xs : List A) (i : ℕ) → length xs ≤ i → (ok && all p (drop i xs)) ≡ all p xs → ok ≡ all p xs
    tested-end ok xs i h inv = sym (and-true ok) ∙ ap (λ (b : Bool). ok && b) (sym (all_end xs i h)) ∙ inv

pub all_below-next : (p : ℕ → Bool) (i : ℕ) → all_below (i + 1) p ≡ all_below i p && p i
unfolding all_below
all_below-next p i = rw add-one

pub each_next : (f : ℕ → List ℕ → List ℕ) (i : ℕ) (w : List ℕ) → each (i + 1) f w ≡ f i (each i f w)
unfolding each
each_next f i w = rw add-one

-- What is said of lists and of numbers below a bound, where the library has no word for it.
use Rattle.std.specs.Prelude.{Bool, true, false, cond, ◌&&◌, ◌||◌, List, [], ◌∷◌, ◌++◌, ℕ, zero, suc, ◌+◌, length, take, drop}

module _ {A : Type 0} where
  unfoldable pub any : (A → Bool) → List A → Bool
  any p [] = false
  any p (x ∷ xs) = p x || any p xs

  unfoldable pub all : (A → Bool) → List A → Bool
  all p [] = true
  all p (x ∷ xs) = p x && all p xs

  unfoldable pub keep : (A → Bool) → List A → List A
  keep p [] = []
  keep p (x ∷ xs) = cond (p x) (x ∷ keep p xs) (keep p xs)

  unfoldable pub count : (A → Bool) → List A → ℕ
  count p xs = length (keep p xs)

-- numbered tests, from top to bottom: the number of the first that is met; 0 where none is
unfoldable pub first_met : List (ℕ × Bool) → ℕ
first_met [] = 0
first_met (c ∷ cs) = cond c.1 c.0 (first_met cs)

-- p holds of every number below n
unfoldable pub all_below : ℕ → (ℕ → Bool) → Bool
all_below zero p = true
all_below (suc n) p = all_below n p && p n

-- f at 0, then at 1, up to the last number below n
unfoldable pub each : ℕ → (ℕ → List ℕ → List ℕ) → List ℕ → List ℕ
each zero f w = w
each (suc n) f w = f n (each n f w)

-- the n words from a place on, and the words with others put there
unfoldable pub part : List ℕ → ℕ → ℕ → List ℕ
part w place n = take n (drop place w)

unfoldable pub put : List ℕ → ℕ → List ℕ → List ℕ
put w place xs = take place w ++ (xs ++ drop (place + length xs) w)

unfoldable pub repeat : ℕ → List ℕ → List ℕ
repeat zero xs = []
repeat (suc n) xs = xs ++ repeat n xs

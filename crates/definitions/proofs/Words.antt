-- Laws of `part` and `put`: the words of a place after others were put there, before it, or after it.
-- Assumes nothing.
use mathlib.Core.List.{List, [], ◌∷◌, ◌++◌}
use mathlib.Core.Path.{◌≡◌, refl, ap, sym, ◌∙◌}
use Prim.Native.Nat.{ℕ, zero, suc, ◌+◌, ◌-◌, ◌≤◌, ◌<◌}
use native.Mathlib.Nat.{sub-zero, zero-sub, suc-sub-suc}
use native.Mathlib.Omega.{arith}
use lib.ListN.{length, get_or, take, drop, length-append, length-take, length-drop, get_or-append}
use lib.Seq.{length-take-le, take-append-le, take_at, drop_at, take-take, drop-drop, get_or-take, take-append-add, drop-append-add, take-nil}
use Rattle.definitions.specs.Lists.{part, put}

pub drop-take : (i m : ℕ) (l : List ℕ) → drop i (take m l) ≡ take (m - i) (drop i l)
drop-take zero m l = rw sub-zero
drop-take (suc i) zero l = rw zero-sub
drop-take (suc i) (suc m) [] = sym (take-nil (suc m - suc i))
drop-take (suc i) (suc m) (x ∷ l) = rw suc-sub-suc (drop-take i m l)

pub part-take : (w : List ℕ) (m at n : ℕ) → at + n ≤ m → part (take m w) at n ≡ part w at n
unfolding part
part-take w m at n h = rw (drop-take at m w) (take-take n (m - at) (drop at w) (omega arith))

module _ (w : List ℕ) (place : ℕ) (xs : List ℕ) (fits : place + length xs ≤ length w) where
  before-long : length (take place w) ≡ place
  before-long = length-take-le place w (omega arith)

  pub length-put : length (put w place xs) ≡ length w
  unfolding put
  length-put = simp (length-append, length-drop, before-long) (omega arith)

  pub take-put-before : (n : ℕ) → n ≤ place → take n (put w place xs) ≡ take n w
  unfolding put
  take-put-before n h =
      take-append-le n (take place w) (xs ++ drop (place + length xs) w) (omega (arith, before-long)) ∙ take-take n place w h

  pub drop-put-at : drop place (put w place xs) ≡ xs ++ drop (place + length xs) w
  unfolding put
  drop-put-at = drop_at (take place w) (xs ++ drop (place + length xs) w) place before-long

  pub drop-put-after : (n : ℕ) → place + length xs ≤ n → drop n (put w place xs) ≡ drop n w
  drop-put-after n h =
      let over : n ≡ place + (length xs + (n - (place + length xs))) = omega arith in
      let on : place + length xs + (n - (place + length xs)) ≡ n = omega arith in
      ap (λ (m : ℕ). drop m (put w place xs)) over
      ∙ sym (drop-drop (length xs + (n - (place + length xs))) place (put w place xs))
      ∙ ap (drop (length xs + (n - (place + length xs)))) drop-put-at
      ∙ drop-append-add xs (drop (place + length xs) w) (n - (place + length xs))
      ∙ drop-drop (n - (place + length xs)) (place + length xs) w
      ∙ ap (λ (m : ℕ). drop m w) on

  pub part-put-same : part (put w place xs) place (length xs) ≡ xs
  unfolding part
  part-put-same = rw drop-put-at (take_at xs (drop (place + length xs) w) (length xs) refl)

  pub part-put-after : (at n : ℕ) → place + length xs ≤ at → part (put w place xs) at n ≡ part w at n
  unfolding part
  part-put-after at n h = ap (take n) (drop-put-after at h)

  pub part-put-before : (at n : ℕ) → at + n ≤ place → part (put w place xs) at n ≡ part w at n
  part-put-before at n h =
      sym (part-take (put w place xs) place at n h)
      ∙ ap (λ (v : List ℕ). part v at n) (take-put-before place (omega arith))
      ∙ part-take w place at n h

  pub get_d-put-before : (i : ℕ) → i < place → get_or (put w place xs) i 0 ≡ get_or w i 0
  unfolding put
  get_d-put-before i h =
      get_or-append (take place w) (xs ++ drop (place + length xs) w) 0 i (omega (arith, before-long)) ∙ get_or-take place w i 0 h

  pub take_put : (n : ℕ) → place + length xs ≤ n → n ≤ length w → take n (put w place xs) ≡ put (take n w) place xs
  unfolding put
  take_put n h m =
      let over : n ≡ length (take place w) + (length xs + (n - (place + length xs))) = omega (arith, before-long) in
      ap (λ (m : ℕ). take m (take place w ++ (xs ++ drop (place + length xs) w))) over
      ∙ take-append-add (take place w) (xs ++ drop (place + length xs) w) (length xs + (n - (place + length xs)))
      ∙ ap (λ (v : List ℕ). take place w ++ v) (take-append-add xs (drop (place + length xs) w) (n - (place + length xs)))
      ∙ ap (λ (v : List ℕ). v ++ (xs ++ take (n - (place + length xs)) (drop (place + length xs) w))) (sym (take-take place n w (omega arith)))
      ∙ ap (λ (v : List ℕ). take place (take n w) ++ (xs ++ v)) (sym (drop-take (place + length xs) n w))

pub length_part : (w : List ℕ) (at n : ℕ) → at + n ≤ length w → length (part w at n) ≡ n
unfolding part
length_part w at n h = simp (length-take, length-drop) (omega arith)

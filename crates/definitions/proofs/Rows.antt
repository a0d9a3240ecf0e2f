-- Laws of lists under the tests of the definitions, and of `close_up` and `edited` over a desk's rows.
-- Assumes nothing.
use mathlib.Core.Bool.{Bool, true, false, cond, ◌&&◌, ◌||◌, not, and-false, or-false}
use mathlib.Core.List.{List, [], ◌∷◌, ◌++◌, map}
use mathlib.Core.Logic.{⊎_elim}
use mathlib.Core.Path.{◌≡◌, refl, ap, sym, subst, ◌∙◌}
use Prim.Native.Nat.{ℕ, zero, suc, ◌+◌, ◌-◌, ◌≤◌}
use native.Mathlib.Omega.{arith}
use lib.Dec.{eqb}
use lib.ListN.{length, replicate, length-append, length-replicate, length-map}
use lib.Seq.{set_at, append_snoc}
use borrow.Author.Tests.{eqb-true, eqb-false}
use Rattle.definitions.specs.declared.Row.{Row}
use Rattle.definitions.specs.Lists.{any, all, count, keep}
use Rattle.definitions.specs.Sound.{marked, numbered, marked_first, numbers_differ}
use Rattle.definitions.specs.Desks.{free_row, close_up, edited, added_last}
use Rattle.definitions.proofs.Tests.{and_parts, and-whole, and_second, or_parts, or-second, or_cases, not-grows}
use Rattle.definitions.proofs.Lists.{bit, count-cons}

module _ {A : Type 0} where
  module _ (p : A → Bool) where
    pub all_append : (xs ys : List A) → all p xs ≡ true → all p ys ≡ true → all p (xs ++ ys) ≡ true
    unfolding all
    all_append [] ys h k = k
    all_append (x ∷ xs) ys h k =
        let parts = and_parts (p x) (all p xs) h in
        and-whole parts.0 (all_append xs ys parts.1 k)

    pub all_replicate : (n : ℕ) (a : A) → p a ≡ true → all p (replicate n a) ≡ true
    unfolding all
    all_replicate zero a h = refl
    all_replicate (suc n) a h = and-whole h (all_replicate n a h)

    pub all-kept : (xs : List A) → all p (keep p xs) ≡ true
    unfolding all keep
    all-kept [] = refl
    all-kept (x ∷ xs) = go (p x) refl (all-kept xs)
      where
        go : (t : Bool) → p x ≡ t → all p (keep p xs) ≡ true → all p (cond t (x ∷ keep p xs) (keep p xs)) ≡ true
        go true e below = and-whole e below
        go false e below = below

    pub any_append : (xs ys : List A) → any p (xs ++ ys) ≡ any p xs || any p ys
    unfolding any
    any_append [] ys = refl
    any_append (x ∷ xs) ys = go (p x) (any_append xs ys)
      where
        go : (t : Bool) → any p (xs ++ ys) ≡ any p xs || any p ys → t || any p (xs ++ ys) ≡ t || any p xs || any p ys
        go true below = refl
        go false below = below

    pub any-replicate : (n : ℕ) (a : A) → p a ≡ false → any p (replicate n a) ≡ false
    unfolding any
    any-replicate zero a h = refl
    any-replicate (suc n) a h = rw h (any-replicate n a h)

    pub length-keep : (xs : List A) → length (keep p xs) ≡ count p xs
    unfolding count
    length-keep xs = refl

    pub count_none : count p [] ≡ 0
    unfolding count keep
    count_none = refl

    pub count-le : (xs : List A) → count p xs ≤ length xs
    count-le [] = omega (arith, count_none)
    count-le (x ∷ xs) = rw (count-cons p x xs) (go (p x) (count-le xs))
      where
        go : (t : Bool) → count p xs ≤ length xs → bit t + count p xs ≤ suc (length xs)
        go true below = omega arith
        go false below = omega arith

    pub count-all : (xs : List A) → all p xs ≡ true → count p xs ≡ length xs
    unfolding all
    count-all [] h = count_none
    count-all (x ∷ xs) h =
        let parts = and_parts (p x) (all p xs) h in
        rw (count-cons p x xs, parts.0) (omega (arith, count-all xs parts.1))

    pub count-append : (xs ys : List A) → count p (xs ++ ys) ≡ count p xs + count p ys
    count-append [] ys = omega (arith, count_none)
    count-append (x ∷ xs) ys = omega (arith, count-cons p x xs, count-cons p x (xs ++ ys), count-append xs ys)

    pub count-replicate : (n : ℕ) (a : A) → p a ≡ false → count p (replicate n a) ≡ 0
    count-replicate zero a h = count_none
    count-replicate (suc n) a h = rw (count-cons p a (replicate n a), h) (omega (arith, count-replicate n a h))

  module _ (p q : A → Bool) where
    pub all-weaken : ((x : A) → p x ≡ true → q x ≡ true) → (xs : List A) → all p xs ≡ true → all q xs ≡ true
    unfolding all
    all-weaken h [] e = refl
    all-weaken h (x ∷ xs) e =
        let parts = and_parts (p x) (all p xs) e in
        and-whole (h x parts.0) (all-weaken h xs parts.1)

    pub all_keep : (xs : List A) → all p xs ≡ true → all p (keep q xs) ≡ true
    unfolding all keep
    all_keep [] e = refl
    all_keep (x ∷ xs) e = go (q x) (all_keep xs parts.1)
      where
        parts : (p x ≡ true) × (all p xs ≡ true)
        parts = and_parts (p x) (all p xs) e

        go : (t : Bool) → all p (keep q xs) ≡ true → all p (cond t (x ∷ keep q xs) (keep q xs)) ≡ true
        go true below = and-whole parts.0 below
        go false below = below

    -- what is not kept does not meet the test
    pub any-keep : ((x : A) → q x ≡ false → p x ≡ false) → (xs : List A) → any p (keep q xs) ≡ any p xs
    unfolding any keep
    any-keep h [] = refl
    any-keep h (x ∷ xs) = go (q x) refl (any-keep h xs)
      where
        go : (t : Bool) → q x ≡ t → any p (keep q xs) ≡ any p xs → any p (cond t (x ∷ keep q xs) (keep q xs)) ≡ p x || any p xs
        go true e below = ap (λ (b : Bool). p x || b) below
        go false e below = rw (h x e) below

    module _ (f : A → A) where
      pub all_map : ((x : A) → p x ≡ true → q (f x) ≡ true) → (xs : List A) → all p xs ≡ true → all q (map f xs) ≡ true
      unfolding all
      all_map h [] e = refl
      all_map h (x ∷ xs) e =
          let parts = and_parts (p x) (all p xs) e in
          and-whole (h x parts.0) (all_map h xs parts.1)

      pub any-map : ((x : A) → p (f x) ≡ true → q x ≡ true) → (xs : List A) → any p (map f xs) ≡ true → any q xs ≡ true
      unfolding any
      any-map h [] e = e
      any-map h (x ∷ xs) e = go (p (f x)) refl e (any-map h xs)
        where
          go : (t : Bool) → p (f x) ≡ t → t || any p (map f xs) ≡ true → (any p (map f xs) ≡ true → any q xs ≡ true) → q x || any q xs ≡ true
          go true eq k below = rw (h x eq)
          go false eq k below = or-second (q x) (below k)

      module _ (s : A → Bool) (h : (x : A) → s x ≡ true → p (f x) ≡ q x) where
        pub any-map-same : (xs : List A) → all s xs ≡ true → any p (map f xs) ≡ any q xs
        unfolding any all
        any-map-same [] e = refl
        any-map-same (x ∷ xs) e =
            let parts = and_parts (s x) (all s xs) e in
            rw (h x parts.0) (ap (λ (b : Bool). q x || b) (any-map-same xs parts.1))

        pub count-map-same : (xs : List A) → all s xs ≡ true → count p (map f xs) ≡ count q xs
        unfolding all
        count-map-same [] e = count_none p ∙ sym (count_none q)
        count-map-same (x ∷ xs) e =
            let parts = and_parts (s x) (all s xs) e in
            rw (count-cons p (f x) (map f xs), count-cons q x xs, h x parts.0) (ap (λ (n : ℕ). bit (q x) + n) (count-map-same xs parts.1))

-- the length of closed-up rows
pub length-close_up : (rows : List Row) → length (close_up rows) ≡ length rows
unfolding close_up
length-close_up rows =
    let front = length-keep marked rows in
    let back = length-replicate (length rows - count marked rows) free_row in
    let most = count-le marked rows in
    length-append (keep marked rows) (replicate (length rows - count marked rows) free_row) ∙ omega arith

pub length-edited : (f : Row → Row) (rows : List Row) → length (edited f rows) ≡ length rows
unfolding edited
length-edited f rows = length-close_up (map f rows) ∙ length-map rows f

-- marked rows and then free rows
pub first-closed : (front : List Row) (n : ℕ) → all marked front ≡ true → marked_first (front ++ replicate n free_row) ≡ true
unfolding marked_first all
first-closed [] zero h = refl
first-closed [] (suc n) h = rw (any-replicate marked n free_row refl)
first-closed (r ∷ rs) n h =
    let parts = and_parts (marked r) (all marked rs) h in
    rw parts.0 (first-closed rs n parts.1)

differ-free : (n : ℕ) → numbers_differ (replicate n free_row) ≡ true
unfolding numbers_differ
differ-free zero = refl
differ-free (suc n) = differ-free n

numbered-free : (k n : ℕ) (rs : List Row) → any (numbered k) (rs ++ replicate n free_row) ≡ any (numbered k) rs
numbered-free k n rs =
    any_append (numbered k) rs (replicate n free_row)
    ∙ ap (λ (b : Bool). any (numbered k) rs || b) (any-replicate (numbered k) n free_row refl)
    ∙ or-false (any (numbered k) rs)

pub differ-closed : (front : List Row) (n : ℕ) → numbers_differ (front ++ replicate n free_row) ≡ numbers_differ front
unfolding numbers_differ
differ-closed [] n = differ-free n
differ-closed (r ∷ rs) n = rw (numbered-free r.number n rs, differ-closed rs n)

-- only marked rows count
pub differ-keep : (rows : List Row) → numbers_differ (keep marked rows) ≡ numbers_differ rows
unfolding numbers_differ keep
differ-keep [] = refl
differ-keep (r ∷ rs) = go (marked r) refl (differ-keep rs)
  where
    same : any (numbered r.number) (keep marked rs) ≡ any (numbered r.number) rs
    same = any-keep (numbered r.number) marked (λ x e. rw e) rs

    go : (t : Bool) → marked r ≡ t → numbers_differ (keep marked rs) ≡ numbers_differ rs
        → numbers_differ (cond t (r ∷ keep marked rs) (keep marked rs)) ≡ not (t && any (numbered r.number) rs) && numbers_differ rs
    go true e below = rw (e, same, below)
    go false e below = below

-- a change of a row that marks none anew and keeps the number of those that stay
abbrev pub KeepsNumbers : (Row → Row) → Type 0
KeepsNumbers f = (r : Row) → marked (f r) ≡ true → (marked r ≡ true) × ((f r).number ≡ r.number)

module _ (f : Row → Row) (h : KeepsNumbers f) where
  numbered-map : (k : ℕ) (rs : List Row) → any (numbered k) (map f rs) ≡ true → any (numbered k) rs ≡ true
  numbered-map k = any-map (numbered k) (numbered k) f go
    where
      go : (r : Row) → numbered k (f r) ≡ true → numbered k r ≡ true
      go r e =
          let parts = and_parts (marked (f r)) (eqb (f r).number k) e in
          let kept = h r parts.0 in
          and-whole kept.0 (subst (λ (n : ℕ). eqb n k ≡ true) kept.1 parts.1)

  pub differ-map : (rows : List Row) → numbers_differ rows ≡ true → numbers_differ (map f rows) ≡ true
  unfolding numbers_differ
  differ-map [] e = refl
  differ-map (r ∷ rs) e = and-whole (not-grows _ _ go parts.0) (differ-map rs parts.1)
    where
      parts : (not (marked r && any (numbered r.number) rs) ≡ true) × (numbers_differ rs ≡ true)
      parts = and_parts (not (marked r && any (numbered r.number) rs)) (numbers_differ rs) e

      go : (marked (f r) && any (numbered (f r).number) (map f rs)) ≡ true → (marked r && any (numbered r.number) rs) ≡ true
      go both =
          let two = and_parts (marked (f r)) (any (numbered (f r).number) (map f rs)) both in
          let kept = h r two.0 in
          and-whole kept.0 (numbered-map r.number rs (subst (λ (n : ℕ). any (numbered n) (map f rs) ≡ true) kept.1 two.1))

-- a row with a new number behind the others
pub differ-last : (rows : List Row) (r : Row) → numbers_differ rows ≡ true → any (numbered r.number) rows ≡ false
    → numbers_differ (rows ++ (r ∷ [])) ≡ true
unfolding numbers_differ any
differ-last [] r e none = rw (and-false (marked r))
differ-last (k ∷ ks) r e none = and-whole (not-grows _ _ go parts.0) (differ-last ks r parts.1 nones.1)
  where
    parts : (not (marked k && any (numbered k.number) ks) ≡ true) × (numbers_differ ks ≡ true)
    parts = and_parts (not (marked k && any (numbered k.number) ks)) (numbers_differ ks) e

    nones : (numbered r.number k ≡ false) × (any (numbered r.number) ks ≡ false)
    nones = or_parts (numbered r.number k) (any (numbered r.number) ks) none

    last : marked k ≡ true → any (numbered k.number) (r ∷ []) ≡ true → any (numbered k.number) ks ≡ true
    last m found =
        let same = and_parts (marked r) (eqb r.number k.number) (sym (or-false (numbered k.number r)) ∙ found) in
        let new = and_second (marked k) (eqb k.number r.number) nones.0 m in
        absurd (eqb-false k.number r.number new (sym (eqb-true r.number k.number same.1)))

    go : (marked k && any (numbered k.number) (ks ++ (r ∷ []))) ≡ true → (marked k && any (numbered k.number) ks) ≡ true
    go both =
        let two = and_parts (marked k) (any (numbered k.number) (ks ++ (r ∷ []))) both in
        let found = sym (any_append (numbered k.number) ks (r ∷ [])) ∙ two.1 in
        and-whole two.0 (⊎_elim (λ e. e) (last two.0) (or_cases (any (numbered k.number) ks) (any (numbered k.number) (r ∷ [])) found))

-- a marked row put at the first free place stands behind the marked rows
pub added-closed : (front : List Row) (n : ℕ) (r : Row) → all marked front ≡ true
    → added_last r (front ++ replicate (suc n) free_row) ≡ (front ++ (r ∷ [])) ++ replicate n free_row
added-closed front n r h =
    set_at front free_row (replicate n free_row) r (count marked (front ++ replicate (suc n) free_row)) place ∙ sym (append_snoc front r (replicate n free_row))
  where
    place : length front ≡ count marked (front ++ replicate (suc n) free_row)
    place =
        sym (count-append marked front (replicate (suc n) free_row) ∙ omega (arith, count-all marked front h, count-replicate marked (suc n) free_row refl))

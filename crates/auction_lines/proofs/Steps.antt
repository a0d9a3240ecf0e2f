-- Which step of `beats` decides: a law for each, in the request's order.
-- Assumes nothing.
use mathlib.Core.Bool.{Bool, true, false, ◌&&◌, ◌||◌}
use mathlib.Core.Path.{◌≡◌, refl, sym, ◌∙◌}
use Prim.Native.Nat.{ℕ}
use lib.Dec.{ltb, eqb}
use borrow.Author.Tests.{eq-eqb, le-ltb, ne_eqb}
use native.Mathlib.Omega.{arith}
use Rattle.auction_definitions.specs.declared.Line.{Line}
use Rattle.auction_definitions.specs.Auction.{ahead_by, beats, difference_of, distance_to, higher, less, volume_of}

or-false : (t : Bool) → (t || false) ≡ t
or-false true = refl
or-false false = refl

-- two numbers that differ decide, and two that are equal leave it to what comes next
decided : (t next : Bool) {a b : ℕ} → (a ≡ b → ⊥) → (t || (eqb a b && next)) ≡ t
decided t next differ = rw (ne_eqb _ _ differ) (or-false t)

more-tied : (next : Bool) {a b : ℕ} → a ≡ b → (ltb b a || (eqb a b && next)) ≡ next
more-tied next {a} {b} equal = rw (le-ltb b a (omega (arith, equal)), eq-eqb a b equal)

less-tied : (next : Bool) {a b : ℕ} → a ≡ b → (ltb a b || (eqb a b && next)) ≡ next
less-tied next {a} {b} equal = rw (le-ltb a b (omega (arith, equal)), eq-eqb a b equal)

module _ (reference : ℕ) (l m : Line) where
  after-difference : Bool
  after-difference = ahead_by less (distance_to reference) higher l m

  after-volume : Bool
  after-volume = ahead_by less difference_of (ahead_by less (distance_to reference) higher) l m

  pub by-volume : {v w : ℕ} → v ≡ volume_of l → w ≡ volume_of m → (v ≡ w → ⊥) → ltb w v ≡ beats reference l m
  unfolding beats after-volume
  by-volume ev ew differ = rw (ev, ew) (sym (decided _ after-volume (λ e. differ (ev ∙ e ∙ sym ew))))

  module _ (volumes : volume_of l ≡ volume_of m) where
    to-difference : beats reference l m ≡ after-volume
    unfolding beats after-volume
    to-difference = more-tied after-volume volumes

    pub by_difference : {d e : ℕ} → d ≡ difference_of l → e ≡ difference_of m → (d ≡ e → ⊥) → ltb d e ≡ beats reference l m
    unfolding after-volume after-difference
    by_difference ed ee differ = rw (to-difference, ed, ee) (sym (decided _ after-difference (λ e. differ (ed ∙ e ∙ sym ee))))

    module _ (differences : difference_of l ≡ difference_of m) where
      to-distance : beats reference l m ≡ after-difference
      unfolding after-volume after-difference
      to-distance = to-difference ∙ less-tied after-difference differences

      pub by-distance : {d e : ℕ} → d ≡ distance_to reference l → e ≡ distance_to reference m → (d ≡ e → ⊥) → ltb d e ≡ beats reference l m
      unfolding after-difference
      by-distance ed ee differ = rw (to-distance, ed, ee) (sym (decided _ (higher l m) (λ e. differ (ed ∙ e ∙ sym ee))))

      pub by-price : distance_to reference l ≡ distance_to reference m → higher l m ≡ beats reference l m
      unfolding after-difference
      by-price distances = sym (to-distance ∙ less-tied (higher l m) distances)

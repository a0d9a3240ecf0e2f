-- A list filled from a place to its end: what stands before the place, and the one element behind it. Over any elements: `auction::volumes::price_and_volumes` clears numbers, `auction_list::clear_from` orders; both crates build on this one.
-- Assumes nothing.
use mathlib.Core.List.{List, [], ◌++◌, append-nil}
use mathlib.Core.Path.{◌≡◌, ◌∙◌, ap}
use Prim.Native.Nat.{ℕ, ◌-◌, min}
use native.Mathlib.Omega.{arith}
use lib.ListN.{length, take, drop, replicate, drop_of_length-le, length-drop}
use lib.Seq.{length-take-le}
use borrow.Rule.Slice.PartMut.{put_mid}
use Rattle.std.proofs.lemmas.List.{take_min}

-- the place may lie behind the list: then nothing is filled
pub cleared : {A : Type 0} {m : ℕ} (place : ℕ) (xs zs : List A) (z : A) → m ≡ min place (length xs) → zs ≡ replicate (length (take (length xs - m) (drop m xs))) z
    → put_mid m (length xs - m) xs zs ≡ take place xs ++ replicate (length xs - place) z
cleared {m = m} place xs zs z e filled =
    let front : take m xs ≡ take place xs = ap (λ (k : ℕ). take k xs) e ∙ take_min place xs in
    let many : length (take (length xs - m) (drop m xs)) ≡ length xs - place = length-take-le (length xs - m) (drop m xs) (omega (arith, length-drop m xs)) ∙ omega (arith, e) in
    let none : drop (length xs - m) (drop m xs) ≡ [] = drop_of_length-le (drop m xs) (omega (arith, length-drop m xs)) in
    rw (front, filled, many, none, append-nil)

-- The gaps of `Gaps`, as `open_gap` and `close_gap` leave them, and what callers ask of them. No memory.
--     opens, closes                the orders behind the place copied, and the place left stored, are the gap opened, or closed
--     length-opened, length-closed         the list is as long as it was
--     reopened, reput              a gap closed is opened again with the order that stood there; one opened at the end is opened again with what stood there: the list is as it was
--     opened-last, closed-rest     the places below the count, after the one and after the other
-- Assumes nothing.
use mathlib.Core.List.{List, [], ◌∷◌, ◌++◌, append_assoc}
use mathlib.Core.Path.{◌≡◌, sym, ◌∙◌, ap}
use Prim.Native.Nat.{ℕ, ◌+◌, ◌-◌, ◌≤◌, ◌<◌}
use native.Mathlib.Numerals.{add-one}
use native.Mathlib.Omega.{arith}
use lib.ListN.{length, get_or, set, take, drop, length-append, length-drop, length-set, take-append-drop}
use lib.Seq.{drop_at, set_at, drop-drop, length-take-le, set-get_or, set-set, set_split, take-add, take_at, take-suc-set, take-take}
use Rattle.std.specs.List.{copy_within}
use Rattle.definitions.proofs.Lists.{drop-next, take_next}
use Rattle.auction_definitions.specs.declared.AuctionOrder.{AuctionOrder}
use Rattle.auction_definitions.specs.Current.{zero_order}
use Rattle.auction_list.specs.Gaps.{gap_closed, gap_opened}

abbrev Orders : Type 0
Orders = List AuctionOrder

-- ---- the orders behind the place are copied one place on, or one back, and the place left is stored

module _ (place count : ℕ) (xs : Orders) (below : place < count) (within : count ≤ length xs) where
  pub opens : (o : AuctionOrder) → set (copy_within xs place (count - 1) (place + 1)) place o ≡ gap_opened place count o xs
  unfolding gap_opened
  opens o =
      let few : count - 1 - place ≡ count - (place + 1) = omega arith in
      let end : place + 1 + (count - (place + 1)) ≡ count = omega arith in
      let middle : Orders = take (count - (place + 1)) (drop place xs) in
      let front : take (place + 1) xs ≡ take place xs ++ (get_or xs place zero_order ∷ []) = take_next xs place zero_order (omega arith) in
      rw (few, end, front, append_assoc, append_assoc)
      (set_at (take place xs) (get_or xs place zero_order) (middle ++ drop count xs) o place (length-take-le place xs (omega arith)))

  pub closes : set (copy_within xs (place + 1) count place) (count - 1) zero_order ≡ gap_closed place count xs
  unfolding gap_closed
  closes =
      let end : place + (count - (place + 1)) ≡ count - 1 = omega arith in
      let middle : Orders = take (count - (place + 1)) (drop (place + 1) xs) in
      let next : count - 1 + 1 ≡ count = omega arith in
      let last : drop (count - 1) xs ≡ get_or xs (count - 1) zero_order ∷ drop count xs = rw next at (drop-next xs (count - 1) zero_order (omega arith)) in
      let long : length (take place xs ++ middle) ≡ count - 1 = omega (arith, length-append (take place xs) middle, length-take-le place xs (omega arith), length-take-le (count - (place + 1)) (drop (place + 1) xs) (omega (arith, length-drop (place + 1) xs))) in
      rw (end, last) (set_at (take place xs ++ middle) (get_or xs (count - 1) zero_order) (drop count xs) zero_order (count - 1) long ∙ append_assoc (take place xs) middle (zero_order ∷ drop count xs))

  -- ---- the list is as long as it was

  -- the parts: the places below the gap, and those of the gap that stay
  length-below : length (take place xs) ≡ place
  length-below = length-take-le place xs (omega arith)

  length-between : (m : ℕ) → m ≤ place + 1 → length (take (count - (place + 1)) (drop m xs)) ≡ count - (place + 1)
  length-between m h = length-take-le (count - (place + 1)) (drop m xs) (omega (arith, length-drop m xs))

  pub length-opened : (o : AuctionOrder) → length (gap_opened place count o xs) ≡ length xs
  unfolding gap_opened
  length-opened o =
      let middle : Orders = take (count - (place + 1)) (drop place xs) in
      omega (arith, length-append (take place xs) (o ∷ (middle ++ drop count xs)), length-append middle (drop count xs), length-below, length-between place (omega arith), length-drop count xs)

  pub length-closed : length (gap_closed place count xs) ≡ length xs
  unfolding gap_closed
  length-closed =
      let middle : Orders = take (count - (place + 1)) (drop (place + 1) xs) in
      omega (arith, length-append (take place xs) (middle ++ (zero_order ∷ drop count xs)), length-append middle (zero_order ∷ drop count xs), length-below, length-between (place + 1) (omega arith), length-drop count xs)

  -- ---- a gap closed is opened again with the order that stood there

  pub reopened : gap_opened place count (get_or xs place zero_order) (gap_closed place count xs) ≡ xs
  unfolding gap_opened gap_closed
  reopened =
      let front : Orders = take place xs in
      let middle : Orders = take (count - (place + 1)) (drop (place + 1) xs) in
      let long : length ((front ++ middle) ++ (zero_order ∷ [])) ≡ count = omega (arith, length-append (front ++ middle) (zero_order ∷ []), length-append front middle, length-below, length-between (place + 1) (omega arith)) in
      let grouped : front ++ (middle ++ (zero_order ∷ drop count xs)) ≡ ((front ++ middle) ++ (zero_order ∷ [])) ++ drop count xs = simp append_assoc in
      let behind : drop count (front ++ (middle ++ (zero_order ∷ drop count xs))) ≡ drop count xs = rw grouped (drop_at ((front ++ middle) ++ (zero_order ∷ [])) (drop count xs) count long) in
      let end : place + 1 + (count - (place + 1)) ≡ count = omega arith in
      let rest : middle ++ drop count xs ≡ drop (place + 1) xs = ap (λ (k : ℕ). middle ++ drop k xs) (sym end) ∙ rw (← drop-drop (count - (place + 1)) (place + 1) xs, take-append-drop) in
      let next : get_or xs place zero_order ∷ drop (place + 1) xs ≡ drop place xs = sym (drop-next xs place zero_order (omega arith)) in
      rw (take_at front _ place length-below, drop_at front _ place length-below, take_at middle _ _ (length-between (place + 1) (omega arith)), behind, rest, next, take-append-drop)

  pub closed-rest : take (count - 1) (gap_closed place count xs) ≡ take place (take count xs) ++ drop (place + 1) (take count xs)
  unfolding gap_closed
  closed-rest =
      let front : Orders = take place xs in
      let middle : Orders = take (count - (place + 1)) (drop (place + 1) xs) in
      let long : length (front ++ middle) ≡ count - 1 = omega (arith, length-append front middle, length-below, length-between (place + 1) (omega arith)) in
      let end : place + 1 + (count - (place + 1)) ≡ count = omega arith in
      let held : take count xs ≡ take (place + 1) xs ++ middle = ap (λ (k : ℕ). take k xs) (sym end) ∙ take-add (place + 1) (count - (place + 1)) xs in
      let behind : drop (place + 1) (take count xs) ≡ middle = rw held (drop_at (take (place + 1) xs) middle (place + 1) (length-take-le (place + 1) xs (omega arith))) in
      rw (← append_assoc front middle (zero_order ∷ drop count xs), take_at (front ++ middle) (zero_order ∷ drop count xs) (count - 1) long, take-take place count xs (omega arith), behind)

-- ---- a gap at the end

-- it has one place, where the order is put
opened-is : (count : ℕ) (o : AuctionOrder) (xs : Orders) → count < length xs → gap_opened count (count + 1) o xs ≡ set xs count o
unfolding gap_opened
opened-is count o xs within =
    let none : count + 1 - (count + 1) ≡ 0 = omega arith in
    rw (none, add-one) (sym (set_split xs count o within))

module _ (count : ℕ) (xs : Orders) (within : count < length xs) (o : AuctionOrder) where
  pub opened-last : take (count + 1) (gap_opened count (count + 1) o xs) ≡ take count xs ++ (o ∷ [])
  opened-last = rw (opened-is count o xs within, add-one) (take-suc-set xs count o within)

  -- opened again with what stood there
  pub reput : gap_opened count (count + 1) (get_or xs count zero_order) (gap_opened count (count + 1) o xs) ≡ xs
  reput =
      rw (opened-is count o xs within)
      (opened-is count (get_or xs count zero_order) (set xs count o) (omega (arith, length-set xs count o)) ∙ rw (set-set, set-get_or))

-- What holds before a turn of each of the two loops of `best_line`, and that a turn keeps it, whatever the lines are stored in; and what a list then holds that is lent for them, which `Promised.antt` cites.
-- Assumes nothing.
use mathlib.Core.Bool.{Bool, true, false, cond, not, ◌&&◌, ◌||◌}
use mathlib.Core.List.{List, [], ◌∷◌, ◌++◌, map, map-append}
use mathlib.Core.Path.{◌≡◌, refl, sym, ◌∙◌, ap, subst}
use Prim.Native.Nat.{ℕ, zero, suc, ◌+◌, ◌*◌, ◌≤◌, ◌<◌, ◌^◌}
use native.Mathlib.Numerals.{add-one}
use native.Mathlib.Omega.{arith}
use lib.Dec.{eqb}
use lib.ListN.{length, get_or, set, take, drop, drop_of_length-le, length-map, length-take}
use lib.Seq.{set_at, append_snoc, take_all}
use borrow.Author.Tests.{eq-eqb, eqb-true}
use Rattle.definitions.specs.Codes.{max_volume}
use Rattle.definitions.specs.Lists.{any}
use Rattle.definitions.proofs.Lists.{any-end, any_next, drop-next, take_next}
use Rattle.definitions.proofs.Tests.{and_parts, and_second, or-first}
use Rattle.auction_definitions.specs.declared.AuctionOrder.{AuctionOrder}
use Rattle.auction_definitions.specs.declared.Line.{Line}
use Rattle.auction_definitions.specs.Auction.{bad_order, buys_at, empty_line, line_at, place_line, sells_at, sum_of, sums_in}
use Rattle.auction_definitions.specs.Current.{zero_order}
use Rattle.auction_definitions.proofs.Accepted.{good-volume}
use Rattle.auction_definitions.proofs.Among.{none_of, read}
use Rattle.auction_lines.specs.Lines.{better_of, with_order}
use Rattle.auction.specs.Turns.{best_after, filled_to, line_after, stored_to}

-- before the turn of place i: nothing bad was met in an earlier turn, and the best line is that of the places passed
pub record Candidates (orders : List AuctionOrder) (reference i : ℕ) (best : Line) : Type 0 where
  pub within : i ≤ length orders
  pub none-bad : 0 < i → any bad_order orders ≡ false
  pub best-left : best_after reference orders best (drop i orders) ≡ best_after reference orders (empty_line 0) orders

-- and what was lent has what was stored for the places passed, and as many places as it had
pub record Stored {S : Type 0} (store : S → ℕ → Line → S) (places : S → ℕ) (orders : List AuctionOrder) (start : S) (i : ℕ) (scratch : S) : Type 0 where
  pub so_far : scratch ≡ stored_to store orders i start
  pub as_long : places scratch ≡ places start

-- within it, before order j is added: whether a bad one is left is known in the first turn, the line is that of the orders passed, and its sums are far from the
-- end of 64 bits
pub record Orders (orders : List AuctionOrder) (i j : ℕ) (line : Line) : Type 0 where
  pub within : j ≤ length orders
  pub bad-left : i ≡ 0 → any bad_order (drop j orders) ≡ any bad_order orders
  pub line-left : line_after line (drop j orders) ≡ place_line orders (get_or orders i zero_order)
  pub buyers-small : line.buyers ≤ j * 2 ^ 32
  pub sellers-small : line.sellers ≤ j * 2 ^ 32

-- what an order adds: the sum of what is left with it is the sum of all
sum_step : (t b : Bool) (s v rest : ℕ) → (s + cond (t && b) v 0) + cond t rest 0 ≡ s + cond t (cond b v 0 + rest) 0
sum_step true true s v rest = omega arith
sum_step true false s v rest = omega arith
sum_step false b s v rest = omega arith

sum-start : (t : Bool) (s : ℕ) → s ≡ s + cond t 0 0
sum-start true s = omega arith
sum-start false s = omega arith

added-small : (t : Bool) (v : ℕ) → cond t v 0 ≤ v
added-small true v = omega arith
added-small false v = omega arith

abbrev line_of : ℕ → ℕ → ℕ → Line
line_of p b s = record { price = p; buyers = b; sellers = s }

same-sums : (p : ℕ) {b c s t : ℕ} → b ≡ c → s ≡ t → line_of p b s ≡ line_of p c t
same-sums p {c = c} {s = s} e f = ap (λ (n : ℕ). line_of p n s) e ∙ ap (line_of p c) f

-- at a price the sums of the orders are added; at 0, of an ATO or ATC, nothing is
line_after_lem : (os : List AuctionOrder) (l : Line)
    → line_after l os
    ≡ line_of l.price (l.buyers + cond (not (eqb l.price 0)) (sum_of (buys_at l.price) os) 0) (l.sellers + cond (not (eqb l.price 0)) (sum_of (sells_at l.price) os) 0)
unfolding line_after sum_of with_order
line_after_lem [] l = same-sums l.price (sum-start (not (eqb l.price 0)) l.buyers) (sum-start (not (eqb l.price 0)) l.sellers)
line_after_lem (o ∷ os) l =
    line_after_lem os (with_order l o)
    ∙ same-sums l.price (sum_step (not (eqb l.price 0)) (buys_at l.price o) l.buyers o.volume (sum_of (buys_at l.price) os))
    (sum_step (not (eqb l.price 0)) (sells_at l.price o) l.sellers o.volume (sum_of (sells_at l.price) os))

place-line : (orders : List AuctionOrder) (o : AuctionOrder) → line_after (empty_line o.price) orders ≡ place_line orders o
unfolding place_line line_at
place-line orders o = line_after_lem orders (empty_line o.price) ∙ go (eqb o.price 0) refl
  where
    go : (t : Bool) → eqb o.price 0 ≡ t
        → line_of o.price (0 + cond (not t) (sum_of (buys_at o.price) orders) 0) (0 + cond (not t) (sum_of (sells_at o.price) orders) 0)
        ≡ cond (not t) (line_of o.price (sum_of (buys_at o.price) orders) (sum_of (sells_at o.price) orders)) (line_of 0 0 0)
    go true none = ap (λ (p : ℕ). line_of p 0 0) (eqb-true o.price 0 none)
    go false limit = same-sums o.price (omega arith) (omega arith)

module _ (orders : List AuctionOrder) where
  pub orders-start : (i : ℕ) → i < length orders → Orders orders i 0 (empty_line (get_or orders i zero_order).price)
  orders-start i small =
      record { within = omega arith; bad-left = λ _. refl; line-left = place-line orders (get_or orders i zero_order); buyers-small = omega arith; sellers-small = omega arith }

  -- the sums fit, so that an order may be added
  pub small : {i j : ℕ} {line : Line} → length orders ≤ 1_024 → Orders orders i j line → (line.buyers < 2 ^ 63) × (line.sellers < 2 ^ 63)
  small fits at =
      (omega (arith, fits, at.within, at.buyers-small), omega (arith, fits, at.within, at.sellers-small))

  pub orders-next : {i j : ℕ} {line : Line} → Orders orders i j line → j < length orders → (get_or orders j zero_order).volume < 2 ^ 32
      → (eqb i 0 && bad_order (get_or orders j zero_order)) ≡ false → Orders orders i (j + 1) (with_order line (get_or orders j zero_order))
  unfolding with_order line_after
  orders-next {i} {j} {line} at small volume good =
      record {
        within = omega (arith, small);
        bad-left = λ first. sym (any_next bad_order orders j zero_order small ∙ ap (λ (b : Bool). b || any bad_order (drop (j + 1) orders)) (and_second (eqb i 0) (bad_order (get_or orders j zero_order)) good (eq-eqb i 0 first))) ∙ at.bad-left first;
        line-left = sym (ap (line_after line) (drop-next orders j zero_order small)) ∙ at.line-left;
        buyers-small = omega (arith, at.buyers-small, volume, added-small (not (eqb line.price 0) && buys_at line.price (get_or orders j zero_order)) (get_or orders j zero_order).volume);
        sellers-small = omega (arith, at.sellers-small, volume, added-small (not (eqb line.price 0) && sells_at line.price (get_or orders j zero_order)) (get_or orders j zero_order).volume);
      }

  -- an order that may be added is good: the first turn asked it, and all were asked before a later one
  pub volume-small : {i j : ℕ} → (0 < i → any bad_order orders ≡ false) → j < length orders → (eqb i 0 && bad_order (get_or orders j zero_order)) ≡ false → (get_or orders j zero_order).volume < 2 ^ 32
  volume-small {i = zero} {j = j} before small good = let v : (get_or orders j zero_order).volume ≤ max_volume = good-volume (get_or orders j zero_order) good in omega arith
  volume-small {i = suc i} {j = j} before small good =
      let v : (get_or orders j zero_order).volume ≤ max_volume = good-volume (get_or orders j zero_order) (none_of bad_order (get_or orders j zero_order) orders (before (omega arith)) (read orders j zero_order small)) in omega arith

  -- no order is left
  pub orders-end : {i j : ℕ} {line : Line} → length orders ≤ j → Orders orders i j line → Orders orders i (length orders) line
  orders-end {i} {j} {line} h at = let last : j ≡ length orders = omega (arith, h, at.within) in subst (λ (k : ℕ). Orders orders i k line) last at

  -- every order was added: the line is the place's
  pub line-whole : {i : ℕ} {line : Line} → Orders orders i (length orders) line → line ≡ place_line orders (get_or orders i zero_order)
  unfolding line_after
  line-whole {line = line} done = sym (ap (line_after line) (drop_of_length-le orders {i = length orders} (omega arith))) ∙ done.line-left

  -- the number of the next place goes behind those that are there
  pub set_next : (sum : Line → ℕ) (start : List ℕ) (i : ℕ) {line : Line} → i < length orders → i < length start
      → line ≡ place_line orders (get_or orders i zero_order) → set (filled_to sum orders i start) i (sum line) ≡ filled_to sum orders (i + 1) start
  unfolding filled_to
  set_next sum start i {line} small room e =
      let at : AuctionOrder → ℕ = λ o. sum (place_line orders o) in
      ap (λ l. set (map at (take i orders) ++ l) i (sum line)) (drop-next start i 0 room)
      ∙ set_at (map at (take i orders)) (get_or start i 0) (drop (i + 1) start) (sum line) i (length-map (take i orders) at ∙ length-take i orders ∙ omega (arith, small))
      ∙ sym (append_snoc (map at (take i orders)) (sum line) (drop (i + 1) start))
      ∙ ap (λ l. (map at (take i orders) ++ (sum l ∷ [])) ++ drop (i + 1) start) e
      ∙ ap (λ l. l ++ drop (i + 1) start) (sym (ap (map at) (take_next orders i zero_order small) ∙ map-append at (take i orders) (get_or orders i zero_order ∷ [])))

  -- a list of what is lent that every store gives a number of the line, and one that none changes
  module _ {S : Type 0} (store : S → ℕ → Line → S) (start : S) where
    filled : (list : S → List ℕ) (sum : Line → ℕ) → ((s : S) (i : ℕ) (line : Line) → list (store s i line) ≡ set (list s) i (sum line))
        → (i : ℕ) → i ≤ length orders → i ≤ length (list start) → list (stored_to store orders i start) ≡ filled_to sum orders i (list start)
    unfolding stored_to filled_to
    filled list sum gives zero small room = refl
    filled list sum gives (suc i) small room =
        gives (stored_to store orders i start) i (place_line orders (get_or orders i zero_order))
        ∙ ap (λ (l : List ℕ). set l i (sum (place_line orders (get_or orders i zero_order)))) (filled list sum gives i (omega arith) (omega arith))
        ∙ rw (← add-one) (set_next sum (list start) i (omega arith) (omega arith) refl)

    pub filled-whole : (list : S → List ℕ) (sum : Line → ℕ) → ((s : S) (i : ℕ) (line : Line) → list (store s i line) ≡ set (list s) i (sum line))
        → length orders ≤ length (list start) → list (stored_to store orders (length orders) start) ≡ sums_in sum orders (list start)
    unfolding filled_to sums_in
    filled-whole list sum gives room =
        filled list sum gives (length orders) (omega arith) room ∙ ap (λ os. map (λ o. sum (place_line orders o)) os ++ drop (length orders) (list start)) (take_all (length orders) orders (omega arith))

    pub stays : {A : Type 0} (part : S → A) → ((s : S) (i : ℕ) (line : Line) → part (store s i line) ≡ part s) → (i : ℕ) → part (stored_to store orders i start) ≡ part start
    unfolding stored_to
    stays part kept zero = refl
    stays part kept (suc i) = kept (stored_to store orders i start) i (place_line orders (get_or orders i zero_order)) ∙ stays part kept i

module _ {S : Type 0} (store : S → ℕ → Line → S) (places : S → ℕ) (orders : List AuctionOrder) (start : S) where
  pub stored-start : Stored store places orders start 0 start
  unfolding stored_to
  stored-start = record { so_far = refl; as_long = refl }

  -- the line of place i is stored
  pub stored-next : {i : ℕ} {line : Line} {scratch next : S} → Stored store places orders start i scratch → line ≡ place_line orders (get_or orders i zero_order) → next ≡ store scratch i line
      → ((s : S) (i : ℕ) (line : Line) → places (store s i line) ≡ places s) → Stored store places orders start (i + 1) next
  unfolding stored_to
  stored-next {i} {line} {scratch} at whole e long = record {
    so_far = e ∙ ap (λ (s : S). store s i line) at.so_far ∙ rw (add-one, whole);
    as_long = ap places e ∙ long scratch i line ∙ at.as_long;
  }

  pub stored-end : {i : ℕ} {scratch : S} → i ≡ length orders → Stored store places orders start i scratch → scratch ≡ stored_to store orders (length orders) start
  stored-end {i} {scratch} last at = at.so_far ∙ ap (λ (k : ℕ). stored_to store orders k start) last

  pub nothing-stored : {i : ℕ} {scratch : S} → i ≡ 0 → Stored store places orders start i scratch → scratch ≡ start
  unfolding stored_to
  nothing-stored first at = at.so_far ∙ rw first

none-bad-all : (orders : List AuctionOrder) → (0 < length orders → any bad_order orders ≡ false) → any bad_order orders ≡ false
unfolding any
none-bad-all [] none = refl
none-bad-all (o ∷ os) none = none (omega arith)

module _ (orders : List AuctionOrder) (reference : ℕ) where
  pub candidates-start : Candidates orders reference 0 (empty_line 0)
  candidates-start = record { within = omega arith; none-bad = λ h. absurd (omega (arith, h)); best-left = refl }

  none-bad-next : (i : ℕ) {line : Line} → (0 < i → any bad_order orders ≡ false) → Orders orders i (length orders) line → any bad_order orders ≡ false
  none-bad-next zero before done = sym (done.bad-left refl) ∙ any-end bad_order orders (length orders) (omega arith)
  none-bad-next (suc i) before done = before (omega arith)

  -- and the next place's turn begins
  pub candidates-next : {i : ℕ} {best line : Line} → Candidates orders reference i best → i < length orders
      → Orders orders i (length orders) line → Candidates orders reference (i + 1) (better_of reference line best)
  unfolding best_after
  candidates-next {i} {best} {line} at small done =
      record {
        within = omega (arith, small);
        none-bad = λ _. none-bad-next i at.none-bad done;
        best-left =
            ap (λ l. best_after reference orders (better_of reference l best) (drop (i + 1) orders)) (line-whole orders done)
            ∙ sym (ap (best_after reference orders best) (drop-next orders i zero_order small)) ∙ at.best-left;
      }

  -- every place was passed
  pub candidates-end : {i : ℕ} {best : Line} → i ≡ length orders → Candidates orders reference i best
      → (any bad_order orders ≡ false) × (best ≡ best_after reference orders (empty_line 0) orders)
  unfolding best_after
  candidates-end {i} {best} last at = (
    none-bad-all orders (λ some. at.none-bad (omega (arith, some, last))),
    sym (ap (best_after reference orders best) (drop_of_length-le orders {i = i} (omega (arith, last)))) ∙ at.best-left,
  )

-- a bad order was met, which only the first turn asks about
pub bad-met : {orders : List AuctionOrder} {i j : ℕ} {line : Line} → Orders orders i j line → j < length orders
    → (eqb i 0 && bad_order (get_or orders j zero_order)) ≡ true → (i ≡ 0) × (any bad_order orders ≡ true)
bad-met {orders} {i} {j} on small bad =
    let parts : (eqb i 0 ≡ true) × (bad_order (get_or orders j zero_order) ≡ true) = and_parts (eqb i 0) (bad_order (get_or orders j zero_order)) bad in
    let first : i ≡ 0 = eqb-true i 0 parts.0 in
    (first, sym (on.bad-left first) ∙ any_next bad_order orders j zero_order small ∙ or-first (any bad_order (drop (j + 1) orders)) parts.1)

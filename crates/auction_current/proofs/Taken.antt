-- What each way out of `take` leaves is what the contract says, where what is held fits. No memory.
-- Assumes nothing.
use mathlib.Core.Bool.{Bool, true, false, cond, ◌||◌}
use mathlib.Core.List.{List}
use mathlib.Core.Path.{◌≡◌, refl, sym, ap, ◌∙◌}
use Prim.Native.Nat.{ℕ, ◌+◌, ◌-◌, ◌<◌, ◌≤◌}
use native.Mathlib.Omega.{arith}
use lib.Dec.{eqb}
use lib.ListN.{length, get_or, take, drop, take-append-drop}
use lib.Seq.{get_or-take, length-take-le}
use borrow.Author.Tests.{le-leb, lt-leb}
use Rattle.definitions.specs.Lists.{any, first_met}
use Rattle.definitions.proofs.Lists.{any_next}
use Rattle.definitions.proofs.Rows.{any_append}
use Rattle.auction_definitions.specs.Answers.{AuctionAnswer, Refused}
use Rattle.auction_definitions.specs.declared.AuctionOrder.{AuctionOrder}
use Rattle.auction_definitions.specs.Auction.{bad_order, max_orders, refusal}
use Rattle.auction_definitions.specs.Volumes.{auction_in_one, volumes_after}
use Rattle.auction_definitions.specs.Current.{Take, Lent, call_refusal, changed, held, is_refused, lent, take_fits, zero_order}
use Rattle.auction_lines.specs.Lines.{place_refused}
use Rattle.auction_list.specs.Gaps.{gap_closed, gap_opened, zero_from}
use Rattle.auction_definitions.proofs.CurrentCalls.{fits-says}
use Rattle.auction_list.proofs.Carried.{closed-rest, length-closed, reopened}
use Rattle.auction_current.proofs.Kept.{Promised, fit-lists, kept-bad, left-refused, refused-alike, worked-done, worked-refused}

second-first : (a b c : Bool) → (a || (b || c)) ≡ (b || (a || c))
second-first true true c = refl
second-first true false c = refl
second-first false true c = refl
second-first false false c = refl

module _ (place reference : ℕ) (xs : List AuctionOrder) (n : ℕ) (vs : List ℕ) (fit : take_fits n (length xs) (length vs) ≡ true) where
  abbrev l : Lent
  l = lent xs n vs

  pub take_within : (n ≤ length xs) × (n ≤ max_orders) × (max_orders ≤ length vs)
  take_within = (fits-says (Take place) l).0 fit

  pub taken-nowhere : n ≤ place → Promised (Take place) reference l (place_refused (any bad_order (take n xs))) l
  unfolding call_refusal first_met held
  taken-nowhere far = go (any bad_order (take n xs)) refl
    where
      go : (bad : Bool) → any bad_order (take n xs) ≡ bad → Promised (Take place) reference l (place_refused bad) l
      go true bad = kept-bad (Take place) reference l fit bad
      go false good = left-refused (Take place) reference l 16 refl (rw (fit, good, le-leb n place far))

  module _ (near : place < n) where
    abbrev ys : List AuctionOrder
    ys = gap_closed place n xs

    abbrev os : List AuctionOrder
    os = changed (Take place) (held l)

    abbrev taken : AuctionOrder
    taken = get_or xs place zero_order

    taken-front : take (n - 1) ys ≡ os
    unfolding changed held
    taken-front = closed-rest place n xs near take_within.0

    pub taken-long : length ys ≡ length xs
    taken-long = length-closed place n xs near take_within.0

    taken-short : length os ≡ n - 1
    taken-short = ap length (sym taken-front) ∙ length-take-le (n - 1) ys (omega (arith, taken-long, take_within.0))

    -- the orders held are those that stay and the one that is taken out
    bad-held : any bad_order (take n xs) ≡ (bad_order taken || any bad_order os)
    unfolding changed held
    bad-held =
        let within : place < length (take n xs) = omega (arith, near, length-take-le n xs take_within.0) in
        ap (any bad_order) (sym (take-append-drop place (take n xs)))
        ∙ any_append bad_order (take place (take n xs)) (drop place (take n xs))
        ∙ ap (λ (t : Bool). any bad_order (take place (take n xs)) || t) (any_next bad_order (take n xs) place zero_order within ∙ ap (λ (o : AuctionOrder). bad_order o || any bad_order (drop (place + 1) (take n xs))) (get_or-take n xs place zero_order near))
        ∙ second-first (any bad_order (take place (take n xs))) (bad_order taken) (any bad_order (drop (place + 1) (take n xs)))
        ∙ ap (λ (t : Bool). bad_order taken || t) (sym (any_append bad_order (take place (take n xs)) (drop (place + 1) (take n xs))))

    pub taken-bad : bad_order taken ≡ true → Promised (Take place) reference l (Refused 15) l
    unfolding held
    taken-bad bad = kept-bad (Take place) reference l fit (bad-held ∙ ap (λ (t : Bool). t || any bad_order os) bad)

    taken-same : bad_order taken ≡ false → refusal os vs vs ≡ call_refusal (Take place) l
    unfolding held
    taken-same good = refused-alike (Take place) reference l fit (lt-leb n place near) (bad-held ∙ ap (λ (t : Bool). t || any bad_order os) good) (fit-lists (n - 1) os vs taken-short (omega (arith, take_within.1)) take_within.2)

    module _ (good : bad_order taken ≡ false) (r : AuctionAnswer) (zs : List AuctionOrder) (ws : List ℕ) (e : r ≡ auction_in_one (take (n - 1) ys) reference vs)
        (list : zs ≡ cond (eqb (refusal (take (n - 1) ys) vs vs) 0) (zero_from (n - 1) ys) ys) (scratch : ws ≡ volumes_after (take (n - 1) ys) vs) where
      pub taken_refused : is_refused r ≡ true → Promised (Take place) reference l r (lent (gap_opened place n taken zs) n ws)
      taken_refused = worked-refused (Take place) reference l (n - 1) ys taken-front taken-short taken-long (taken-same good) r zs ws e list scratch (gap_opened place n taken) (reopened place n xs near take_within.0)

      pub taken-done : is_refused r ≡ false → Promised (Take place) reference l r (lent zs (n - 1) ws)
      taken-done = worked-done (Take place) reference l (n - 1) ys taken-front taken-short taken-long (taken-same good) r zs ws e list scratch

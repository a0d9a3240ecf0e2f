-- Paper 02, 4: one order over two states that differ in every word but those of the header, the order's security and its desk, run on the definitions. The other
-- records of both are damaged.
use mathlib.Core.Bool.{true≢false}
use mathlib.Core.List.{List, [], ◌∷◌, map}
use mathlib.Core.Path.{◌≡◌, refl, ap}
use Prim.Native.Nat.{ℕ, ◌+◌}
use lib.Dec.{eqb}
use lib.ListN.{get_or, replicate}
use Rattle.definitions.specs.declared.Verdict.TheVariants.{RejectW, Accept}
use Rattle.definitions.specs.Lists.{put}
use Rattle.definitions.specs.Lone.{customer_words}
use Rattle.definitions.proofs.OneOrder.{AlikeFor, OnlyItsDesk}
use Rattle.definitions.proofs.Run.{result_on}
use Rattle.definitions.proofs.Corner.{Corner, Entry, found, right, refused, verdict, state, desk_at, row_at, security, free, traded, untraded, desk, main, buy, sell, limit, online, entry, bytes_of, opened, follows}

abbrev pub bought : ℕ → ℕ → Entry
bought number price = entry number 1 main buy limit online price 100

-- the middle one of three securities and of three customers; every other record filled with one word
abbrev pub among : ℕ → List ℕ
among x =
    state 5_000 2 (replicate 17 x ∷ security free (traded 0 1000 0 5025) untraded ∷ replicate 17 x ∷ [])
    (replicate 291 x ∷ desk (opened (bought 1 5000) ∷ []) ∷ replicate 291 x ∷ [])

pub alike : AlikeFor 1 1 (among 7) (among 4_294_967_295)
unfolding result_on customer_words
alike = record { one-length = refl; header = refl; security = λ _. refl; desk = λ _. refl }

abbrev pub corners : ℕ → List Corner
corners x =
    verdict (among x) (bytes_of 1 (bought 2 1000)) Accept (follows (desk_at 3 1) (row_at 3 1 1) (bought 2 1000) Accept)
    -- a verdict that the customer's own row gives
    ∷ verdict (among x) (bytes_of 1 (entry 2 1 main sell limit online 5000 100)) RejectW ((desk_at 3 1 + 2, 31 ∷ []) ∷ [])
    ∷ refused (among x) (bytes_of 1 (bought 1 5000)) 9
    -- what a neighbour holds is found by the neighbour's orders only
    ∷ refused (among x) (bytes_of 0 (bought 2 5000)) 8
    ∷ refused (among x) (bytes_of 2 (bought 2 5000)) 8
    ∷ []

pub one_right : map found (corners 7) ≡ map right (corners 7)
unfolding result_on
one_right = refl

pub other-right : map found (corners 4_294_967_295) ≡ map right (corners 4_294_967_295)
unfolding result_on
other-right = refl

-- a word of another customer's desk changed, before the order's and behind it, is not nothing
not-before : OnlyItsDesk 1 (among 7) (put (among 7) (desk_at 3 0) (8 ∷ [])) → ⊥
unfolding result_on
not-before only = true≢false (ap (λ (w : List ℕ). eqb (get_or w (desk_at 3 0) 0) 8) only.before)

not_behind : OnlyItsDesk 1 (among 7) (put (among 7) (desk_at 3 2) (8 ∷ [])) → ⊥
unfolding result_on
not_behind only = true≢false (ap (λ (w : List ℕ). eqb (get_or w 0 0) 8) only.after)

-- Every history of request 7's calls. The request speaks of one call; whoever keeps a list needs this of all of them: "after any sequence of calls the list is what the accepted calls make of it, in their order, and the last answer is the auction's of that list" (the issue of its landing).
-- Assumes nothing.
use mathlib.Core.Bool.{false}
use mathlib.Core.List.{List, [], ◌∷◌, ◌++◌}
use mathlib.Core.Path.{◌≡◌, refl, sym, ◌∙◌, ap, subst}
use Prim.Native.Nat.{ℕ, ◌≤◌}
use lib.ListN.{length, length-append}
use native.Mathlib.Omega.{arith}
use Rattle.definitions.specs.Lists.{any, keep}
use Rattle.auction_definitions.specs.declared.AuctionOrder.{AuctionOrder}
use Rattle.auction_definitions.specs.Answers.{AuctionAnswer, Price, None, Refused}
use Rattle.auction_definitions.specs.Auction.{bad_order}
use Rattle.auction_definitions.specs.Volumes.{auction_in_one}
use Rattle.auction_definitions.specs.Current.{Call, Lent, call_answer, call_refusal, changed, held, is_refused, lent_after, lent_of}
use Rattle.auction_definitions.proofs.CallHistory.{History, ran, Done, done_at, done, accepted, made}
use Rattle.auction_definitions.proofs.CurrentCalls.{Accepted, HoldsBad, changed-good, changed-most, changed-places, either_way, held-bad, same-made, says-not}
use Rattle.auction_definitions.proofs.CurrentPromises.{answer-afresh, answered, count_held, held_after, left, list-as-long, refused-equal, refused-with, scratch-as-long}

cons-some : {d : Done} {ds : List Done} → d ∷ ds ≡ [] → ⊥
cons-some e = omega (arith, ap length e)

no-refusal : (a : AuctionAnswer) → ((n : ℕ) → a ≡ Refused n → ⊥) → is_refused a ≡ false
no-refusal (Price p v) none = refl
no-refusal None none = refl
no-refusal (Refused n) none = absurd (none n refl)

-- a call that is not refused is the first of the accepted ones,
first-accepted : (l : Lent) (c : Call × ℕ) (cs : History) → Accepted c.0 l → accepted l (c ∷ cs) ≡ done_at l c ∷ accepted (lent_after c.0 l) cs
unfolding accepted done keep
first-accepted l c cs e = rw (no-refusal (call_answer c.0 c.1 l) ((answered c.0 l c.1).0 e))

-- and one that is refused changes nothing
refused-left-out : (l : Lent) (c : Call × ℕ) (cs : History) → (Accepted c.0 l → ⊥) → accepted l (c ∷ cs) ≡ accepted l cs
unfolding accepted done keep
refused-left-out l c cs some = rw ((refused-with c.0 l c.1 (call_refusal c.0 l)).1 (refl, some), refused-equal c.0 l some)

refused-ran : (l : Lent) (c : Call × ℕ) (cs : History) → (Accepted c.0 l → ⊥) → ran l (c ∷ cs) ≡ ran l cs
unfolding ran
refused-ran l c cs some = rw (refused-equal c.0 l some)

-- "after any sequence of calls the list is what the accepted calls make of it, in their order,
pub list-made : (l : Lent) (history : History) → held (ran l history) ≡ made (accepted l history) (held l)
unfolding ran accepted done keep made
list-made l [] = refl
list-made l (c ∷ cs) =
    either_way c.0 l
    (λ e. list-made (lent_after c.0 l) cs ∙ ap (made (accepted (lent_after c.0 l) cs)) (held_after c.0 l e) ∙ sym (ap (λ (ds : List Done). made ds (held l)) (first-accepted l c cs e)))
    (λ some. ap held (refused-ran l c cs some) ∙ list-made l cs ∙ sym (ap (λ (ds : List Done). made ds (held l)) (refused-left-out l c cs some)))

-- where no call is accepted nothing changes
pub none-accepted : (l : Lent) (history : History) → accepted l history ≡ [] → ran l history ≡ l
unfolding ran
none-accepted l [] none = refl
none-accepted l (c ∷ cs) none =
    either_way c.0 l (λ e. absurd (cons-some (sym (first-accepted l c cs e) ∙ none))) (λ some. refused-ran l c cs some ∙ none-accepted l cs (sym (refused-left-out l c cs some) ∙ none))

-- what the last of the accepted calls was answered, and what it left, stand at the end
abbrev LastStands : Lent → Done → Lent → Type 0
LastStands l d end =
    ((volumes : List ℕ) → 1_024 ≤ length volumes → d.answer ≡ auction_in_one (held end) d.reference volumes) × (end ≡ lent_of (length l.orders) (held end) l.volumes)

one-stands : (l : Lent) (c : Call × ℕ) → Accepted c.0 l → LastStands l (done_at l c) (lent_after c.0 l)
one-stands l c e =
    (answer-afresh c.0 l e c.1, left c.0 l e ∙ ap (λ (os : List AuctionOrder). lent_of (length l.orders) os l.volumes) (sym (held_after c.0 l e)))

only-or-later : {A : Type 0} {x d : Done} {rest : List Done} (ds : List Done) → x ∷ rest ≡ ds ++ (d ∷ []) → (x ≡ d → rest ≡ [] → A) → ((es : List Done) → rest ≡ es ++ (d ∷ []) → A) → A
only-or-later [] e only later = only (cc) (cc)
only-or-later (y ∷ es) e only later = later es (cc)

stands : (l : Lent) (history : History) (ds : List Done) (d : Done) → accepted l history ≡ ds ++ (d ∷ []) → LastStands l d (ran l history)
unfolding ran accepted done keep
stands l [] ds d e = absurd (omega (arith, ap length e, length-append ds (d ∷ [])))
stands l (c ∷ cs) ds d e =
    either_way c.0 l
    (λ done. only-or-later ds (sym (first-accepted l c cs done) ∙ e)
    (λ only nothing. subst (λ (x : Done). LastStands l x (ran (lent_after c.0 l) cs)) only (subst (LastStands l (done_at l c)) (sym (none-accepted (lent_after c.0 l) cs nothing)) (one-stands l c done)))
    (λ es later. let rest = stands (lent_after c.0 l) cs es d later in
    (rest.0, rest.1 ∙ same-made (held (ran (lent_after c.0 l) cs)) (lent_after c.0 l).volumes l.volumes (list-as-long c.0 l) (scratch-as-long c.0 l))))
    (λ some. subst (LastStands l d) (sym (refused-ran l c cs some)) (stands l cs ds d (sym (refused-left-out l c cs some) ∙ e)))

-- and the last answer is the auction's of that list": d is the last call accepted, its answer is what request 6 gives for the orders held at the end, with d's reference and any scratch list
module _ (l : Lent) (history : History) (ds : List Done) (d : Done) (last : accepted l history ≡ ds ++ (d ∷ [])) where
  pub last-answer : (volumes : List ℕ) → 1_024 ≤ length volumes → d.answer ≡ auction_in_one (held (ran l history)) d.reference volumes
  last-answer = (stands l history ds d last).0

  -- list, count and scratch list are then those of these orders
  pub left-last : ran l history ≡ lent_of (length l.orders) (held (ran l history)) l.volumes
  left-last = (stands l history ds d last).1

-- the count is at most 1,024 and the list's length, and no order held is bad
pub record Sound (l : Lent) : Type 0 where
  pub most : l.count ≤ 1_024
  pub places : l.count ≤ length l.orders
  pub good : HoldsBad l → ⊥

-- every call not refused leaves it so,
pub leaves-sound : (c : Call) (l : Lent) → Accepted c l → Sound (lent_after c l)
leaves-sound c l e =
    let size : (lent_after c l).count ≡ length (changed c (held l)) = count_held c l e ∙ ap length (held_after c l e) in
    let fit : (lent_after c l).count ≤ length (lent_after c l).orders = omega (arith, size, changed-places c l e, list-as-long c l) in
    let good = (says-not (any bad_order (held (lent_after c l))) (held-bad (lent_after c l) fit)).0 (ap (any bad_order) (held_after c l e) ∙ changed-good c l e) in
    record { most = omega (arith, size, changed-most c l e); places = fit; good = good }

pub stays-sound : (c : Call) (l : Lent) → Sound l → Sound (lent_after c l)
stays-sound c l sound = either_way c l (leaves-sound c l) (λ some. rw (refused-equal c l some) sound)

-- and every history keeps it so
pub sound-after : (l : Lent) (history : History) → Sound l → Sound (ran l history)
unfolding ran
sound-after l [] sound = sound
sound-after l (c ∷ cs) sound = sound-after (lent_after c.0 l) cs (stays-sound c.0 l sound)

-- an empty list is so, whatever stands in it
pub from_empty : (l : Lent) (history : History) → l.count ≡ 0 → Sound (ran l history)
from_empty l history none =
    sound-after l history (record { most = omega (arith, none); places = omega (arith, none); good = λ its. omega (arith, none, its.1) })

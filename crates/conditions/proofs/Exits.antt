-- The exits of `first_refusal`: the condition of a list that is met first, shown condition by condition.
-- Assumes nothing.
use mathlib.Core.Bool.{Bool, true, false, cond, not, ◌&&◌, ◌||◌}
use mathlib.Core.List.{List, [], ◌∷◌, ◌++◌}
use mathlib.Core.Path.{◌≡◌, refl, ap, sym, ◌∙◌}
use Prim.Native.Nat.{ℕ, ◌<◌, ◌≤◌, ◌+◌}
use lib.Dec.{leb}
use lib.ListN.{length}
use borrow.Author.Tests.{leb-false}
use Rattle.definitions.specs.declared.Header.{Header}
use Rattle.definitions.specs.declared.Event.{Event}
use Rattle.definitions.specs.Lists.{first_met}
use Rattle.definitions.specs.State.{header_of, state_fits, security_size, desk_size, security_place, desk_place}
use Rattle.definitions.specs.Refusals.{early_conditions}
use Rattle.definitions.specs.Gate.{records_sound}
use Rattle.definitions.proofs.Tests.{or_parts}
use Rattle.state.proofs.Fits.{fits-security, fits-desk}
use Rattle.kind_contract.specs.First.{first_refusal}

pub data First : List (ℕ × Bool) → ℕ → Type 0 where
  none : First [] 0
  here : {n : ℕ} {t : Bool} {cs : List (ℕ × Bool)} → t ≡ true → First ((n, t) ∷ cs) n
  below : {m n : ℕ} {t : Bool} {cs : List (ℕ × Bool)} → t ≡ false → First cs m → First ((n, t) ∷ cs) m

first-met : {cs : List (ℕ × Bool)} {n : ℕ} → First cs n → n ≡ first_met cs
unfolding first_met
first-met none = refl
first-met (here met) = rw met
first-met (below unmet rest) = rw unmet (first-met rest)

-- what `if_met` gives for the last condition that a kind asks
pub decided : {n r : ℕ} {t : Bool} {cs : List (ℕ × Bool)} → r ≡ cond t n 0 → First cs 0 → First ((n, t) ∷ cs) r
decided {n} {r} {t} {cs} er rest = go t er
  where
    go : (t : Bool) → r ≡ cond t n 0 → First ((n, t) ∷ cs) r
    go true e = rw e (here refl)
    go false e = rw e (below refl rest)

-- 8, where a call has told whether the records are sound
pub by-records : {r : ℕ} {t u : Bool} → t ≡ u → r ≡ cond (not t) 8 0 → First ((8, not u) ∷ []) r
by-records e er = decided (er ∙ ap (λ (b : Bool). cond (not b) 8 0) e) none

pub both : {t a u b : Bool} → t ≡ a → u ≡ b → (t && u) ≡ (a && b)
both p q = rw (p, q)

-- a call has told of a test what its negation asks
pub asked : {t u b : Bool} → t ≡ u → t ≡ b → not u ≡ not b
asked e n = ap not (sym e ∙ n)

module _ (w : List ℕ) {h : Header} (eh : h ≡ header_of w) where
  pub found : {e f : Event} {n : ℕ} → e ≡ f → First (early_conditions h f ++ ((8, not (records_sound w f)) ∷ [])) n → n ≡ first_refusal w e
  unfolding first_refusal
  found {f = f} ef first =
      first-met first ∙ ap (λ (k : Header). first_met (early_conditions k f ++ ((8, not (records_sound w f)) ∷ []))) eh ∙ ap (first_refusal w) (sym ef)

  pub security-stands : state_fits w ≡ true → {s : ℕ} → s < h.securities → security_place s + security_size ≤ length w
  security-stands fits {s} there = fits-security w fits s (rw eh at there)

  pub desk-stands : state_fits w ≡ true → {k : ℕ} → k < h.customers → desk_place (header_of w).securities k + desk_size ≤ length w
  desk-stands fits {k} there = fits-desk w fits k (rw eh at there)

  -- an order's two records
  pub both-stand : state_fits w ≡ true → (k s : ℕ) → (leb h.customers k || leb h.securities s) ≡ false
      → (desk_place (header_of w).securities k + desk_size ≤ length w) × (security_place s + security_size ≤ length w)
  both-stand fits k s there =
      let parts = or_parts (leb h.customers k) (leb h.securities s) there in
      (desk-stands fits (leb-false h.customers k parts.0), security-stands fits (leb-false h.securities s parts.1))

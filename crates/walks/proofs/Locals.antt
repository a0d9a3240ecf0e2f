-- The locals of a function whose MIR is walked by hand, all at once: `Types/Run.antt`'s `alloc1`, `forget` and `free1` for a list of them.
--     empty, full      a local before what is stored and after
--     rooms E, dies E      room for each local of E; that each dies.        unused k E       room for those from k on, and that each of all dies
--     makes            the locals are made, and stand behind what there is on entry
--     returns-from     the result is read, and the locals, which stand from the place k on, are freed, whatever they hold
-- Assumes `Logic`.
use mathlib.Core.Path.{◌≡◌, subst}
use Prim.Native.Nat.{ℕ, zero, suc}
use mathlib.Core.List.{List, [], ◌∷◌, ◌++◌}
use seplogic.Ra.Ura.{Ura}
use base.Fraction.{full_share}
use mir.Syntax.{Ty, Local, local, return}
use mir.Val.{Val}
use base.Logic.{SProp, ent, sep, id⊢, via, comm∗, mono_r}
use base.Fml.{fat, froom, fdies}
use prog.Wp.{Heap, Env, Calls, Loops, spot_of, returns as returnsᴼ, at_return}
use types.Logic.{Logic}
use types.Kit.{Item, ‵, mean, ⋆, push, pop, sel⊢, ++⊢, ⊢++, Post, post, Goal, prop, runs, allocs, frees, Seq, Step, step, ◌$◌}
use types.Run.{Reads, returns_within, alloc1, alloc0, free1, free0}
use Rattle.walks.proofs.Cells.{emptied, empties}

-- the first k entries, and those behind them
module _ {ℓ} {X : Type ℓ} where
  abbrev pub front : ℕ → List X → List X
  front k [] = []
  front zero (i ∷ Γ) = []
  front (suc k) (i ∷ Γ) = i ∷ front k Γ

  abbrev pub behind : ℕ → List X → List X
  behind k [] = []
  behind zero (i ∷ Γ) = i ∷ Γ
  behind (suc k) (i ∷ Γ) = behind k Γ

module _ {M : Type 1} {𝓤 : Ura M} where
  abbrev pub empty : Ty → ℕ → Item 𝓤
  empty τ l = ‵ (froom τ l 0)

  abbrev pub full : Ty → ℕ → Val → Item 𝓤
  full τ l v = ‵ (fat full_share τ l 0 v)

module _ {M : Type 1} (𝓤 : Ura M) (H : Heap 𝓤) where
  abbrev pub rooms : Env 𝓤 H → List (Item 𝓤)
  rooms [] = []
  rooms (e ∷ E) = empty e.0 e.1 ∷ rooms E

  abbrev pub dies : Env 𝓤 H → List (Item 𝓤)
  dies [] = []
  dies (e ∷ E) = ‵ (fdies e.0 e.1) ∷ dies E

  abbrev pub unused : ℕ → Env 𝓤 H → List (Item 𝓤)
  unused k E = rooms (behind k E) ++ dies E

  -- for each choice of where the locals stand
  abbrev pub Wherever : List Local → (Env 𝓤 H → Type 1) → Type 1
  Wherever [] F = F []
  Wherever (local τ h ∷ ls) F = (b : ℕ) → Wherever ls (λ E. F ((τ, b) ∷ E))

  wherever : (ls : List Local) {F G : Env 𝓤 H → Type 1} → ((E : Env 𝓤 H) → F E → G E) → Wherever ls F → Wherever ls G
  wherever [] f k = f [] k
  wherever (local τ h ∷ ls) f k = λ b. wherever ls (λ E. f ((τ, b) ∷ E)) (k b)

-- one context entails another
pub record Entails {M : Type 1} {𝓤 : Ura M} (𝓛 : Logic 𝓤) (Γ Δ : List (Item 𝓤)) : Type 1 where
  pub holds : ent 𝓤 (⋆ 𝓛 Γ) (⋆ 𝓛 Δ)

module _ {M : Type 1} {𝓤 : Ura M} {𝓛 : Logic 𝓤} where
  open 𝓛 use {H}

  so : {Γ : List (Item 𝓤)} → Entails 𝓛 Γ Γ
  so {Γ} = record { holds = id⊢ 𝓤 (⋆ 𝓛 Γ) }

  infixr 5 ◌and◌
  ◌and◌ : {Γ Δ Θ : List (Item 𝓤)} → Entails 𝓛 Γ Δ → Entails 𝓛 Δ Θ → Entails 𝓛 Γ Θ
  ◌and◌ {Γ} {Δ} {Θ} f g = record { holds = via 𝓤 (⋆ 𝓛 Δ) f.holds g.holds }

  under : {i : Item 𝓤} {Γ Δ : List (Item 𝓤)} → Entails 𝓛 Γ Δ → Entails 𝓛 (i ∷ Γ) (i ∷ Δ)
  under {i} {Γ} {Δ} f = record { holds = via 𝓤 (sep 𝓤 (mean 𝓛 i) (⋆ 𝓛 Γ)) (pop 𝓛 i Γ) (via 𝓤 (sep 𝓤 (mean 𝓛 i) (⋆ 𝓛 Δ)) (mono_r 𝓤 (mean 𝓛 i) f.holds) (push 𝓛 i Δ)) }

  beneath : (Θ : List (Item 𝓤)) {Γ Δ : List (Item 𝓤)} → Entails 𝓛 Γ Δ → Entails 𝓛 (Θ ++ Γ) (Θ ++ Δ)
  beneath [] f = f
  beneath (i ∷ Θ) f = under (beneath Θ f)

  forward : (Θ : List (Item 𝓤)) (i : Item 𝓤) (Γ : List (Item 𝓤)) → Entails 𝓛 (Θ ++ (i ∷ Γ)) (i ∷ (Θ ++ Γ))
  forward [] i Γ = so
  forward (j ∷ Θ) i Γ = under (forward Θ i Γ) and record { holds = sel⊢ 𝓛 (1 ∷ []) (j ∷ i ∷ (Θ ++ Γ)) }

  parted : (k : ℕ) (Γ : List (Item 𝓤)) → Entails 𝓛 Γ (front k Γ ++ behind k Γ)
  parted k [] = so
  parted zero (i ∷ Γ) = so
  parted (suc k) (i ∷ Γ) = under (parted k Γ)

  swapped : (Θ Γ : List (Item 𝓤)) → Entails 𝓛 (Θ ++ Γ) (Γ ++ Θ)
  swapped Θ Γ = record { holds = via 𝓤 (sep 𝓤 (⋆ 𝓛 Θ) (⋆ 𝓛 Γ)) (⊢++ 𝓛 Θ Γ) (via 𝓤 (sep 𝓤 (⋆ 𝓛 Γ) (⋆ 𝓛 Θ)) (comm∗ 𝓤 (⋆ 𝓛 Θ) (⋆ 𝓛 Γ)) (++⊢ 𝓛 Γ Θ)) }

  regrouped : (Θ Δ Γ : List (Item 𝓤)) → Entails 𝓛 ((Θ ++ Δ) ++ Γ) (Θ ++ (Δ ++ Γ))
  regrouped [] Δ Γ = so
  regrouped (i ∷ Θ) Δ Γ = under (regrouped Θ Δ Γ)

  grouped : (Θ Δ Γ : List (Item 𝓤)) → Entails 𝓛 (Θ ++ (Δ ++ Γ)) ((Θ ++ Δ) ++ Γ)
  grouped [] Δ Γ = so
  grouped (i ∷ Θ) Δ Γ = under (grouped Θ Δ Γ)

  all-rooms : (E : Env 𝓤 H) → Entails 𝓛 (rooms 𝓤 H E ++ dies 𝓤 H E) (unused 𝓤 H 0 E)
  all-rooms [] = so
  all-rooms (e ∷ E) = so

module _ {M : Type 1} {𝓤 : Ura M} {𝓛 : Logic 𝓤} {K : Type 0} where
  open 𝓛 use {H}

  rests : {Γ Δ : List (Item 𝓤)} {G : Goal 𝓤 H} → Entails 𝓛 Γ Δ → Step K 𝓛 Δ G Γ G
  rests {Γ} {Δ} f = step (λ s. record { prf = via 𝓤 (⋆ 𝓛 Δ) f.holds s.prf })

  makes-each : K → (Γ : List (Item 𝓤)) (ls : List Local) (Kt : Env 𝓤 H → Goal 𝓤 H) → Wherever 𝓤 H ls (λ E. Seq K 𝓛 (rooms 𝓤 H E ++ (dies 𝓤 H E ++ Γ)) (Kt E)) → Seq K 𝓛 Γ (allocs ls Kt)
  makes-each t Γ [] Kt k = alloc0 t $ k
  makes-each t Γ (local τ h ∷ ls) Kt k = alloc1 t (λ b. makes-each t (‵ (froom τ b 0) ∷ ‵ (fdies τ b) ∷ Γ) ls (λ E. Kt ((τ, b) ∷ E)) (wherever 𝓤 H ls (λ E s.
      rests (beneath (rooms 𝓤 H E) (forward (dies 𝓤 H E) (‵ (froom τ b 0)) (‵ (fdies τ b) ∷ Γ) and under (forward (dies 𝓤 H E) (‵ (fdies τ b)) Γ)) and forward (rooms 𝓤 H E) (‵ (froom τ b 0)) (‵ (fdies τ b) ∷ (dies 𝓤 H E ++ Γ))) $ s) (k b)))

  pub makes : K → {Γ : List (Item 𝓤)} {ls : List Local} {Kt : Env 𝓤 H → Goal 𝓤 H} → Wherever 𝓤 H ls (λ E. Seq K 𝓛 (Γ ++ unused 𝓤 H 0 E) (Kt E)) → Seq K 𝓛 Γ (allocs ls Kt)
  makes t {Γ} {ls} {Kt} k = makes-each t Γ ls Kt (wherever 𝓤 H ls (λ E s. rests (grouped (rooms 𝓤 H E) (dies 𝓤 H E) Γ and swapped (rooms 𝓤 H E ++ dies 𝓤 H E) Γ and beneath Γ (all-rooms E)) $ s) k)

  frees_each : K → (E : Env 𝓤 H) (Γ : List (Item 𝓤)) (g : Goal 𝓤 H) → Step K 𝓛 Γ g (rooms 𝓤 H E ++ (dies 𝓤 H E ++ Γ)) (frees E g)
  frees_each t [] Γ g = free0 t
  frees_each t (e ∷ E) Γ g = step (λ s. rests (under (forward (rooms 𝓤 H E) (‵ (fdies e.0 e.1)) (dies 𝓤 H E ++ Γ))) $ free1 t $ frees_each t E Γ g $ s)

  frees-from : K → (k : ℕ) (Γ : List (Item 𝓤)) (E : Env 𝓤 H) (g : Goal 𝓤 H) → emptied 𝓛 (behind k Γ) ≡ rooms 𝓤 H E ++ dies 𝓤 H E → Step K 𝓛 (front k Γ) g Γ (frees E g)
  frees-from t k Γ E g e = step (λ s.
      rests (parted k Γ and beneath (front k Γ) (subst (λ (Δ : List (Item 𝓤)). Entails 𝓛 (behind k Γ) Δ) e (record { holds = empties 𝓛 (behind k Γ) })) and swapped (front k Γ) (rooms 𝓤 H E ++ dies 𝓤 H E) and regrouped (rooms 𝓤 H E) (dies 𝓤 H E) (front k Γ)) $
      frees_each t E (front k Γ) g $ s)

  pub returns-from : K → (k : ℕ) {Γ : List (Item 𝓤)} {E : Env 𝓤 H} {C : Calls 𝓤 H} {Λ : Loops 𝓤 H} {q : Post 𝓤 H} (Kf : Val → SProp 𝓤) {r : Val} → post 𝓤 H q returnsᴼ ≡ at_return 𝓤 H E Kf returnsᴼ
      → Reads K 𝓛 Γ (spot_of 𝓤 H E zero).0 (spot_of 𝓤 H E zero).1 zero r → emptied 𝓛 (behind k Γ) ≡ rooms 𝓤 H E ++ dies 𝓤 H E → Step K 𝓛 (front k Γ) (prop (Kf r)) Γ (runs C Λ E return q)
  returns-from t k {Γ} {E} Kf {r} to reads e = step (λ s. returns_within t Kf to reads $ frees-from t k Γ E (prop (Kf r)) e $ s)

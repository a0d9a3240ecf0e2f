-- A `while` whose turns a number counts down.
--     Fewer left       there is less left.        After left I q t      what a turn from the state t is to end in, where I is what holds before each and q what is to hold behind the loop
--     whiles           the loop runs, if each turn does.        Then C Λ E b K       what is to hold behind a loop that b follows, in a function whose result is to meet K
--     tests            its test, of two numbers that locals hold: the turn goes on below the second, and ends the loop from there on
-- Assumes `Logic`, and a `Tables`, whose table of loops is closed under a turn.
use Prim.Native.Nat.{ℕ, ◌<◌, ◌≤◌}
use mathlib.Core.List.{List, []}
use lib.Dec.{ltb, ltb→lt, nltb→le}
use mathlib.Core.WellFounded.InvImage
use lib.WfN.{lt-wf_rel}
use seplogic.Ra.Ura.{Ura}
use mir.Syntax.{w64, unsigned, lt, op2, place, copy, Body, skip, seq, assign, cond, block, loop, exit}
use mir.Val.{Val, vint, vbool}
use base.Logic.{SProp}
use prog.Wp.{Heap, Env, Calls, Loops, Tables, Wp, exits, spot_of, at_return, after_seq, after_block, after_turn}
use types.Logic.{Logic}
use types.Kit.{Item, Post, post, any_q, prop, runs, Seq, ◌$◌}
use types.Run.{Below, Reads, Writes, stop, from, load, bin, assigns, first, skips, jumps, branches, blocks, loops}

abbrev pub Fewer : {X : Type 0} → (X → ℕ) → X → X → Type 0
Fewer left t u = left t < left u

abbrev pub After : {M : Type 1} {𝓤 : Ura M} (𝓛 : Logic 𝓤) {X : Type 0} → (X → ℕ) → (X → List (Item 𝓤)) → Post 𝓤 𝓛.H → X → Post 𝓤 𝓛.H
After {𝓤 = 𝓤} 𝓛 left I q t = any_q (after_turn 𝓤 𝓛.H (Below 𝓛 (Fewer left) I t) (after_block 𝓤 𝓛.H (post 𝓤 𝓛.H q)))

abbrev pub Then : {M : Type 1} (𝓤 : Ura M) (H : Heap 𝓤) (C : Calls 𝓤 H) (Λ : Loops 𝓤 H) (E : Env 𝓤 H) → Body → (Val → SProp 𝓤) → Post 𝓤 H
Then 𝓤 H C Λ E b K = any_q (after_seq 𝓤 H (Wp 𝓤 H C Λ E b (at_return 𝓤 H E K)) (at_return 𝓤 H E K))

pub whiles : {M : Type 1} {𝓤 : Ura M} {𝓛 : Logic 𝓤} {K : Type 0} {X : Type 0} → K → (𝓣 : Tables 𝓤 𝓛.H) (left : X → ℕ) (I : X → List (Item 𝓤)) {E : Env 𝓤 𝓛.H} {b : Body} {q : Post 𝓤 𝓛.H}
    → ((t : X) → Seq K 𝓛 (I t) (runs 𝓣.C 𝓣.Λ E b (After 𝓛 left I q t))) → (t : X) → Seq K 𝓛 (I t) (runs 𝓣.C 𝓣.Λ E (block (loop b)) q)
whiles k 𝓣 left I turn t = blocks k $ loops k 𝓣 (Fewer left) (InvImage.wf left lt-wf_rel.wf) I turn t

module _ {M : Type 1} {𝓤 : Ura M} {𝓛 : Logic 𝓤} {K : Type 0} {Γ Γ₁ : List (Item 𝓤)} {E : Env 𝓤 𝓛.H} {C : Calls 𝓤 𝓛.H} {Λ : Loops 𝓤 𝓛.H} {q : Post 𝓤 𝓛.H} where
  open 𝓛 use {H}

  pub tests : K → {x y t k i n : ℕ} {rest : Body} → Reads K 𝓛 Γ (spot_of 𝓤 H E x).0 (spot_of 𝓤 H E x).1 (spot_of 𝓤 H E x).2 (vint w64 i) → Reads K 𝓛 Γ (spot_of 𝓤 H E y).0 (spot_of 𝓤 H E y).1 (spot_of 𝓤 H E y).2 (vint w64 n)
      → Writes K 𝓛 Γ (spot_of 𝓤 H E t).0 (spot_of 𝓤 H E t).1 (spot_of 𝓤 H E t).2 (vbool (ltb i n)) Γ₁ → Reads K 𝓛 Γ₁ (spot_of 𝓤 H E t).0 (spot_of 𝓤 H E t).1 (spot_of 𝓤 H E t).2 (vbool (ltb i n))
      → (i < n → Seq K 𝓛 Γ₁ (runs C Λ E rest q)) → (n ≤ i → Seq K 𝓛 Γ₁ (prop (post 𝓤 H q (exits k))))
      → Seq K 𝓛 Γ (runs C Λ E (seq (assign (place t []) (op2 (lt unsigned) (copy (place x [])) (copy (place y [])))) (seq (cond (copy (place t [])) skip (exit k)) rest)) q)
  tests o {i = i} {n = n} first-number second to-test test below from-there =
      assigns o (bin o (load o (from o (stop o)) first-number) (load o (from o (stop o)) second) tt) (from o (stop o)) to-test $ first o $ branches o (load o (from o (stop o)) test)
      (λ h. skips o $ record { prf = (below (ltb→lt i n h)).prf }) (λ h. jumps o $ record { prf = (from-there (nltb→le i n h)).prf })

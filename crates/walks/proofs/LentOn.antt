-- A slice that a local holds is lent on, `&mut *s` or `&mut s[..]`, in a walk: its pointer is taken into one local, and pointer and length are put together in another.
--     lends-on     given how the slice's pointer is read, where it goes, how it and the length are read, and where the new slice goes
-- Assumes `Logic`.
use denote.Slice.{shr_slice_at}
use mathlib.Core.Path.{◌≡◌}
use mathlib.Core.Option.{some}
use Prim.Native.Nat.{ℕ, ◌+◌}
use mathlib.Core.List.{List, [], ◌∷◌}
use seplogic.Ra.Ura.{Ura}
use mir.Syntax.{w64, place, field, deref, copy, addr_of, aggregate, Ty, Body, seq, assign, Opd as Operand}
use mir.Val.{vint, vptr}
use prog.Memory.{field_of}
use prog.Wp.{Env, Calls, Loops, spot_of}
use types.Logic.{Logic}
use types.Kit.{Item, Post, runs, Step, step, ◌$◌}
use types.Part.{agg}
use types.Run.{Reads, Writes, Opd, stop, hop, fld, from, load, addr, and_then, no_more, assigns}
use denote.Slice.{slice_val}

module _ {M : Type 1} {𝓤 : Ura M} {𝓛 : Logic 𝓤} {K : Type 0} {Γ Γ₁ Γ₂ : List (Item 𝓤)} {E : Env 𝓤 𝓛.H} {C : Calls 𝓤 𝓛.H} {Λ : Loops 𝓤 𝓛.H} {q : Post 𝓤 𝓛.H} where
  open 𝓛 use {H}

  pub lends-on : K → {y t p : ℕ} {σ : Ty} {x : Operand} {rest : Body} {b o n d : ℕ} {τ : Ty} → field_of (spot_of 𝓤 H E y).0 0 ≡ some (τ, d)
      → Reads K 𝓛 Γ τ (spot_of 𝓤 H E y).1 ((spot_of 𝓤 H E y).2 + d) (vptr b o) → Writes K 𝓛 Γ (spot_of 𝓤 H E t).0 (spot_of 𝓤 H E t).1 (spot_of 𝓤 H E t).2 (vptr b o) Γ₁
      → Reads K 𝓛 Γ₁ (spot_of 𝓤 H E t).0 (spot_of 𝓤 H E t).1 (spot_of 𝓤 H E t).2 (vptr b o) → Opd K 𝓛 Γ₁ E x (vint w64 n) → Writes K 𝓛 Γ₁ (spot_of 𝓤 H E p).0 (spot_of 𝓤 H E p).1 (spot_of 𝓤 H E p).2 (slice_val (b, o) n) Γ₂
      → Step K 𝓛 Γ₂ (runs C Λ E rest q) Γ (runs C Λ E (seq (assign (place t []) (addr_of (place y (field 0 ∷ deref σ ∷ [])))) (seq (assign (place p []) (aggregate (copy (place t []) ∷ x ∷ []))) rest)) q)
  lends-on k shr_slice_at slice to-pointer pointer long to-slice = step (λ rest.
      assigns k (addr k (from k (fld k shr_slice_at (hop k slice (stop k))))) (from k (stop k)) to-pointer $
      assigns k (agg k (and_then k (load k (from k (stop k)) pointer) (and_then k long (no_more k)))) (from k (stop k)) to-slice $ rest)

-- Where an element of a slice lies, in a walk: its offset is worked out into one local and the pointer into another, from the index and the slice, which locals hold.
--     reaches      given how the index is read, where the offset goes, how the slice's pointer and the offset are read, and where the pointer goes
-- Assumes `Logic`.
use denote.Slice.{shr_slice_at}
use mathlib.Core.Path.{◌≡◌, subst}
use mathlib.Core.Option.{some}
use Prim.Native.Nat.{ℕ, ◌+◌, ◌*◌, ◌<◌, ◌^◌}
use mathlib.Core.List.{List, [], ◌∷◌}
use lib.Dec.{T, ltb}
use seplogic.Ra.Ura.{Ura}
use mir.Syntax.{w64, unsigned, mul, offset, op2, place, field, copy, int, Ty, Body, seq, assign}
use mir.Val.{vint, vptr}
use prog.Memory.{field_of}
use prog.Wp.{Env, Calls, Loops, spot_of}
use types.Logic.{Logic}
use types.Kit.{Item, Post, runs, Step, step, ◌$◌}
use types.Run.{Reads, Writes, stop, fld, from, load, lit, bin, assigns}
use denote.Index.{place_is}
use denote.Index as Index

module _ {M : Type 1} {𝓤 : Ura M} {𝓛 : Logic 𝓤} {K : Type 0} {Γ Γ₁ Γ₂ : List (Item 𝓤)} {E : Env 𝓤 𝓛.H} {C : Calls 𝓤 𝓛.H} {Λ : Loops 𝓤 𝓛.H} {q : Post 𝓤 𝓛.H} where
  open 𝓛 use {H}

  pub reaches : K → {s x y t p : ℕ} {rest : Body} {i b o d : ℕ} {τ : Ty} → T (ltb s (2 ^ 64)) → i * s < 2 ^ 64 → field_of (spot_of 𝓤 H E y).0 0 ≡ some (τ, d)
      → Reads K 𝓛 Γ (spot_of 𝓤 H E x).0 (spot_of 𝓤 H E x).1 (spot_of 𝓤 H E x).2 (vint w64 i) → Writes K 𝓛 Γ (spot_of 𝓤 H E t).0 (spot_of 𝓤 H E t).1 (spot_of 𝓤 H E t).2 (vint w64 (i * s)) Γ₁
      → Reads K 𝓛 Γ₁ τ (spot_of 𝓤 H E y).1 ((spot_of 𝓤 H E y).2 + d) (vptr b o) → Reads K 𝓛 Γ₁ (spot_of 𝓤 H E t).0 (spot_of 𝓤 H E t).1 (spot_of 𝓤 H E t).2 (vint w64 (i * s))
      → Writes K 𝓛 Γ₁ (spot_of 𝓤 H E p).0 (spot_of 𝓤 H E p).1 (spot_of 𝓤 H E p).2 (vptr b (Index.place s o i)) Γ₂
      → Step K 𝓛 Γ₂ (runs C Λ E rest q) Γ (runs C Λ E (seq (assign (place t []) (op2 (mul unsigned) (copy (place x [])) (int w64 s))) (seq (assign (place p []) (op2 offset (copy (place y (field 0 ∷ []))) (copy (place t [])))) rest)) q)
  reaches k {s} {p = p} {i = i} {b = b} {o = o} small far shr_slice_at index to-offset slice offset_at to-pointer = step (λ rest.
      assigns k (bin k (load k (from k (stop k)) index) (lit k small) (record { fits = far })) (from k (stop k)) to-offset $
      assigns k (bin k (load k (from k (fld k shr_slice_at (stop k))) slice) (load k (from k (stop k)) offset_at) tt) (from k (stop k))
      (subst (λ (z : ℕ). Writes K 𝓛 Γ₁ (spot_of 𝓤 H E p).0 (spot_of 𝓤 H E p).1 (spot_of 𝓤 H E p).2 (vptr b z) Γ₂) (place_is s o i) to-pointer) $ rest)

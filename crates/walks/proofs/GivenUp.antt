-- A `&κ mut [T]` that a function still owns is given up: what is left says how it ends, which is as it is.
-- Assumes `Logic`.
use Prim.Native.Nat.{ℕ}
use mathlib.Core.List.{List, [], ◌∷◌}
use seplogic.Ra.Ura.{Ura}
use mir.Syntax.{Lifetime}
use base.Logic.{ent}
use base.Fml.{Lft, fres}
use types.Logic.{Logic, sem}
use types.Kit.{‵, ◌$◌, ◌∵◌, !, qed, move, drop, use1, fsplit, done}
use denote.RattleType.{RattleType}
use denote.Ref.{MutBor}
use denote.Slice.{slice_val, MutSlice, finally, res-finally, heres, coded_holeys}

pub gives_up : {M : Type 1} {𝓤 : Ura M} (𝓛 : Logic 𝓤) (ℓ : Lifetime) (κ : Lft) (R : RattleType) (x : MutBor (List R.Denot)) (n : ℕ)
    → ent 𝓤 (sem 𝓛 ((MutSlice ℓ κ R).own_val x (slice_val x.ref_ptr n ∷ []))) (sem 𝓛 (finally R x.ghost_name x.now))
gives_up 𝓛 ℓ κ R x n =
    qed 𝓛 (‵ ((MutSlice ℓ κ R).own_val x (slice_val x.ref_ptr n ∷ [])) ∷ []) ∵ fsplit ! $ drop ! $ fsplit ! $ move ! (1 ∷ []) $ drop ! $
    use1 𝓛 (‵ (fres x.ghost_name ((coded_holeys R).code (heres R x.now)))) (𝓛.names.obs-res x.ghost_name ((coded_holeys R).code (heres R x.now))) $
    use1 𝓛 (‵ (finally R x.ghost_name x.now)) (res-finally 𝓛 ℓ κ R x.ghost_name x.now) $ done !

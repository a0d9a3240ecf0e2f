-- A cell that is owned whole is room, whatever it holds: `Types/Run.antt`'s `forget`, of every cell of a context at once.
--     emptied Γ        Γ with room for each such cell in it
--     empties          Γ entails it
-- Assumes `Logic`.
use mathlib.Core.Bool.{Bool, true, false}
use mathlib.Core.Path.{◌≡◌, refl, sym, subst}
use Prim.Native.Nat.{ℕ}
use mathlib.Core.List.{List, [], ◌∷◌}
use lib.Dec.{T}
use seplogic.Ra.Ura.{Ura}
use base.Fraction.{one, below, full_share}
use mir.Syntax.{Ty}
use mir.Val.{Val}
use base.Logic.{ent, id⊢, via, mono∗}
use base.Fml.{Share, Fml, ftrue, ffalse, feq, flt, fsep, fand, for, fwand, fex, fall, fupd, fat, froom, fdies, flft, fdead, fobs, fauth, fres, fbor, fobor, flent, fshr_bor, fhide, fleft, fown, finv, fnamed, ftok, fkid, fme, fsent}
use types.Logic.{Logic}
use types.Kit.{Item, ‵, raw, ◌⊛◌, some, given, later, mean, ⋆, push, pop}

-- the whole, tested
abbrev is_full : Share → Bool
is_full one = true
is_full (below q) = false

pub full_is : (q : Share) → T (is_full q) → q ≡ full_share
full_is one e = refl
full_is (below q) e = absurd e

module _ {M : Type 1} {𝓤 : Ura M} (𝓛 : Logic 𝓤) where
  open 𝓛 use {H}

  abbrev Entailed : Item 𝓤 → Type 2
  Entailed i = (j : Item 𝓤) × ent 𝓤 (mean 𝓛 i) (mean 𝓛 j)

  abbrev same : (i : Item 𝓤) → Entailed i
  same i = (i, id⊢ 𝓤 (mean 𝓛 i))

  abbrev cell : (t : Bool) (q : Share) (τ : Ty) (b o : ℕ) (v : Val) → (T t → q ≡ full_share) → Entailed (‵ (fat q τ b o v))
  cell true q τ b o v e = (‵ (froom τ b o), subst (λ (s : Share). ent 𝓤 (H.at s τ b o v) (H.room τ b o)) (sym (e tt)) (𝓛.laws.at_room τ b o v))
  cell false q τ b o v e = same (‵ (fat q τ b o v))

  abbrev of_formula : (F : Fml) → Entailed (‵ F)
  of_formula (fat q τ b o v) = cell (is_full q) q τ b o v (full_is q)
  of_formula ftrue = same (‵ ftrue)
  of_formula ffalse = same (‵ ffalse)
  of_formula (feq X x y) = same (‵ (feq X x y))
  of_formula (flt m n) = same (‵ (flt m n))
  of_formula (fsep P Q) = same (‵ (fsep P Q))
  of_formula (fand P Q) = same (‵ (fand P Q))
  of_formula (for P Q) = same (‵ (for P Q))
  of_formula (fwand P Q) = same (‵ (fwand P Q))
  of_formula (fex X P) = same (‵ (fex X P))
  of_formula (fall X P) = same (‵ (fall X P))
  of_formula (fupd P) = same (‵ (fupd P))
  of_formula (froom τ b o) = same (‵ (froom τ b o))
  of_formula (fdies τ b) = same (‵ (fdies τ b))
  of_formula (flft κ q) = same (‵ (flft κ q))
  of_formula (fdead κ) = same (‵ (fdead κ))
  of_formula (fobs γ x) = same (‵ (fobs γ x))
  of_formula (fauth γ x) = same (‵ (fauth γ x))
  of_formula (fres γ x) = same (‵ (fres γ x))
  of_formula (fbor κ P) = same (‵ (fbor κ P))
  of_formula (fobor κ q P) = same (‵ (fobor κ q P))
  of_formula (flent κ P) = same (‵ (flent κ P))
  of_formula (fshr_bor κ P) = same (‵ (fshr_bor κ P))
  of_formula (fhide P) = same (‵ (fhide P))
  of_formula (fleft q τ ts b o) = same (‵ (fleft q τ ts b o))
  of_formula (fown R γ x) = same (‵ (fown R γ x))
  of_formula (finv P) = same (‵ (finv P))
  of_formula (fnamed n P) = same (‵ (fnamed n P))
  of_formula (ftok m) = same (‵ (ftok m))
  of_formula (fkid h a) = same (‵ (fkid h a))
  of_formula (fme h) = same (‵ (fme h))
  of_formula (fsent h) = same (‵ (fsent h))

  abbrev of_item : (i : Item 𝓤) → Entailed i
  of_item (‵ F) = of_formula F
  of_item (raw P) = same (raw P)
  of_item (i ⊛ j) = same (i ⊛ j)
  of_item (some F) = same (some F)
  of_item (given φ i) = same (given φ i)
  of_item (later i) = same (later i)

  abbrev pub emptied : List (Item 𝓤) → List (Item 𝓤)
  emptied [] = []
  emptied (i ∷ Γ) = (of_item i).0 ∷ emptied Γ

  pub empties : (Γ : List (Item 𝓤)) → ent 𝓤 (⋆ 𝓛 Γ) (⋆ 𝓛 (emptied Γ))
  empties [] = id⊢ 𝓤 _
  empties (i ∷ Γ) = via 𝓤 _ (pop 𝓛 i Γ) (via 𝓤 _ (mono∗ 𝓤 (of_item i).1 (empties Γ)) (push 𝓛 (of_item i).0 (emptied Γ)))

-- The first k elements of a `&κ mut [T]` are lent as a `&κ' [T]` for a lifetime κ' of a call, `&s[..k]`, and come back: `Borrow/Rule/Slice/Reshare.antt`'s `sl_reshareᵖ_as` and `sl_reshare_backᵖ`, with the machine values that a contract asks.
--     Lends X          elements in memory are lent as a `&κ' [T]` beside X, which is had again.        lends_copied, lends_shares      so where T is Copy, with X nothing;  and at any T whose law of sharing is had, with X tokens whose lifetimes' meet is within κ'
--     lends-prefix     where T is Copy:  own (the `&κ mut [T]` ((b, o), γ, ys)) ∗ [κ]_q  ⊢ ⇛ (own (the `&κ' [T]` ((b, o), take k ys)) ∗ what the holder keeps)
--     lends-prefix-as, lends-prefix-shares      the same beside X;  and beside the tokens
--     prefix_back      [†κ'] ∗ what the holder keeps  ⊢ ⇛ (own (the `&κ mut [T]` ((b, o), γ, ys)) ∗ [κ]_q)
-- Assumes `Logic`.
use mathlib.Core.Path.{refl, sym}
use Prim.Native.Nat.{ℕ, ◌*◌, ◌^◌}
use mathlib.Core.List.{List, [], ◌∷◌}
use lib.ListN.{length, take}
use seplogic.Ra.Ura.{Ura}
use base.Fraction.{full_share}
use mir.Syntax.{Lifetime, erased}
use mir.Val.{Val}
use base.Logic.{SProp, ent, sep, emp, id⊢, snd∗}
use base.Fml.{Lft, GName, Share, Fml, Incl, feq, flft, fdead, flent, fhide}
use ghost.Rules.{Toks, span}
use types.Logic.{Logic, sem, lfts}
use types.SemTy.{cells}
use types.Share.{parts}
use types.Kit.{‵, raw, ◌⊛◌, later, ◌$◌, ◌∵◌, !, qed, move, use0, use1, use2, use3, rewrite, drop, split, join, fsplit, fjoin, feq_i, flt_i, frame, await, updating, now as at_once, done}
use denote.RattleType.{RattleType}
use denote.Bor.{Bor}
use denote.Ref.{MutBor}
use denote.Memory.{mem, shares}
use denote.Slice.{slice_val, MutSlice, ShrSlice, Room, elements_shared}
use denote.Shares.{Shares}
use denote.Lends.{Lent-map}
use denote.Copied.{Copied, each_lends}
use borrow.Table.Owned as Owned
use borrow.Rule.Array.Rows.{parts_f}
use borrow.Rule.Slice.Shared.{parts-cells}
use borrow.Rule.Slice.Reshare.{kept_sᵖ, sl_reshareᵖ_as, sl_reshare_backᵖ}

module _ (R : RattleType) (κ κ' : Lft) (q : Share) (γ : GName) (b o : ℕ) where
  abbrev at_list : List R.Denot → MutBor (List R.Denot)
  at_list ys = record { ref_ptr = (b, o); ghost_name = γ; now = ys }

  abbrev shared_list : List R.Denot → Bor (List R.Denot)
  shared_list ys = record { ref_ptr = (b, o); now = ys }

  abbrev vals : List R.Denot → List Val
  vals ys = slice_val (b, o) (length ys) ∷ []

  -- what the holder keeps meanwhile
  abbrev pub KeptPrefix : ℕ → List R.Denot → Fml
  KeptPrefix k ys = kept_sᵖ R κ q κ' γ ys k b o

  module _ {M : Type 1} {𝓤 : Ura M} (𝓛 : Logic 𝓤) where
    open 𝓛 use {H, A}

    abbrev pub Lends : SProp 𝓤 → Type 1
    Lends X = (ys : List R.Denot) → Room R (length ys) → ent 𝓤 (sep 𝓤 (sem 𝓛 (cells (mem R) ys b o)) X) (H.⇛ (sep 𝓤 (sep 𝓤 (sem 𝓛 ((Owned.ShrSlice erased κ' R).own_val (shared_list ys))) (A.lent κ' (parts_f R ys b o))) X))

    pub lends_copied : Copied 𝓛 R → Lends (emp 𝓤)
    lends_copied c ys room =
        let whole : Fml = parts (mem R) (shares R) full_share ys b o in
        qed 𝓛 (‵ (cells (mem R) ys b o) ∷ raw (emp 𝓤) ∷ []) {P = H.⇛ (sep 𝓤 (sep 𝓤 (sem 𝓛 ((Owned.ShrSlice erased κ' R).own_val (shared_list ys))) (A.lent κ' (parts_f R ys b o))) (emp 𝓤))} (
        updating ! $ rewrite ! 0 (λ (F : Fml). ‵ F) (sym (parts-cells R full_share ys b o)) refl $ feq_i ! ℕ (length ys) (length ys) refl $ fjoin ! $
        use1 𝓛 (later (‵ (fhide (elements_shared R ys b o κ')) ⊛ ‵ (flent κ' (parts_f R ys b o))))
        (Lent-map 𝓛 (parts_f R ys b o) whole (elements_shared R ys b o) (snd∗ 𝓤 (sem 𝓛 (feq ℕ (length ys) (length ys))) (sem 𝓛 whole))
        (qed 𝓛 (‵ whole ∷ []) {P = sem 𝓛 (parts_f R ys b o)} (feq_i ! ℕ (length ys) (length ys) refl $ done !)) (each_lends 𝓛 R c full_share ys b o) κ') $ await ! tt $ split ! $
        flt_i ! (length ys * (mem R).size) (2 ^ 63) room.1 $ flt_i ! (length ys) (2 ^ 64) room.0 $ fjoin ! $ fjoin ! $ join ! $ at_once ! $ done !)

    pub lends_shares : (l : Lft) → Shares 𝓛 R l → (ts : Toks) → Incl (span ts) l → Incl (span ts) κ' → Lends (lfts 𝓛 ts)
    lends_shares l shares ts within_l within ys room =
        qed 𝓛 (‵ (cells (mem R) ys b o) ∷ raw (lfts 𝓛 ts) ∷ []) {P = H.⇛ (sep 𝓤 (sep 𝓤 (sem 𝓛 ((Owned.ShrSlice erased κ' R).own_val (shared_list ys))) (A.lent κ' (parts_f R ys b o))) (lfts 𝓛 ts))} (
        updating ! $ rewrite ! 0 (λ (F : Fml). ‵ F) (sym (parts-cells R full_share ys b o)) refl $ feq_i ! ℕ (length ys) (length ys) refl $ fjoin ! $
        use2 𝓛 (later ((‵ ((Owned.ShrSlice erased κ' R).own_val (shared_list ys)) ⊛ ‵ (flent κ' (parts_f R ys b o))) ⊛ raw (lfts 𝓛 ts)))
        (Owned.lends_shr_slice 𝓛 R erased κ' full_share ys b o room l shares ts within_l within) $ await ! tt $ at_once ! $ done !)

    module _ (ℓ ℓ' : Lifetime) (ys : List R.Denot) (k : ℕ) where
      pub lends-prefix-as : (X : SProp 𝓤) → Lends X → ent 𝓤 (sep 𝓤 (sem 𝓛 ((MutSlice ℓ κ R).own_val (at_list ys) (vals ys))) (sep 𝓤 (A.lft κ q) X))
          (H.⇛ (sep 𝓤 (sem 𝓛 ((ShrSlice ℓ' κ' R).own_val (shared_list (take k ys)) (vals (take k ys)))) (sep 𝓤 (sem 𝓛 (KeptPrefix k ys)) X)))
      lends-prefix-as X lends =
          qed 𝓛 (‵ ((MutSlice ℓ κ R).own_val (at_list ys) (vals ys)) ∷ ‵ (flft κ q) ∷ raw X ∷ []) ∵ updating ! $ fsplit ! $ fsplit ! $ drop ! $ fjoin ! $
          use3 𝓛 (later (‵ ((Owned.ShrSlice erased κ' R).own_val (shared_list (take k ys))) ⊛ (‵ (KeptPrefix k ys) ⊛ raw X))) (sl_reshareᵖ_as 𝓛 R κ q κ' b o γ X lends ys k) $ await ! tt $ split ! $
          fsplit ! $ feq_i ! (List Val) (vals (take k ys)) (vals (take k ys)) refl $ fjoin ! $ fjoin ! $ at_once ! $ frame ! $ done !

      pub lends-prefix : Copied 𝓛 R → ent 𝓤 (sep 𝓤 (sem 𝓛 ((MutSlice ℓ κ R).own_val (at_list ys) (vals ys))) (A.lft κ q))
          (H.⇛ (sep 𝓤 (sem 𝓛 ((ShrSlice ℓ' κ' R).own_val (shared_list (take k ys)) (vals (take k ys)))) (sem 𝓛 (KeptPrefix k ys))))
      lends-prefix c =
          qed 𝓛 (‵ ((MutSlice ℓ κ R).own_val (at_list ys) (vals ys)) ∷ ‵ (flft κ q) ∷ []) ∵ updating ! $ use0 𝓛 (raw (emp 𝓤)) (id⊢ 𝓤 (emp 𝓤)) $ move ! (1 ∷ 2 ∷ 0 ∷ []) $
          use3 𝓛 (later (‵ ((ShrSlice ℓ' κ' R).own_val (shared_list (take k ys)) (vals (take k ys))) ⊛ (‵ (KeptPrefix k ys) ⊛ raw (emp 𝓤)))) (lends-prefix-as (emp 𝓤) (lends_copied c)) $
          await ! tt $ split ! $ move ! (1 ∷ []) $ split ! $ move ! (1 ∷ []) $ drop ! $ at_once ! $ move ! (1 ∷ 0 ∷ []) $ done !

      pub lends-prefix-shares : (l : Lft) → Shares 𝓛 R l → (ts : Toks) → Incl (span ts) l → Incl (span ts) κ' → ent 𝓤 (sep 𝓤 (sem 𝓛 ((MutSlice ℓ κ R).own_val (at_list ys) (vals ys))) (sep 𝓤 (A.lft κ q) (lfts 𝓛 ts)))
          (H.⇛ (sep 𝓤 (sem 𝓛 ((ShrSlice ℓ' κ' R).own_val (shared_list (take k ys)) (vals (take k ys)))) (sep 𝓤 (sem 𝓛 (KeptPrefix k ys)) (lfts 𝓛 ts))))
      lends-prefix-shares l shares ts within_l within = lends-prefix-as (lfts 𝓛 ts) (lends_shares l shares ts within_l within)

      pub prefix_back : ent 𝓤 (sep 𝓤 (A.dead κ') (sem 𝓛 (KeptPrefix k ys))) (H.⇛ (sep 𝓤 (sem 𝓛 ((MutSlice ℓ κ R).own_val (at_list ys) (vals ys))) (A.lft κ q)))
      prefix_back =
          qed 𝓛 (‵ (fdead κ') ∷ ‵ (KeptPrefix k ys) ∷ []) ∵ updating ! $
          use2 𝓛 (later (‵ ((Owned.MutSlice erased κ R).own_val (at_list ys)) ⊛ ‵ (flft κ q))) (sl_reshare_backᵖ 𝓛 R κ q κ' b o γ ys k) $ await ! tt $ split ! $
          fsplit ! $ feq_i ! (List Val) (vals ys) (vals ys) refl $ fjoin ! $ fjoin ! $ at_once ! $ frame ! $ done !

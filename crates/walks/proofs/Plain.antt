-- A call in a walk, where the callee's parameters and result are plain data: nothing is handed over and nothing comes back, so the call's contract is all that is cited.
--     calls-plain      what the callee asks holds of nothing; once it has returned, its result is the machine value of r₀, the value that its contract says, and what the result's type says of r₀ is in hand.
--                      The context is as it was, and the operands are read in it
--     calls_data       the same of a function without lifetimes, at its arguments a and their machine values: these are of their types, so they are owned for nothing
-- Assumes `Logic`, and that the table of calls is monotone under a frame, as every `Tables` is.
use mathlib.Core.Path.{◌≡◌, sym, ap, subst}
use mathlib.Core.List.{List, [], ◌∷◌}
use seplogic.Ra.Ura.{Ura}
use mir.Syntax.{Callee, Place, Opd as Operand, Body, seq, call}
use mir.Val.{Val}
use base.Logic.{SProp, ent, sep, emp, ex, ex_e, id⊢, snd∗, via, mono∗, mono_l, emp∗}
use base.Fml.{ftrue}
use prog.Wp.{Env, Calls, Loops, Tables, eval_opds}
use types.Logic.{Logic, sem}
use sound.WpLaws.{FmC, fm_of}
use contract.Monad.{fact}
use types.Kit.{Item, ‵, raw, ◌⊛◌, some, later, ⋆, push, Post, runs, lands, aim, Seq, ◌$◌, use1, await, pick, split, move, drop}
use types.Run.{Opds}
use denote.RattleType.{RattleType, Denots, Valss, flat}
use denote.Laws.{Is, Tells, shows, Are, Ises, Makess, owns_make}
use denote.Steps.{only, facts, heard}
use denote.Signature.{Slot, plain, types_at}
use denote.Triple.Statement.{Contract, Triple}
use denote.Triple.Spec.{triple_of}
use denote.Triple.End.{Kepts}
use denote.Triple.Clauses.{Clauses, Ended, Lasts, at_exit, lasts, ensured, closing}

module _ {M : Type 1} {𝓤 : Ura M} {𝓛 : Logic 𝓤} {K : Type 0} {Γ : List (Item 𝓤)} {E : Env 𝓤 𝓛.H} {C : Calls 𝓤 𝓛.H} {Λ : Loops 𝓤 𝓛.H} {q : Post 𝓤 𝓛.H} {f : Callee} {xs : List Operand} {d : Place} {rest : Body} where
  -- a call that asks nothing of memory
  open 𝓛 use {H}

  called : FmC 𝓤 H 𝓛.laws C → (vs : List Val) (Q : Val → SProp 𝓤) → ent 𝓤 (emp 𝓤) (C f vs Q) → Opds K 𝓛 Γ E xs vs
      → ((u : Val) → Seq K 𝓛 (raw (Q u) ∷ Γ) (lands C Λ E d u rest q)) → Seq K 𝓛 Γ (runs C Λ E (seq (call f xs d) rest) q)
  called fm vs Q met os k = record {
    prf = via 𝓤 (eval_opds 𝓤 H E xs (λ us. C f us (λ u. aim 𝓤 H (lands C Λ E d u rest q))))
        (os.go (λ us. C f us (λ u. aim 𝓤 H (lands C Λ E d u rest q)))
        (via 𝓤 (sep 𝓤 (C f vs Q) (⋆ 𝓛 Γ)) (via 𝓤 (sep 𝓤 (emp 𝓤) (⋆ 𝓛 Γ)) (emp∗ 𝓤 (⋆ 𝓛 Γ)) (mono_l 𝓤 (⋆ 𝓛 Γ) met))
        (fm f vs Q (λ u. aim 𝓤 H (lands C Λ E d u rest q)) (⋆ 𝓛 Γ) (λ u. via 𝓤 (⋆ 𝓛 (raw (Q u) ∷ Γ)) (push 𝓛 (raw (Q u)) Γ) (k u).prf))))
        (𝓛.laws.⇛_intro _);
  }

  pub calls-plain : K → FmC 𝓤 H 𝓛.laws C → (c : Contract 𝓤) → Triple 𝓤 (C f) c → (x : c.Ghost) → ent 𝓤 (emp 𝓤) (c.pre x)
      → (R : RattleType) (val : R.Denot → Val) → Tells R (Is R) (λ r. val r ∷ []) → (r₀ : R.Denot) (said : R.Denot → SProp 𝓤)
      → ((u : Val) → ent 𝓤 (c.post x u) (H.⇛ (ex 𝓤 (λ (r : R.Denot). sep 𝓤 (sep 𝓤 (emp 𝓤) (sem 𝓛 (R.own_val r (u ∷ [])))) (said r)))))
      → ((r : R.Denot) → ent 𝓤 (said r) (fact 𝓤 (r ≡ r₀)))
      → Opds K 𝓛 Γ E xs (c.args x) → (Is R r₀ (val r₀ ∷ []) → Seq K 𝓛 Γ (lands C Λ E d (val r₀) rest q)) → Seq K 𝓛 Γ (runs C Λ E (seq (call f xs d) rest) q)
  calls-plain t fm c known x goes R val tl r₀ said ends says os k =
      called fm (c.args x) (c.post x) (via 𝓤 (c.pre x) goes (known x)) os (λ u.
      use1 𝓛 (later (some (λ (r : R.Denot). (‵ ftrue ⊛ ‵ (R.own_val r (u ∷ []))) ⊛ raw (said r)))) (ends u) $ await t tt $ pick t (λ r.
      split t $ move t (1 ∷ []) $ use1 𝓛 (raw (fact 𝓤 (r ≡ r₀))) (says r) $ heard t (r ≡ r₀) (λ e. split t $ drop t $ facts t R (Is R) (shows 𝓛 R) r (u ∷ []) (λ is.
      landed u (subst (λ (z : R.Denot). Is R z (u ∷ [])) e is)))))
    where
      landed : (u : Val) → Is R r₀ (u ∷ []) → Seq K 𝓛 Γ (lands C Λ E d u rest q)
      landed u is = subst (λ (z : Val). Seq K 𝓛 Γ (lands C Λ E d z rest q)) (sym (ap only (tl r₀ (u ∷ []) is))) (k (subst (Is R r₀) (tl r₀ (u ∷ []) is) is))

-- a function of plain data
abbrev pub Data : (ss : List (Slot 0)) → RattleType → Kepts ss → Ended
Data ss R ks = record { signature = record { lifetimes = 0; outlives = []; params = ss; result = plain (λ _. R) }; kept = ks }

module _ {M : Type 1} {𝓤 : Ura M} {𝓛 : Logic 𝓤} {K : Type 0} {Γ : List (Item 𝓤)} {E : Env 𝓤 𝓛.H} {Λ : Loops 𝓤 𝓛.H} {q : Post 𝓤 𝓛.H} {f : Callee} {xs : List Operand} {d : Place} {rest : Body} where
  open 𝓛 use {H}

  pub calls_data : K → (𝓣 : Tables 𝓤 H) {ss : List (Slot 0)} {R : RattleType} {ks : Kepts ss} (c : Clauses 𝓤 (Data ss R ks)) → Triple 𝓤 (𝓣.C f) (triple_of 𝓛 (Data ss R ks).signature (closing 𝓛 (Data ss R ks) c))
      → (a : Denots (types_at ss tt)) (vss : Valss (types_at ss tt)) (g : (c tt a).ghost) → Makess 𝓛 (types_at ss tt) (Ises (types_at ss tt)) → Are (types_at ss tt) (Ises (types_at ss tt)) a vss → ent 𝓤 (emp 𝓤) ((c tt a).requires g)
      → (val : R.Denot → Val) → Tells R (Is R) (λ r. val r ∷ []) → (r₀ : R.Denot) → ((r : R.Denot) (zs : Lasts (Data ss R ks) tt a) → ent 𝓤 ((c tt a).ensures g r (at_exit (Data ss R ks) tt a zs)) (fact 𝓤 (r ≡ r₀)))
      → Opds K 𝓛 Γ E xs (flat (types_at ss tt) vss) → (Is R r₀ (val r₀ ∷ []) → Seq K 𝓛 Γ (lands 𝓣.C Λ E d (val r₀) rest q)) → Seq K 𝓛 Γ (runs 𝓣.C Λ E (seq (call f xs d) rest) q)
  calls_data t 𝓣 {ss} {R} {ks} c known a vss g makes are met val tells r₀ says =
      let none : ent 𝓤 (emp 𝓤) (sep 𝓤 (emp 𝓤) (emp 𝓤)) = emp∗ 𝓤 (emp 𝓤) in
      calls-plain t (fm_of 𝓤 H 𝓛.laws 𝓣) (triple_of 𝓛 (Data ss R ks).signature (closing 𝓛 (Data ss R ks) c)) known ((tt, tt, tt, a, vss), g)
      (via 𝓤 (sep 𝓤 (emp 𝓤) (emp 𝓤)) none (mono∗ 𝓤 (via 𝓤 (sep 𝓤 (emp 𝓤) (emp 𝓤)) none (mono∗ 𝓤 (id⊢ 𝓤 (emp 𝓤)) (owns_make 𝓛 (types_at ss tt) (Ises (types_at ss tt)) makes a vss are))) met))
      R val tells r₀ (ensured 𝓛 (Data ss R ks) c tt a g) (λ u. id⊢ 𝓤 _)
      (λ r. ex_e 𝓤 _ (λ zs. via 𝓤 ((c tt a).ensures g r (at_exit (Data ss R ks) tt a zs)) (snd∗ 𝓤 (sem 𝓛 (lasts (Data ss R ks) tt a zs)) ((c tt a).ensures g r (at_exit (Data ss R ks) tt a zs))) (says r zs)))

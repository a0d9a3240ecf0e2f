-- From a walk of a function's MIR to the statement that the function meets its contract.
--     Cites 𝓣          a contract that a routine meets is one that its entry in the table 𝓣 meets
--     walk-proves, walk-meets-at-exit      from `Parameters`, or from what is had of each parameter at exit: the walk is over any table that `Cites`, at any lifetimes, shares and arguments; the parameters' machine values are written out, and their relations are in hand
--     ends_with        how a walk ends, where what is had at exit is had of P, and what the contract says holds of nothing: `Denote/Triple/Walked.antt`'s `ends_at`
-- Assumes nothing, but that `ends_with` takes `Logic`.
use mathlib.Core.Path.{◌≡◌}
use seplogic.Ra.Ura.{Ura}
use mir.Syntax.{Fn}
use mir.Val.{Val}
use base.Logic.{SProp, ent, sep, emp, via, emp∗, comm∗, mono_r}
use prog.Wp.{WpFn, Tables, Closed}
use prog.Model.{Model}
use prog.Routine.{Callee, Routine, Env}
use types.Logic.{Logic}
use sound.WpLaws.{WpFn-mono}
use contract.Lifetimes.{Lfts, Shares, AllOutlive}
use contract.Running.{Running, tables, tables_of}
use denote.RattleType.{flat}
use denote.Signature.{types_at}
use denote.Triple.Statement.{Contract, Triple}
use denote.Triple.Entry.{Args, Res, on_entry}
use denote.Triple.Spec.{triple_of}
use denote.Triple.Clauses.{Clauses, Ended, Lasts, at_exit, closing}
use denote.Triple.Table.{entered, cited}
use denote.Triple.Walked.{Stays, AllGo, Fit, Ending, on_exit, ends_at, walk_of, walked, walk_Meets}
use Rattle.walks.proofs.Parameters.{Of, Spelleds, Typed, all_go, all_tell, machine, spelleds, spells, stayed}

module _ {M : Type 1} {𝓤 : Ura M} (𝓛 : Logic 𝓤) (𝓜 : Model 𝓤 𝓛.H) (𝓡 : Running 𝓤 𝓛.H 𝓜) (γ : Env) where
  open 𝓛 use {H}

  pub record Cites (𝓣 : Tables 𝓤 H) : Type 2 where
    pub cites : (c : Contract 𝓤) {k : Callee} {r : Routine} → γ k ≡ r → Triple 𝓤 (𝓡.run r) c → Triple 𝓤 (𝓣.C k) c

  -- the walk, at what is had of the parameters at exit
  abbrev pub Walk : (T : Ended) (hs : Stays T.signature.params T.kept) (sp : Spelleds T.signature.params) (c : Clauses 𝓤 T) → Fn → Type 2
  Walk T hs sp c e = (𝓣 : Tables 𝓤 H) → Cites 𝓣 → (κs : Lfts T.signature.lifetimes) (qs : Shares T.signature.lifetimes) (bounds : AllOutlive T.signature.lifetimes T.signature.outlives κs) (a : Args T.signature κs) (g : (c κs a).ghost)
      → Typed T.signature sp κs a → ent 𝓤 (sep 𝓤 (on_entry 𝓛 T.signature κs qs a (machine T.signature sp κs a)) ((c κs a).requires g))
      (WpFn 𝓤 H 𝓣.C 𝓣.Λ e (flat (types_at T.signature.params κs) (machine T.signature sp κs a)) ((walk_of 𝓛 T hs c).post ((κs, qs, bounds, a, machine T.signature sp κs a), g)))

  pub walk-meets-at-exit : (T : Ended) (hs : Stays T.signature.params T.kept) → AllGo 𝓛 T.signature.lifetimes T.signature.params T.kept hs
      → (sp : Spelleds T.signature.params) (c : Clauses 𝓤 T) (k : Callee) (e : Fn) → Closed 𝓤 H (tables 𝓤 H 𝓜 𝓡 γ).C (tables 𝓤 H 𝓜 𝓡 γ).Λ k e → Walk T hs sp c e
      → Triple 𝓤 (𝓡.run (γ k)) (triple_of 𝓛 T.signature (closing 𝓛 T c))
  unfolding tables_of
  walk-meets-at-exit T hs gs sp c k e closed walk =
      let 𝓣 : Tables 𝓤 H = tables_of 𝓤 H 𝓜 (tables 𝓤 H 𝓜 𝓡 γ) in
      entered 𝓤 H (triple_of 𝓛 T.signature (closing 𝓛 T c)) (tables 𝓤 H 𝓜 𝓡 γ).C (tables 𝓤 H 𝓜 𝓡 γ).Λ k e closed
      (walk_Meets 𝓛 T hs gs c (WpFn 𝓤 H 𝓣.C 𝓣.Λ e) (WpFn-mono 𝓤 H 𝓛.laws 𝓣 e)
      (walked 𝓛 T hs c (WpFn 𝓤 H 𝓣.C 𝓣.Λ e) (λ κs. spells κs T.signature.params sp) (λ κs. all_tell κs T.signature.params sp)
      (walk 𝓣 (record { cites = λ d {k} {r}. cited 𝓤 H d 𝓜 𝓡 γ k r }))))

  pub walk-proves : (T : Ended) (ps : Of T) (c : Clauses 𝓤 T) (k : Callee) (e : Fn) → Closed 𝓤 H (tables 𝓤 H 𝓜 𝓡 γ).C (tables 𝓤 H 𝓜 𝓡 γ).Λ k e → Walk T (stayed T ps) (spelleds T.signature.params T.kept ps) c e
      → Triple 𝓤 (𝓡.run (γ k)) (triple_of 𝓛 T.signature (closing 𝓛 T c))
  walk-proves T ps = walk-meets-at-exit T (stayed T ps) (all_go 𝓛 T.signature.params T.kept ps) (spelleds T.signature.params T.kept ps)

module _ {M : Type 1} {𝓤 : Ura M} (𝓛 : Logic 𝓤) (T : Ended) (hs : Stays T.signature.params T.kept) (c : Clauses 𝓤 T) where
  pub ends_with : (y : (walk_of 𝓛 T hs c).Ghost) (v : Val) (r : Res T.signature y.0.0) (ws : Lasts T y.0.0 y.0.3) → Fit T hs y.0.0 y.0.3 ws → ent 𝓤 (emp 𝓤) ((c y.0.0 y.0.3).ensures y.1 r (at_exit T y.0.0 y.0.3 ws))
      → (P : SProp 𝓤) → ent 𝓤 P (on_exit 𝓛 T hs y.0.0 y.0.1 y.0.4 v r y.0.3 ws) → ent 𝓤 P ((walk_of 𝓛 T hs c).post y v)
  ends_with y v r ws fits promise P had =
      let Had : SProp 𝓤 = on_exit 𝓛 T hs y.0.0 y.0.1 y.0.4 v r y.0.3 ws in
      via 𝓤 Had had (via 𝓤 (sep 𝓤 (emp 𝓤) Had) (emp∗ 𝓤 Had) (via 𝓤 (sep 𝓤 Had (emp 𝓤)) (comm∗ 𝓤 (emp 𝓤) Had) (via 𝓤 (Ending 𝓛 T hs c y v r ws) (mono_r 𝓤 Had promise) (ends_at 𝓛 T hs c y v r ws fits))))

-- A parameter of a function whose MIR is walked by hand: what is had of it at exit, the law that this owes (`Denote/Triple/Walked.antt`), and its machine values. A function's parameters are a tuple of these.
--     value            passed by value: nothing is had of it
--     number           an unsigned integer
--     shared_slice     a `&[T]`
--     kept_slice, gave_slice       a `&mut [T]` that is still owned, at its last list; and one of which only the last list is known
--     kept_ref, gave_ref           likewise a `&mut T`
--     said             any that is passed on to a callee for good: what the callee's contract says of it at exit is had.        saids, said-go, said_fits, said_has       for a list of these
-- Assumes nothing.
use mathlib.Core.Path.{◌≡◌, refl, ap}
use Prim.Native.Nat.{ℕ}
use mathlib.Core.List.{List, [], ◌∷◌}
use seplogic.Ra.Ura.{Ura}
use mir.Syntax.{Width, named}
use mir.Val.{Val}
use base.Fml.{ftrue, fsep}
use types.Logic.{Logic, sem}
use contract.Lifetimes.{Lfts, Within}
use denote.RattleType.{RattleType, Denots, Valss}
use denote.Laws.{Is, Tells, Are, Ises, Spells, valss, Tellss}
use denote.Plain.{UInt, uint_vals, uint_Tells}
use denote.Ref.{mut_vals, mut_Tells}
use denote.Slice.{shr_slice_vals, mut_slice_vals, mut_slice_Tells, shr_slice_Tells}
use denote.Signature.{Slot, Signature, meet_at, plain, mut_ref, mut_slice, shr_slice, types_at}
use denote.Exit.{Kept, yes, Last, left}
use denote.Triple.Entry.{Args, Vals}
use denote.Triple.End.{Kepts, Fins, lasts_of}
use denote.Triple.Clauses.{Ended}
use denote.Triple.Walked as Walked
use denote.Triple.Walked.{Stay, Stays, Goes, AllGo, fits_of, has_of}

-- the machine values are a function of the denotation
pub record Spelled {n : ℕ} (s : Slot n) : Type 1 where
  pub vals : (κs : Lfts n) → (s.row κs).Denot → List Val
  pub tells : (κs : Lfts n) → Tells (s.row κs) (Is (s.row κs)) (vals κs)

pub record Parameter {n : ℕ} (s : Slot n) (k : Kept) : Type 2 where
  pub stay : Stay s k
  pub goes : {M : Type 1} {𝓤 : Ura M} (𝓛 : Logic 𝓤) → Goes 𝓛 n s k stay
  pub spelled : Spelled s

module _ {n : ℕ} where
  abbrev pub spelled_value : (R : RattleType) (vals : R.Denot → List Val) → Tells R (Is R) vals → Spelled {n = n} (plain (λ _. R))
  spelled_value R vals tells = record { vals = λ _. vals; tells = λ _. tells }

  -- nothing is said of it at exit, which is a `refl` at any type that is written out
  abbrev pub value : (R : RattleType) (vals : R.Denot → List Val) → Tells R (Is R) vals → ((x : R.Denot) (f : Last (R.exit yes) x) → left (R.exit yes) x f ≡ ftrue) → Parameter {n = n} (plain (λ _. R)) yes
  value R vals tells silent = record { stay = Walked.stay_dropped (plain (λ _. R)) yes; goes = λ 𝓛. Walked.Goes-dropped 𝓛 n (plain (λ _. R)) yes (λ _. silent); spelled = spelled_value R vals tells }

  abbrev pub number : (w : Width) → Parameter {n = n} (plain (λ _. UInt w)) yes
  number w = value (UInt w) (uint_vals w) (uint_Tells w) (λ x f. refl)

  module _ (j : ℕ) (ok : Within n j) (R : RattleType) where
    abbrev pub spelled_shared : Spelled {n = n} (shr_slice j ok (λ _. R))
    spelled_shared = record { vals = λ _. shr_slice_vals; tells = λ κs. shr_slice_Tells (named j) (meet_at n (j ∷ []) ok κs) R }

    abbrev pub shared_slice : Parameter {n = n} (shr_slice j ok (λ _. R)) yes
    shared_slice = record {
      stay = Walked.stay_none_slice (j ∷ []) ok (plain (λ _. R)) yes;
      goes = λ 𝓛. Walked.Goes-none_slice 𝓛 n (j ∷ []) ok (plain (λ _. R)) yes;
      spelled = spelled_shared;
    }

    abbrev pub spelled_slice : Spelled {n = n} (mut_slice j ok (λ _. R))
    spelled_slice = record { vals = λ _. mut_slice_vals; tells = λ κs. mut_slice_Tells (named j) (meet_at n (j ∷ []) ok κs) R }

    abbrev pub kept_slice : Parameter {n = n} (mut_slice j ok (λ _. R)) yes
    kept_slice = record { stay = Walked.stay_slice (j ∷ []) ok (plain (λ _. R)); goes = λ 𝓛. Walked.Goes-slice 𝓛 n j ok (plain (λ _. R)); spelled = spelled_slice }

    abbrev pub gave_slice : Parameter {n = n} (mut_slice j ok (λ _. R)) yes
    gave_slice = record { stay = Walked.gave_slice (j ∷ []) ok (plain (λ _. R)); goes = λ 𝓛. Walked.Goes-gave_slice 𝓛 n j ok (plain (λ _. R)); spelled = spelled_slice }

    abbrev pub spelled_ref : Spelled {n = n} (mut_ref j ok (λ _. R))
    spelled_ref = record { vals = λ _. mut_vals; tells = λ κs. mut_Tells (named j) (meet_at n (j ∷ []) ok κs) R }

    abbrev pub kept_ref : Parameter {n = n} (mut_ref j ok (λ _. R)) yes
    kept_ref = record { stay = Walked.stay_ref (j ∷ []) ok (plain (λ _. R)); goes = λ 𝓛. Walked.Goes-ref 𝓛 n j ok (plain (λ _. R)); spelled = spelled_ref }

    abbrev pub gave_ref : Parameter {n = n} (mut_ref j ok (λ _. R)) yes
    gave_ref = record { stay = Walked.gave_ref (j ∷ []) ok (plain (λ _. R)); goes = λ 𝓛. Walked.Goes-gave_ref 𝓛 n j ok (plain (λ _. R)); spelled = spelled_ref }

  abbrev pub said : (s : Slot n) (k : Kept) → Stay s k
  said s k = record { fit = λ κs x f. Unit {0}; has = λ κs x f vs. left ((s.row κs).exit k) x f }

  abbrev pub Parameters : (ss : List (Slot n)) → Kepts ss → Type 2
  Parameters [] ks = Unit {2}
  Parameters (s ∷ ss) ks = Parameter s ks.0 × Parameters ss ks.1

  abbrev pub stays : (ss : List (Slot n)) (ks : Kepts ss) → Parameters ss ks → Stays ss ks
  stays [] ks ps = tt
  stays (s ∷ ss) ks ps = (ps.0.stay, stays ss ks.1 ps.1)

  abbrev pub all_go : {M : Type 1} {𝓤 : Ura M} (𝓛 : Logic 𝓤) (ss : List (Slot n)) (ks : Kepts ss) (ps : Parameters ss ks) → AllGo 𝓛 n ss ks (stays ss ks ps)
  all_go 𝓛 [] ks ps = tt
  all_go 𝓛 (s ∷ ss) ks ps = (ps.0.goes 𝓛, all_go 𝓛 ss ks.1 ps.1)

  abbrev pub Spelleds : List (Slot n) → Type 1
  Spelleds [] = Unit {1}
  Spelleds (s ∷ ss) = Spelled s × Spelleds ss

  abbrev pub spelleds : (ss : List (Slot n)) (ks : Kepts ss) → Parameters ss ks → Spelleds ss
  spelleds [] ks ps = tt
  spelleds (s ∷ ss) ks ps = (ps.0.spelled, spelleds ss ks.1 ps.1)

  module _ (κs : Lfts n) where
    abbrev pub spells : (ss : List (Slot n)) → Spelleds ss → Spells (types_at ss κs)
    spells [] sp = tt
    spells (s ∷ ss) sp = (sp.0.vals κs, spells ss sp.1)

    abbrev pub all_tell : (ss : List (Slot n)) (sp : Spelleds ss) → Tellss (types_at ss κs) (Ises (types_at ss κs)) (spells ss sp)
    all_tell [] sp = tt
    all_tell (s ∷ ss) sp = (sp.0.tells κs, all_tell ss sp.1)

  abbrev pub saids : (ss : List (Slot n)) (ks : Kepts ss) → Stays ss ks
  saids [] ks = tt
  saids (s ∷ ss) ks = (said s ks.0, saids ss ks.1)

  pub said-go : {M : Type 1} {𝓤 : Ura M} (𝓛 : Logic 𝓤) (ss : List (Slot n)) (ks : Kepts ss) → AllGo 𝓛 n ss ks (saids ss ks)
  said-go 𝓛 [] ks = tt
  said-go 𝓛 (s ∷ ss) ks = ((λ κs x f vs fits. 𝓛.laws.⇛_intro (sem 𝓛 (left ((s.row κs).exit ks.0) x f))), said-go 𝓛 ss ks.1)

  module _ (κs : Lfts n) where
    pub said_fits : (ss : List (Slot n)) (ks : Kepts ss) (a : Denots (types_at ss κs)) (ws : Fins κs ss ks a) → fits_of κs ss ks (saids ss ks) a ws
    said_fits [] ks a ws = tt
    said_fits (s ∷ ss) ks a ws = (tt, said_fits ss ks.1 a.1 ws.1)

    pub said_has : (ss : List (Slot n)) (ks : Kepts ss) (a : Denots (types_at ss κs)) (ws : Fins κs ss ks a) (vss : Valss (types_at ss κs)) → lasts_of κs ss ks a ws ≡ has_of κs ss ks (saids ss ks) a ws vss
    said_has [] ks a ws vss = refl
    said_has (s ∷ ss) ks a ws vss = ap (fsep (left ((s.row κs).exit ks.0) a.0 ws.0)) (said_has ss ks.1 a.1 ws.1 vss.1)

-- of a function
abbrev pub Of : Ended → Type 2
Of T = Parameters T.signature.params T.kept

abbrev pub stayed : (T : Ended) → Of T → Stays T.signature.params T.kept
stayed T = stays T.signature.params T.kept

-- the machine values at the arguments a, and that these are of their types
module _ (S : Signature) (sp : Spelleds S.params) (κs : Lfts S.lifetimes) where
  abbrev pub machine : Args S κs → Vals S κs
  machine a = valss (types_at S.params κs) (spells κs S.params sp) a

  abbrev pub Typed : Args S κs → Type 0
  Typed a = Are (types_at S.params κs) (Ises (types_at S.params κs)) a (machine a)

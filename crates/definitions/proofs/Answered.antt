-- What the code gives is one answer of the papers, and no two things that it gives are the same answer.
-- Assumes nothing.
use mathlib.Core.List.{List, [], ◌∷◌}
use mathlib.Core.Path.{◌≡◌, refl, ap, sym, ◌∙◌}
use Prim.Native.Nat.{ℕ, ◌-◌}
use lib.ListN.{get_or}
use Rattle.std.specs.Prelude.{Option, Some, None, Result, Ok, Err}
use Rattle.definitions.specs.declared.Verdict.{Verdict}
use Rattle.definitions.specs.declared.Refusal.{Refusal}
use Rattle.definitions.specs.declared.Refusal.TheVariants as refusal
use Rattle.definitions.specs.Answers.{Answer, answered, refusal_number}
use Rattle.definitions.specs.Answers as answer

-- an answer that the code gives
abbrev pub Given : Type 0
Given = Result (Option Verdict) Refusal

abbrev refusals : List Refusal
refusals =
    refusal.State
    ∷ refusal.Length
    ∷ refusal.Kind
    ∷ refusal.Name
    ∷ refusal.Code
    ∷ refusal.Price
    ∷ refusal.Time
    ∷ refusal.Record
    ∷ refusal.NumberTaken
    ∷ refusal.NoOpenRow
    ∷ refusal.Volume
    ∷ refusal.FullDesk
    ∷ refusal.Figures
    ∷ []

abbrev refusal_of : ℕ → Refusal
refusal_of n = get_or refusals (n - 1) refusal.State

refusal-back : (r : Refusal) → refusal_of (refusal_number r) ≡ r
refusal-back refusal.State = refl
refusal-back refusal.Length = refl
refusal-back refusal.Kind = refl
refusal-back refusal.Name = refl
refusal-back refusal.Code = refl
refusal-back refusal.Price = refl
refusal-back refusal.Time = refl
refusal-back refusal.Record = refl
refusal-back refusal.NumberTaken = refl
refusal-back refusal.NoOpenRow = refl
refusal-back refusal.Volume = refl
refusal-back refusal.FullDesk = refl
refusal-back refusal.Figures = refl

abbrev given : Answer → Given
given answer.Ok = Ok None
given (answer.Verdict v) = Ok (Some v)
given (answer.Refused n) = Err (refusal_of n)

given-back : (a : Given) → given (answered a) ≡ a
given-back (Ok None) = refl
given-back (Ok (Some v)) = refl
given-back (Err r) = ap Err (refusal-back r)

pub one_answer : (a b : Given) → answered a ≡ answered b → a ≡ b
one_answer a b same = sym (given-back a) ∙ ap given same ∙ given-back b

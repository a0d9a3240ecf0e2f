-- Answers: as what the code gives, as numbers, for callers in other languages, and as the words of the day program's listing.
use Rattle.std.specs.Prelude.{cond, List, [], ◌∷◌, ◌++◌, ℕ, zero, suc, ◌+◌, ◌/◌, ◌%◌, ltb, Option, Some, None, Result}
use Rattle.std.specs.declared.result.Result.TheVariants as result
use Prim.Native.Char.{code}
use Prim.Native.String.{String, [] as []ₛ, ◌∷◌ as ◌∷ₛ◌}
use Rattle.definitions.specs.declared.Verdict as verdicts
use Rattle.definitions.specs.declared.Verdict.TheVariants as verdict
use Rattle.definitions.specs.declared.Refusal.{Refusal}
use Rattle.definitions.specs.declared.Refusal.TheVariants as refusal

-- `ok`, an order's verdict, or `refused` with the number of the condition that is met
pub data Answer : Type 0 where
  Ok : Answer
  Verdict : verdicts.Verdict → Answer
  Refused : ℕ → Answer

-- "An answer may be an enum. If so, a definition gives this paper's number and values for each of the enum's cases": the table's numbers
abbrev pub refusal_number : Refusal → ℕ
refusal_number refusal.State = 1
refusal_number refusal.Length = 2
refusal_number refusal.Kind = 3
refusal_number refusal.Name = 4
refusal_number refusal.Code = 5
refusal_number refusal.Price = 6
refusal_number refusal.Time = 7
refusal_number refusal.Record = 8
refusal_number refusal.NumberTaken = 9
refusal_number refusal.NoOpenRow = 10
refusal_number refusal.Volume = 11
refusal_number refusal.FullDesk = 12
refusal_number refusal.Figures = 13

-- an answer whose refusals may be of any type: `number` gives the number of each
abbrev pub answered_by : {R : Type 0} → (R → ℕ) → Result (Option verdicts.Verdict) R → Answer
answered_by number (result.Ok None) = Ok
answered_by number (result.Ok (Some v)) = Verdict v
answered_by number (result.Err r) = Refused (number r)

-- an order's answer has its verdict, that of another event none
abbrev pub answered : Result (Option verdicts.Verdict) Refusal → Answer
answered = answered_by refusal_number

-- what is given where nothing is wrong, or the number of what is
abbrev pub by_number : {A : Type 0} → Result A Refusal → Result A ℕ
by_number (result.Ok a) = result.Ok a
by_number (result.Err r) = result.Err (refusal_number r)

-- the number of the condition that is met; 0 where none is
abbrev pub refused_by : Result (Unit {0}) Refusal → ℕ
refused_by (result.Ok x) = 0
refused_by (result.Err r) = refusal_number r

-- a reject is 200 and the place of its letter in the alphabet
abbrev pub verdict_number : verdicts.Verdict → ℕ
verdict_number verdict.RejectS = 219
verdict_number verdict.RejectV = 222
verdict_number verdict.RejectC = 203
verdict_number verdict.RejectQ = 217
verdict_number verdict.RejectW = 223
verdict_number verdict.RejectP = 216
verdict_number verdict.Warn30 = 130
verdict_number verdict.Warn10 = 110
verdict_number verdict.Accept = 100

-- 0 for ok; a refusal is its number
abbrev pub answer_number : Answer → ℕ
answer_number Ok = 0
answer_number (Verdict v) = verdict_number v
answer_number (Refused n) = n

-- a text as bytes, of which each is its character's number: ASCII
unfoldable pub ascii : String → List ℕ
ascii []ₛ = []
ascii (c ∷ₛ s) = code c ∷ ascii s

-- the digits of n; of a number with more than k digits the last k
unfoldable pub decimal_in : ℕ → ℕ → List ℕ
decimal_in zero n = []
decimal_in (suc k) n = cond (ltb n 10) ((48 + n) ∷ []) (decimal_in k (n / 10) ++ ((48 + n % 10) ∷ []))

-- "`accept`, `warn 30`, `warn 10`, `reject` and a letter"
abbrev pub verdict_text : verdicts.Verdict → List ℕ
verdict_text verdict.RejectS = ascii "reject S"
verdict_text verdict.RejectV = ascii "reject V"
verdict_text verdict.RejectC = ascii "reject C"
verdict_text verdict.RejectQ = ascii "reject Q"
verdict_text verdict.RejectW = ascii "reject W"
verdict_text verdict.RejectP = ascii "reject P"
verdict_text verdict.Warn30 = ascii "warn 30"
verdict_text verdict.Warn10 = ascii "warn 10"
verdict_text verdict.Accept = ascii "accept"

-- every number of 32 bits has at most ten digits
abbrev pub refused_text : ℕ → List ℕ
refused_text n = ascii "refused " ++ decimal_in 10 n

-- "its answer (`ok`, .., `refused` and a number)"
abbrev pub answer_text : Answer → List ℕ
answer_text Ok = ascii "ok"
answer_text (Verdict v) = verdict_text v
answer_text (Refused n) = refused_text n

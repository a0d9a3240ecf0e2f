-- An answer can be told from its number: refusals have the numbers of the table, and neither ok nor a verdict has such a number.
-- Assumes nothing.
use mathlib.Core.Bool.{false, cond}
use mathlib.Core.List.{List}
use mathlib.Core.Path.{◌≡◌, refl, ap, sym, ◌∙◌}
use Prim.Native.Nat.{ℕ, ◌≤◌}
use native.Mathlib.Omega.{arith}
use lib.Dec.{eqb}
use borrow.Author.Tests.{ne_eqb}
use Rattle.definitions.specs.declared.Verdict.TheVariants as verdict
use Rattle.definitions.specs.Answers.{Answer}
use Rattle.definitions.specs.Answers as answer
use Rattle.definitions.specs.Answers.{answer_number}
use Rattle.definitions.specs.Gate.{conditions, event_answer}
use Rattle.definitions.proofs.Refused.{refused, numbered-conditions}
use Rattle.definitions.proofs.Table.{last_number, first-most}

pub refused-in-table : (w b : List ℕ) (n : ℕ) → event_answer w b ≡ answer.Refused n → (1 ≤ n) × (n ≤ last_number)
refused-in-table w b n e =
    let t = refused w b n e in
    let most = first-most (conditions w b) (numbered-conditions w b) in
    (above n t.some, omega (arith, t.first))
  where
    above : (m : ℕ) → (m ≡ 0 → ⊥) → 1 ≤ m
    above m some = omega arith

-- the answer that a number is of
abbrev numbered : ℕ → Answer
numbered n =
    cond (eqb n 0) answer.Ok
    (cond (eqb n 219) (answer.Verdict verdict.RejectS)
    (cond (eqb n 222) (answer.Verdict verdict.RejectV)
    (cond (eqb n 203) (answer.Verdict verdict.RejectC)
    (cond (eqb n 217) (answer.Verdict verdict.RejectQ)
    (cond (eqb n 223) (answer.Verdict verdict.RejectW)
    (cond (eqb n 216) (answer.Verdict verdict.RejectP)
    (cond (eqb n 130) (answer.Verdict verdict.Warn30)
    (cond (eqb n 110) (answer.Verdict verdict.Warn10)
    (cond (eqb n 100) (answer.Verdict verdict.Accept) (answer.Refused n))))))))))

told : (a : Answer) → ((n : ℕ) → a ≡ answer.Refused n → (1 ≤ n) × (n ≤ last_number)) → numbered (answer_number a) ≡ a
told answer.Ok h = refl
told (answer.Verdict verdict.RejectS) h = refl
told (answer.Verdict verdict.RejectV) h = refl
told (answer.Verdict verdict.RejectC) h = refl
told (answer.Verdict verdict.RejectQ) h = refl
told (answer.Verdict verdict.RejectW) h = refl
told (answer.Verdict verdict.RejectP) h = refl
told (answer.Verdict verdict.Warn30) h = refl
told (answer.Verdict verdict.Warn10) h = refl
told (answer.Verdict verdict.Accept) h = refl
told (answer.Refused n) h =
    let low = (h n refl).0 in
    let most = (h n refl).1 in
    let other : (m : ℕ) → (n ≡ m → ⊥) → eqb n m ≡ false = ne_eqb n in
    rw (other 0 (λ e. omega arith), other 219 (λ e. omega arith), other 222 (λ e. omega arith), other 203 (λ e. omega arith), other 217 (λ e. omega arith), other 223 (λ e. omega arith), other 216 (λ e. omega arith), other 130 (λ e. omega arith), other 110 (λ e. omega arith), other 100 (λ e. omega arith))

-- answers with one number are one answer, over any words and any bytes
pub number-tells : (w b v c : List ℕ) → answer_number (event_answer w b) ≡ answer_number (event_answer v c) → event_answer w b ≡ event_answer v c
number-tells w b v c e =
    sym (told (event_answer w b) (refused-in-table w b)) ∙ ap numbered e ∙ told (event_answer v c) (refused-in-table v c)

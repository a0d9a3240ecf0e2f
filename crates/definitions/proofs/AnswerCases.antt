-- Every answer's number, "a reject is 200 and the place of its letter in the alphabet", and its words in the listing, byte by byte. One theorem over the whole.
use mathlib.Core.List.{List, [], ◌∷◌, map}
use mathlib.Core.Path.{◌≡◌, refl}
use Prim.Native.Nat.{ℕ}
use Rattle.definitions.specs.Answers.{Answer}
use Rattle.definitions.specs.Answers as answer
use Rattle.definitions.specs.declared.Verdict.TheVariants.{RejectS, RejectV, RejectC, RejectQ, RejectW, RejectP, Warn30, Warn10, Accept}
use Rattle.definitions.specs.Answers.{answer_number, ascii, decimal_in, answer_text}

abbrev pub answers : List (Answer × (ℕ × List ℕ))
answers =
    -- `ok`
    (answer.Ok, (0, 111 ∷ 107 ∷ []))
    -- `reject S`
    ∷ (answer.Verdict RejectS, (219, 114 ∷ 101 ∷ 106 ∷ 101 ∷ 99 ∷ 116 ∷ 32 ∷ 83 ∷ []))
    -- `reject V`
    ∷ (answer.Verdict RejectV, (222, 114 ∷ 101 ∷ 106 ∷ 101 ∷ 99 ∷ 116 ∷ 32 ∷ 86 ∷ []))
    -- `reject C`
    ∷ (answer.Verdict RejectC, (203, 114 ∷ 101 ∷ 106 ∷ 101 ∷ 99 ∷ 116 ∷ 32 ∷ 67 ∷ []))
    -- `reject Q`
    ∷ (answer.Verdict RejectQ, (217, 114 ∷ 101 ∷ 106 ∷ 101 ∷ 99 ∷ 116 ∷ 32 ∷ 81 ∷ []))
    -- `reject W`
    ∷ (answer.Verdict RejectW, (223, 114 ∷ 101 ∷ 106 ∷ 101 ∷ 99 ∷ 116 ∷ 32 ∷ 87 ∷ []))
    -- `reject P`
    ∷ (answer.Verdict RejectP, (216, 114 ∷ 101 ∷ 106 ∷ 101 ∷ 99 ∷ 116 ∷ 32 ∷ 80 ∷ []))
    -- `warn 30`
    ∷ (answer.Verdict Warn30, (130, 119 ∷ 97 ∷ 114 ∷ 110 ∷ 32 ∷ 51 ∷ 48 ∷ []))
    -- `warn 10`
    ∷ (answer.Verdict Warn10, (110, 119 ∷ 97 ∷ 114 ∷ 110 ∷ 32 ∷ 49 ∷ 48 ∷ []))
    -- `accept`
    ∷ (answer.Verdict Accept, (100, 97 ∷ 99 ∷ 99 ∷ 101 ∷ 112 ∷ 116 ∷ []))
    -- `refused 1`
    ∷ (answer.Refused 1, (1, 114 ∷ 101 ∷ 102 ∷ 117 ∷ 115 ∷ 101 ∷ 100 ∷ 32 ∷ 49 ∷ []))
    -- `refused 9`
    ∷ (answer.Refused 9, (9, 114 ∷ 101 ∷ 102 ∷ 117 ∷ 115 ∷ 101 ∷ 100 ∷ 32 ∷ 57 ∷ []))
    -- `refused 10`
    ∷ (answer.Refused 10, (10, 114 ∷ 101 ∷ 102 ∷ 117 ∷ 115 ∷ 101 ∷ 100 ∷ 32 ∷ 49 ∷ 48 ∷ []))
    -- `refused 12`
    ∷ (answer.Refused 12, (12, 114 ∷ 101 ∷ 102 ∷ 117 ∷ 115 ∷ 101 ∷ 100 ∷ 32 ∷ 49 ∷ 50 ∷ []))
    -- `refused 13`
    ∷ (answer.Refused 13, (13, 114 ∷ 101 ∷ 102 ∷ 117 ∷ 115 ∷ 101 ∷ 100 ∷ 32 ∷ 49 ∷ 51 ∷ []))
    -- `refused 4294967295`
    ∷ (answer.Refused 4_294_967_295, (4_294_967_295, 114 ∷ 101 ∷ 102 ∷ 117 ∷ 115 ∷ 101 ∷ 100 ∷ 32 ∷ 52 ∷ 50 ∷ 57 ∷ 52 ∷ 57 ∷ 54 ∷ 55 ∷ 50 ∷ 57 ∷ 53 ∷ []))
    ∷ []

pub all_right : map (λ (c : Answer × (ℕ × List ℕ)). (answer_number c.0, answer_text c.0)) answers ≡ map (λ (c : Answer × (ℕ × List ℕ)). c.1) answers
unfolding ascii decimal_in
all_right = refl

-- Paper 01, "The day program": its input, event by event, the answers of its listing, and the words that it leaves, over 8 customers and 16 securities.
use mathlib.Core.List.{List, [], ◌∷◌, map}
use mathlib.Core.Path.{◌≡◌, refl}
use Prim.Native.Nat.{ℕ}
use lib.ListN.{replicate}
use Rattle.definitions.specs.Answers.{Answer}
use Rattle.definitions.specs.Answers as answer
use Rattle.definitions.specs.declared.Verdict.TheVariants as verdict
use Rattle.definitions.specs.Answers.{ascii, decimal_in, answer_text}
use Rattle.definitions.proofs.Bytes.{session, prices, order, cancel}
use Rattle.definitions.proofs.Run.{answers_of, words_of}
use Rattle.definitions.proofs.Corner.{state, security, plain, traded, untraded, counting, main, buy, limit, online, entry, cancelled}

-- "session 2; security 0 main with last 50.00, bid 49.75, offer 50.25, no projected; customer 0 online, limit 50.00, 100 shares: buy no. 1,
-- sell no. 2; cancel 1 twice"
abbrev pub input : List (List ℕ)
input =
    session 2
    ∷ prices 0 0 0 5000 4975 5025
    ∷ order 0 1 0 0 0 0 1 5000 100
    ∷ order 0 2 0 0 1 0 1 5000 100
    ∷ cancel 0 1
    ∷ cancel 0 1
    ∷ []

abbrev pub listed : List Answer
listed =
    answer.Ok
    ∷ answer.Ok
    ∷ answer.Verdict verdict.Accept
    ∷ answer.Verdict verdict.RejectW
    ∷ answer.Ok
    ∷ answer.Refused 10
    ∷ []

pub answers-listed : answers_of 8 16 input ≡ listed
unfolding answers_of
answers-listed = refl

-- one accepted, one rejected, and the row cancelled
abbrev pub left : List ℕ
left =
    state 0 2 (security plain (traded 0 5000 4975 5025) untraded ∷ replicate 15 (security plain untraded untraded))
    (counting 1 0 1 (cancelled 0 (entry 1 0 main buy limit online 5000 100) ∷ []) ∷ replicate 7 (counting 0 0 0 []))

pub words_left : words_of 8 16 input ≡ left
unfolding words_of
words_left = refl

-- the answers of the paper's listing, as its bytes: `ok`, `ok`, `accept`, `reject W`, `ok`, `refused 10`
abbrev pub words : List (List ℕ)
words =
    (111 ∷ 107 ∷ [])
    ∷ (111 ∷ 107 ∷ [])
    ∷ (97 ∷ 99 ∷ 99 ∷ 101 ∷ 112 ∷ 116 ∷ [])
    ∷ (114 ∷ 101 ∷ 106 ∷ 101 ∷ 99 ∷ 116 ∷ 32 ∷ 87 ∷ [])
    ∷ (111 ∷ 107 ∷ [])
    ∷ (114 ∷ 101 ∷ 102 ∷ 117 ∷ 115 ∷ 101 ∷ 100 ∷ 32 ∷ 49 ∷ 48 ∷ [])
    ∷ []

pub words-listed : map answer_text (answers_of 8 16 input) ≡ words
unfolding answers_of ascii decimal_in
words-listed = refl

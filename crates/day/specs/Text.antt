-- What is said of bytes that are put at the start of lent bytes, and of the listing's lines.
use Rattle.std.specs.Prelude.{List, [], ◌∷◌, ◌++◌, ◌≡◌, ◌≤◌, ℕ, length, take}
use Rattle.std.specs.Fmt.{decimal}
use Rattle.definitions.specs.Answers.{Answer, answer_text}

-- `&bytes[..n]` is in bounds and has n bytes
abbrev pub IsPrefixLen : ℕ → List ℕ → Type 0
IsPrefixLen n bytes = (n ≤ length bytes) × (n ≡ length (take n bytes))

-- a line of the listing: an event's index, its kind byte and its answer, and the end of the line
abbrev pub line_text : ℕ → ℕ → Answer → List ℕ
line_text index kind answer = (decimal index ++ 32 ∷ (decimal kind ++ 32 ∷ [])) ++ (answer_text answer ++ 10 ∷ [])

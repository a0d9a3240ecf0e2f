-- What handing a list of events to the gate leaves, and demand 3 of it.
use Rattle.std.specs.Prelude.{Bool, true, cond, List, [], ◌∷◌, ◌++◌, map, ◌≡◌, ℕ, zero, suc, ◌+◌, ◌-◌, ◌≤◌, ◌<◌, ltb, min, length, get_or, take, drop, Option, Some, None}
use Rattle.definitions.specs.Lists.{keep}
use Rattle.definitions.specs.State.{sizes_fit, fresh, desk_words}
use Rattle.definitions.specs.Gate.{words_after, answers_to}
use Rattle.definitions.specs.Lone.{lone_fresh, lone_after, lone_answers, is_fed, market_words, customer_words}
use Rattle.definitions.specs.Answers.{answer_number}

-- of the answers to some events, those to the events that a test picks
unfoldable pub picked : (List ℕ → Bool) → List (List ℕ) → List ℕ → List ℕ
picked p [] xs = []
picked p (b ∷ bs) [] = []
picked p (b ∷ bs) (x ∷ xs) = cond (p b) (x ∷ picked p bs xs) (picked p bs xs)

-- "these answers, rows, counters and words are exactly those of the lone run": the answers as numbers, the market's words, every word of k's desk
pub record Alone (customers securities k : ℕ) (history : List (List ℕ)) (answers words : List ℕ) : Type 0 where
  pub answers_same : picked (is_fed customers k) history answers ≡ map answer_number (lone_answers (lone_fresh customers securities) (keep (is_fed customers k) history))
  pub market_same : market_words words ≡ (lone_after (lone_fresh customers securities) (keep (is_fed customers k) history)).market
  pub desk_same : customer_words words k ≡ desk_words (lone_after (lone_fresh customers securities) (keep (is_fed customers k) history)).desk

-- the words w, a history and the places a for answers came; the count, the words v and the answers c are left
pub record Ran (w : List ℕ) (history : List (List ℕ)) (a : List ℕ) (count : ℕ) (v c : List ℕ) : Type 0 where
  pub events_counted : count ≡ length history
  pub words_follow : v ≡ words_after w history
  pub answers_written : c ≡ map answer_number (answers_to (λ _. true) w history) ++ drop count a
  pub alone : (customers securities : ℕ) → sizes_fit customers securities ≡ true → w ≡ fresh customers securities → (k : ℕ) → k < customers → Alone customers securities k history (take count c) v

-- the history that bytes and lengths hand in: each event takes its length of the bytes, or what is left of them
unfoldable pub cut : List ℕ → List ℕ → List (List ℕ)
cut [] b = []
cut (n ∷ ns) b = take n b ∷ cut ns (drop n b)

-- the history that bytes hand in, at most n events, from a position on and after a count of events, where `ends` has the end of the event at a position
unfoldable pub handed : (ℕ → ℕ → Option ℕ) → List ℕ → ℕ → ℕ → ℕ → List (List ℕ)
handed ends b zero at count = []
handed ends b (suc n) at count = elim (ends at count) [ None ↦ [] | Some end ↦ take (end - at) (drop at b) ∷ handed ends b n end (count + 1) ]

-- an event by its length, or by what is left of the bytes
abbrev pub listed_end : List ℕ → List ℕ → ℕ → ℕ → Option ℕ
listed_end b ns at count = cond (ltb count (length ns)) (Some (at + min (get_or ns count 0) (length b - at))) None

-- of the calls that `post` speaks of, at a position within the bytes and after a count of events: an event ends behind its start and within the bytes
abbrev pub EndsWithin : (ℕ → ℕ → Option ℕ → Type 0) → List ℕ → Type 0
EndsWithin post b = (at count end : ℕ) → at ≤ length b → post at count (Some end) → (at ≤ end) × (end ≤ length b)

-- and they give what `ends` has
abbrev pub Gives : (ℕ → ℕ → Option ℕ → Type 0) → List ℕ → (ℕ → ℕ → Option ℕ) → Type 0
Gives post b ends = (at count : ℕ) (end : Option ℕ) → at ≤ length b → post at count end → end ≡ ends at count

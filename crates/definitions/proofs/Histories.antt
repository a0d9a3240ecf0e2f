-- Whole histories: every one keeps the state well formed, and the lone run of k follows it.
-- Assumes nothing.
use mathlib.Core.Bool.{Bool, true, false, cond}
use mathlib.Core.List.{List, [], ◌∷◌}
use mathlib.Core.Path.{◌≡◌, refl, ap, sym, ◌∙◌}
use Prim.Native.Nat.{ℕ, ◌<◌}
use Rattle.definitions.specs.Answers.{Answer}
use Rattle.definitions.specs.Lists.{keep}
use Rattle.definitions.specs.Gate.{event_words, event_answer, words_after, answers_to}
use Rattle.definitions.specs.Lone.{Lone, lone_after, lone_answers, is_fed}
use Rattle.definitions.proofs.WellFormed.{Good, keeps}
use Rattle.definitions.proofs.Isolation.{lone_of, same-event, other-event}

module _ {customers securities : ℕ} where
  pub good-after : (w : List ℕ) → Good customers securities w → (history : List (List ℕ)) → Good customers securities (words_after w history)
  unfolding words_after
  good-after w good [] = good
  good-after w good (b ∷ bs) = good-after (event_words w b) (keeps w good b) bs

  module _ (k : ℕ) (below : k < customers) where
    pub same-answers : (w : List ℕ) → Good customers securities w → (history : List (List ℕ))
        → lone_answers (lone_of w k) (keep (is_fed customers k) history) ≡ answers_to (is_fed customers k) w history
    unfolding lone_answers answers_to keep
    same-answers w good [] = refl
    same-answers w good (b ∷ bs) = go (is_fed customers k b) refl (same-answers (event_words w b) (keeps w good b) bs)
      where
        rest : List (List ℕ)
        rest = keep (is_fed customers k) bs

        later : List Answer
        later = answers_to (is_fed customers k) (event_words w b) bs

        go : (t : Bool) → is_fed customers k b ≡ t → lone_answers (lone_of (event_words w b) k) rest ≡ later
            → lone_answers (lone_of w k) (cond t (b ∷ rest) rest) ≡ cond t (event_answer w b ∷ later) later
        go true fed ih = ap (λ (x : Answer × Lone). x.0 ∷ lone_answers x.1 rest) (same-event w good k below b fed) ∙ ap (λ (xs : List Answer). event_answer w b ∷ xs) ih
        go false other ih = ap (λ (l : Lone). lone_answers l rest) (sym (other-event w good k below b other)) ∙ ih

    pub same_after : (w : List ℕ) → Good customers securities w → (history : List (List ℕ))
        → lone_after (lone_of w k) (keep (is_fed customers k) history) ≡ lone_of (words_after w history) k
    unfolding lone_after words_after keep
    same_after w good [] = refl
    same_after w good (b ∷ bs) = go (is_fed customers k b) refl (same_after (event_words w b) (keeps w good b) bs)
      where
        rest : List (List ℕ)
        rest = keep (is_fed customers k) bs

        go : (t : Bool) → is_fed customers k b ≡ t → lone_after (lone_of (event_words w b) k) rest ≡ lone_of (words_after (event_words w b) bs) k
            → lone_after (lone_of w k) (cond t (b ∷ rest) rest) ≡ lone_of (words_after (event_words w b) bs) k
        go true fed ih = ap (λ (x : Answer × Lone). lone_after x.1 rest) (same-event w good k below b fed) ∙ ih
        go false other ih = ap (λ (l : Lone). lone_after l rest) (sym (other-event w good k below b other)) ∙ ih

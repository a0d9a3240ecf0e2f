-- Refusals: which condition is met, that it is the first, and that the words stay equal.
-- Assumes nothing.
use mathlib.Core.Bool.{Bool, true, false, cond, not, and-eq-true_iff}
use mathlib.Core.List.{List, [], ◌∷◌}
use mathlib.Core.Path.{◌≡◌, refl, ap, sym, subst, ◌∙◌}
use Prim.Native.Nat.{ℕ}
use lib.Dec.{eqb}
use borrow.Author.Tests.{eqb-true, eqb-false, ne_eqb}
use Rattle.definitions.specs.Answers.{Answer}
use Rattle.definitions.specs.Answers as answer
use Rattle.definitions.specs.Lists.{all, first_met}
use Rattle.definitions.specs.State.{state_fits}
use Rattle.definitions.specs.Events.{event_in, bytes_conditions}
use Rattle.definitions.specs.Gate as gate
use Rattle.definitions.specs.Gate.{answer_of, conditions, perform, refused_or, outcome, event_answer, event_words}
use Rattle.definitions.proofs.Table.{in_table, Numbered, none_rest}
use Rattle.definitions.proofs.Passed.{table, never-refused, numbered-state, numbered-table}
use Rattle.definitions.proofs.Rows.{all_append}

pub record Refused (w b : List ℕ) (n : ℕ) : Type 0 where
  pub first : first_met (conditions w b) ≡ n
  pub some : n ≡ 0 → ⊥
  pub words : event_words w b ≡ w

same_number : (m n : ℕ) → ◌≡◌ {A = Answer} (answer.Refused m) (answer.Refused n) → m ≡ n
same_number m n e = cc

pub refused : (w b : List ℕ) (n : ℕ) → event_answer w b ≡ answer.Refused n → Refused w b n
unfolding outcome
refused w b n e = go (eqb first 0) refl e
  where
    first : ℕ
    first = first_met (conditions w b)

    go : (t : Bool) → eqb first 0 ≡ t → answer_of (cond t (perform w (event_in b)) (gate.refused first)) ≡ answer.Refused n → Refused w b n
    go true none a = absurd (never-refused w (event_in b) n a)
    go false some a =
        let number = same_number first n a in
        record { first = number; some = λ zero. eqb-false first 0 some (number ∙ zero); words = rw some }

-- and the other way round: an event that meets a condition is refused with the first
pub refuses : (w b : List ℕ) (n : ℕ) → first_met (conditions w b) ≡ n → (n ≡ 0 → ⊥) → event_answer w b ≡ answer.Refused n
unfolding outcome
refuses w b n first some =
    ap (λ (m : ℕ). answer_of (refused_or m (perform w (event_in b)))) first
    ∙ ap (λ (t : Bool). answer_of (cond t (perform w (event_in b)) (gate.refused n))) (ne_eqb n 0 some)

-- a condition of the table is met, and none above it
pub data FoundFirst (n : ℕ) : List (ℕ × Bool) → Type 0 where
  here : (cs : List (ℕ × Bool)) → FoundFirst n ((n, true) ∷ cs)
  below : (m : ℕ) (cs : List (ℕ × Bool)) → FoundFirst n cs → FoundFirst n ((m, false) ∷ cs)

pub found_first : (n : ℕ) (cs : List (ℕ × Bool)) → first_met cs ≡ n → (n ≡ 0 → ⊥) → FoundFirst n cs
unfolding first_met
found_first n [] e some = absurd (some (sym e))
found_first n (c ∷ cs) e some = go c.0 c.1 e (λ f. found_first n cs f some)
  where
    go : (m : ℕ) (t : Bool) → cond t m (first_met cs) ≡ n → (first_met cs ≡ n → FoundFirst n cs) → FoundFirst n ((m, t) ∷ cs)
    go m true f rest = subst (λ (i : ℕ). FoundFirst n ((i, true) ∷ cs)) (sym f) (here cs)
    go m false f rest = below m cs (rest f)

-- the other way round: what stands first in that sense is what `first_met` gives
pub first_found : (n : ℕ) (cs : List (ℕ × Bool)) → FoundFirst n cs → first_met cs ≡ n
unfolding first_met
first_found n cs (here rest) = refl
first_found n cs (below m rest found) = first_found n rest found

-- where no number of a table is 0 and nothing is found, no condition is met
pub none-met : (cs : List (ℕ × Bool)) → Numbered cs → first_met cs ≡ 0 → all (λ (c : ℕ × Bool). not c.1) cs ≡ true
unfolding first_met all
none-met [] some none = refl
none-met (c ∷ cs) some none =
    let parts = (and-eq-true_iff (in_table c) (all in_table cs)).0 some in
    let rest = none_rest c.0 c.1 cs parts.0 none in
    rw rest.0 (none-met cs parts.1 rest.1)

pub numbered-conditions : (w b : List ℕ) → Numbered (conditions w b)
unfolding conditions
numbered-conditions w b =
    all_append in_table ((1, not (state_fits w)) ∷ bytes_conditions b) (table w (event_in b)) (numbered-state w b) (numbered-table w (event_in b))

-- an event that is not refused meets no condition, and is done
pub unrefused : (w b : List ℕ) → ((n : ℕ) → event_answer w b ≡ answer.Refused n → ⊥) → first_met (conditions w b) ≡ 0
unrefused w b answered = go (eqb (first_met (conditions w b)) 0) refl
  where
    go : (t : Bool) → eqb (first_met (conditions w b)) 0 ≡ t → first_met (conditions w b) ≡ 0
    go true e = eqb-true (first_met (conditions w b)) 0 e
    go false e = absurd (answered (first_met (conditions w b)) (refuses w b (first_met (conditions w b)) refl (eqb-false (first_met (conditions w b)) 0 e)))

pub unrefused-performs : (w b : List ℕ) → ((n : ℕ) → event_answer w b ≡ answer.Refused n → ⊥) → outcome w b ≡ perform w (event_in b)
unfolding outcome
unrefused-performs w b answered = ap (λ (n : ℕ). refused_or n (perform w (event_in b))) (unrefused w b answered)

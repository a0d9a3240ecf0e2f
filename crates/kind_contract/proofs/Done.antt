-- What a kind's function leaves where no condition is met: a security or a desk changed and put back.
-- Assumes nothing.
use mathlib.Core.List.{List}
use mathlib.Core.Path.{◌≡◌, ap, sym, ◌∙◌}
use Prim.Native.Nat.{ℕ}
use Rattle.definitions.specs.declared.Security.{Security}
use Rattle.definitions.specs.declared.Event.{Event}
use Rattle.definitions.specs.Answers.{Answer}
use Rattle.definitions.specs.Answers as answer
use Rattle.definitions.specs.State.{security_at, put_security}
use Rattle.definitions.specs.Gate.{done, result_of, change_security, perform}
use Rattle.kind_contract.specs.First.{later_refusal, later_outcome}
use Rattle.kind_contract.proofs.Laws.{later-done}

-- an answer and the words after it
abbrev pub Left : Type 0
Left = Answer × List ℕ

module _ (w : List ℕ) (e : Event) (none : later_refusal w e ≡ 0) where
  -- the words that are done, with any answer
  pub words-done : (a : Answer) {v u : List ℕ} → perform w e ≡ done a u → v ≡ u → ◌≡◌ {A = Left} (a, v) (result_of w (later_outcome w e))
  words-done a does same =
      later-done w e none (ap {B = Left} (λ (x : List ℕ). (a, x)) same ∙ ap (result_of w) (sym does))

  pub security-done : (f : Security → Security) (s : ℕ) → perform w e ≡ done answer.Ok (change_security f s w) → {x y : Security} {v : List ℕ}
      → x ≡ security_at w s → y ≡ f x → v ≡ put_security w s y → ◌≡◌ {A = Left} (answer.Ok, v) (result_of w (later_outcome w e))
  security-done f s does ex ey ev = words-done answer.Ok does (ev ∙ ap (put_security w s) (ey ∙ ap f ex))

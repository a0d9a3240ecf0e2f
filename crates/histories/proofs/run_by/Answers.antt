-- `histories::run_by` meets its contract: after each turn, what is done and what is left make the whole.
use mathlib.Core.Path.{◌≡◌, sym}
use native.Mathlib.Omega.{arith}
use lib.ListN.{length}
use Rattle.std.proofs.lemmas.List.{set-get_or}
use Rattle.definitions.specs.Answers.{refusal_number}
use Rattle.histories.proofs.Histories.{turns-next, turns-end, turns-full}
use Rattle.histories.proofs.run_by.Goals as goal

pub returns-in_default : goal.returns-in_default
returns-in_default g c ends gives =
    let l = c.loop-count in
    rw set-get_or (turns-end _ _ _ _ _ _ _ _ (l.invariant.1 ends gives) (sym (gives _ _ _ l.invariant.0 c.in_default.ensures)))

pub loop-count-preserved : goal.loop-count-preserved
loop-count-preserved g c =
    let l = c.loop-count in (
      (c.requires.within _ _ _ l.invariant.0 c.in-Some.ensures).1,
      λ ends gives.
          turns-next _ _ _ _ _ _ _ _ (l.invariant.1 ends gives) _ (omega arith) (sym (gives _ _ _ l.invariant.0 c.in-Some.ensures)) c.handle.auto.words
          c.handle.ensures
          (c.answer_number.ensures refusal_number (λ r n e. e)),
    )

pub returns : goal.returns
returns g c ends gives =
    let l = c.loop-count in
    let all : l.count ≡ length l.answers = omega arith in
    rw (← all) (turns-full _ _ _ _ _ _ _ _ (l.invariant.1 ends gives) (omega arith))

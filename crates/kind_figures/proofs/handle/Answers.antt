-- `kind_figures::handle` meets its contract: condition 13, or the security with its new figures.
use mathlib.Core.Bool.{Bool}
use mathlib.Core.List.{List}
use mathlib.Core.Path.{◌≡◌, refl, ap, sym, ◌∙◌}
use Prim.Native.Nat.{ℕ}
use Rattle.definitions.specs.declared.Figures.{Figures}
use Rattle.definitions.specs.declared.Security.{Security}
use Rattle.definitions.specs.declared.Event.TheVariants as event
use Rattle.definitions.specs.Lists.{first_met}
use Rattle.definitions.specs.State.{security_at}
use Rattle.definitions.specs.Sound.{settable}
use Rattle.definitions.specs.Gate.{perform}
use Rattle.definitions.specs.Securities.{after_figures}
use Rattle.kind_contract.specs.First.{later_refusal}
use Rattle.kind_contract.proofs.Laws.{later-refused, security-fits}
use Rattle.kind_contract.proofs.Done.{security-done}
use Rattle.kind_figures.proofs.handle.Goals as goal

-- what is asked of the security that was taken out is asked of the one in the words
asked : (w : List ℕ) (s : ℕ) (f : Figures) {x : Security} {t : Bool} → x ≡ security_at w s → t ≡ settable x.prior.close f → settable (security_at w s).prior.close f ≡ t
asked w s f ex et = sym (et ∙ ap (λ (y : Security). settable y.prior.close f) ex)

pub returns-then-not-settable : goal.returns-then-not-settable
unfolding later_refusal first_met
returns-then-not-settable c = later-refused _ _ 13 refl (rw (asked _ _ _ c.security_at-s.ensures c.settable.ensures, c.if-not-settable.true))

pub returns : goal.returns
unfolding later_refusal first_met perform
returns c =
    let w = c.args.words.now in
    let x = c.args.x in
    security-done w (event.Figures x) (rw (asked w x.security x.figures c.security_at-s.ensures c.settable.ensures, c.if-not-settable.false))
    (after_figures x) x.security refl c.security_at-s.ensures c.after_figures.ensures c.put_security.ensures

pub security_at-s-requires : goal.security_at-s-requires
security_at-s-requires c = security-fits _ _ c.requires _ refl

pub put_security-requires : goal.put_security-requires
put_security-requires c = security-fits _ _ c.requires _ refl

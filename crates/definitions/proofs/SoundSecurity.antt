-- A sound security record stays sound: after a setup, after prices, after figures, and without its projected prices.
-- Assumes nothing.
use mathlib.Core.Bool.{Bool, true, false, cond, not}
use mathlib.Core.List.{List, [], ◌∷◌}
use mathlib.Core.Path.{◌≡◌, refl}
use lib.Dec.{eqb}
use borrow.Author.Tests.{not-false}
use Rattle.definitions.specs.declared.Prices.{Prices}
use Rattle.definitions.specs.declared.Security.{Security}
use Rattle.definitions.specs.declared.Setup.{Setup}
use Rattle.definitions.specs.declared.BoardPrices.{BoardPrices}
use Rattle.definitions.specs.declared.SecurityFigures.{SecurityFigures}
use Rattle.definitions.specs.Codes.{foreign_board}
use Rattle.definitions.specs.Sound.{price_or_absent, sound_terms, sound_prior, sound_prices, settable, zero_figures, sound_figures, sound_security}
use Rattle.definitions.specs.Securities.{after_setup, with_prices, after_prices, after_figures, no_projected, without_projected}
use Rattle.definitions.proofs.Tests.{or-second, joined-parts, joined-whole}

-- a sound security record, with a name for each part of the test
pub record SoundSecurity (s : Security) : Type 0 where
  pub terms : sound_terms s.terms ≡ true
  pub prior : sound_prior s.prior ≡ true
  pub main : sound_prices s.main ≡ true
  pub foreign : sound_prices s.foreign ≡ true
  pub figures : sound_figures s.prior.close s.figures ≡ true

-- the tests behind the first
abbrev later_tests : Security → List Bool
later_tests s = sound_prior s.prior ∷ sound_prices s.main ∷ sound_prices s.foreign ∷ sound_figures s.prior.close s.figures ∷ []

pub security-true : (s : Security) → sound_security s ≡ true → SoundSecurity s
unfolding sound_security
security-true s e =
    let p = joined-parts (sound_terms s.terms) (later_tests s) e in
    record { terms = p.0; prior = p.1.0; main = p.1.1.0; foreign = p.1.1.1.0; figures = p.1.1.1.1.0 }

pub true-security : (s : Security) → SoundSecurity s → sound_security s ≡ true
unfolding sound_security
true-security s h = joined-whole (sound_terms s.terms) (later_tests s) (h.terms, (h.prior, (h.main, (h.foreign, (h.figures, tt)))))

pub sound-setup : (x : Setup) (s : Security) → sound_security s ≡ true → not (sound_terms x.terms) ≡ false → not (sound_prior x.prior) ≡ false
    → sound_security (after_setup x s) ≡ true
unfolding after_setup
sound-setup x s e c p =
    let h = security-true s e in
    true-security
    (after_setup x s)
    (record { terms = not-false (sound_terms x.terms) c; prior = not-false (sound_prior x.prior) p; main = h.main; foreign = h.foreign; figures = refl })

-- a sound security record with other sound prices
sound-with : (main foreign : Prices) (s : Security) → SoundSecurity s → sound_prices main ≡ true → sound_prices foreign ≡ true
    → sound_security (with_prices main foreign s) ≡ true
sound-with main foreign s h m f =
    true-security (with_prices main foreign s) (record { terms = h.terms; prior = h.prior; main = m; foreign = f; figures = h.figures })

pub sound-prices : (x : BoardPrices) (s : Security) → sound_security s ≡ true → not (sound_prices x.prices) ≡ false
    → sound_security (after_prices x s) ≡ true
unfolding after_prices
sound-prices x s e p = go (eqb x.board foreign_board)
  where
    h : SoundSecurity s
    h = security-true s e

    b : sound_prices x.prices ≡ true
    b = not-false (sound_prices x.prices) p

    go : (t : Bool) → sound_security (cond t (with_prices s.main x.prices s) (with_prices x.prices s.foreign s)) ≡ true
    go true = sound-with s.main x.prices s h h.main b
    go false = sound-with x.prices s.foreign s h b h.foreign

pub sound-figures : (x : SecurityFigures) (s : Security) → sound_security s ≡ true → not (settable s.prior.close x.figures) ≡ false
    → sound_security (after_figures x s) ≡ true
unfolding after_figures
sound-figures x s e set =
    let h = security-true s e in
    true-security
    (after_figures x s)
    (record { terms = h.terms; prior = h.prior; main = h.main; foreign = h.foreign; figures = or-second (zero_figures x.figures) (not-false (settable s.prior.close x.figures) set) })

sound-no_projected : (p : Prices) → sound_prices p ≡ true → sound_prices (no_projected p) ≡ true
sound-no_projected p e =
    let others = price_or_absent p.last_sale ∷ price_or_absent p.bid ∷ price_or_absent p.offer ∷ [] in
    joined-whole true others (refl, (joined-parts (price_or_absent p.projected) others e).1)

pub sound-without-projected : (s : Security) → sound_security s ≡ true → sound_security (without_projected s) ≡ true
unfolding without_projected
sound-without-projected s e =
    let h = security-true s e in
    sound-with (no_projected s.main) (no_projected s.foreign) s h (sound-no_projected s.main h.main) (sound-no_projected s.foreign h.foreign)

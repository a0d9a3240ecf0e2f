-- Paper 02, 3, kind 9: it is refused with 13 where the paper says so and nowhere else, and it and kind 3 alone change the figures of a security.
-- Assumes nothing.
use mathlib.Core.Bool.{Bool, true, false, cond, ◌&&◌, and-false}
use mathlib.Core.List.{List}
use mathlib.Core.Logic.{◌⊎◌, ⊎_elim}
use mathlib.Core.Path.{◌≡◌, refl, ap, sym, ◌∙◌}
use Prim.Native.Nat.{ℕ, ◌+◌, ◌≤◌, ◌<◌}
use native.Mathlib.Omega.{arith}
use lib.Dec.{leb, eqb, lit≤, lit<}
use lib.ListN.{get_or}
use borrow.Author.Tests.{eq-eqb, ne_eqb, le-leb, lt-leb, lt-ltb, le-ltb}
use Rattle.definitions.specs.declared.Figures.{Figures}
use Rattle.definitions.specs.declared.Security.{Security}
use Rattle.definitions.specs.declared.SecurityFigures.{SecurityFigures}
use Rattle.definitions.specs.declared.BoardPrices.{BoardPrices}
use Rattle.definitions.specs.declared.Event.{Event}
use Rattle.definitions.specs.declared.Event.TheVariants as event
use Rattle.definitions.specs.Answers as answer
use Rattle.definitions.specs.Codes.{foreign_board, max_shares}
use Rattle.definitions.specs.Lists.{first_met}
use Rattle.definitions.specs.State.{no_figures, header_of, security_at, desk_at, put_security}
use Rattle.definitions.specs.Sound.{settable}
use Rattle.definitions.specs.Events.{two, event_in, bytes_conditions}
use Rattle.definitions.specs.Changes.{Change, set_clock, set_session, set_security, enter_order, set_rows, change_of}
use Rattle.definitions.specs.Refusals.{bad_name}
use Rattle.definitions.specs.Gate.{Outcome, words_of, change_security, after_session, applied, perform, event_answer, event_words}
use Rattle.definitions.specs.Securities.{after_setup, after_prices, after_figures}
use Rattle.definitions.proofs.Tests.{either}
use Rattle.definitions.proofs.Passed.{Passed, passed, Inside, none-met-event, answer-read}
use Rattle.definitions.proofs.WellFormed.{Good, fits, compared, records-sound, security-counted, below-securities, order-names, customer-named}
use Rattle.definitions.proofs.SoundDesk as desk
use Rattle.definitions.proofs.State as state
use Rattle.definitions.proofs.HeaderWords as words
use Rattle.definitions.proofs.SessionChange.{changed-words}
use Rattle.definitions.proofs.Refused.{unrefused, unrefused-performs}

-- what an event that is done leaves of the figures of security s: "New kind 9", "kind 3 clears it", and no other
abbrev pub figures_by : Event → ℕ → Figures → Figures
figures_by (event.Clock t) s f = f
figures_by (event.Session t) s f = f
figures_by (event.Setup x) s f = cond (eqb x.security s) no_figures f
figures_by (event.Prices x) s f = f
figures_by (event.Order k x) s f = f
figures_by (event.Cancel k x) s f = f
figures_by (event.Match k x) s f = f
figures_by (event.Rest k x) s f = f
figures_by (event.Figures x) s f = cond (eqb x.security s) x.figures f

-- and what its change leaves of them
abbrev figures_in : Change → ℕ → Security → Figures
figures_in (set_clock t) s y = y.figures
figures_in (set_session t) s y = y.figures
figures_in (set_security t f) s y = cond (eqb t s) (f y).figures y.figures
figures_in (enter_order k x) s y = y.figures
figures_in (set_rows k f) s y = y.figures

prices-keep : (x : BoardPrices) (y : Security) → (after_prices x y).figures ≡ y.figures
unfolding after_prices
prices-keep x y = either (λ (z : Security). z.figures ≡ y.figures) (eqb x.board foreign_board) _ _ (λ _. refl) (λ _. refl)

kind-figures : (e : Event) (s : ℕ) (y : Security) → figures_in (change_of e) s y ≡ figures_by e s y.figures
unfolding after_setup after_figures
kind-figures (event.Clock t) s y = refl
kind-figures (event.Session t) s y = refl
kind-figures (event.Setup x) s y = refl
kind-figures (event.Prices x) s y = either (λ (g : Figures). g ≡ y.figures) (eqb x.security s) _ _ (λ _. prices-keep x y) (λ _. refl)
kind-figures (event.Order k x) s y = refl
kind-figures (event.Cancel k x) s y = refl
kind-figures (event.Match k x) s y = refl
kind-figures (event.Rest k x) s y = refl
kind-figures (event.Figures x) s y = refl

-- a security with other figures, and all else as it was
abbrev pub with_figures : Figures → Security → Security
with_figures f s = record { terms = s.terms; prior = s.prior; main = s.main; foreign = s.foreign; figures = f }

-- over any words
pub figures-alone : (w b : List ℕ) (x : SecurityFigures) → event_in b ≡ event.Figures x → ((n : ℕ) → event_answer w b ≡ answer.Refused n → ⊥)
    → event_words w b ≡ put_security w x.security (with_figures x.figures (security_at w x.security))
unfolding perform after_figures
figures-alone w b x e answered = ap (words_of w) (unrefused-performs w b answered ∙ ap (perform w) e)

-- the shares of an event: "old shares (2), new shares (2)"
pub two_bytes : (b : List ℕ) (at : ℕ) → get_or b at 0 < 256 → get_or b (at + 1) 0 < 256 → two b at ≤ max_shares
two_bytes b at low high = omega (arith, low, high)

module _ {customers securities : ℕ} (w : List ℕ) (good : Good customers securities w) where
  module _ (x : SecurityFigures) (below : x.security < securities) (b : List ℕ) (read : first_met (bytes_conditions b) ≡ 0) (e : event_in b ≡ event.Figures x) where
    abbrev prior : ℕ
    prior = (security_at w x.security).prior.close

    abbrev x_figures : Figures
    x_figures = x.figures

    named : bad_name (header_of w) (event.Figures x) ≡ false
    named = security-counted w good x.security below

    by-test : (t : Bool) → settable prior x_figures ≡ t → event_answer w b ≡ cond t answer.Ok (answer.Refused 13)
    unfolding first_met perform
    by-test true taken = answer-read w b (fits w good) read e 0 (rw (named, records-sound w good (event.Figures x) named, taken))
    by-test false not_taken = answer-read w b (fits w good) read e 13 (rw (named, records-sound w good (event.Figures x) named, not_taken))

    -- "a new kind .. is answered ok": read whole, of a security below S, with shares, and a dividend below the prior close
    pub figures-taken : 1 ≤ x_figures.old_shares → x_figures.old_shares ≤ max_shares → x_figures.new_shares ≤ max_shares → x_figures.dividend < prior
        → event_answer w b ≡ answer.Ok
    figures-taken some old new small =
        by-test true (rw (le-leb 1 x_figures.old_shares some, le-leb x_figures.old_shares max_shares old, le-leb x_figures.new_shares max_shares new, lt-ltb x_figures.dividend prior small))

    -- "13 if old is 0 or the dividend is not below the prior close"
    pub figures-refused : (x_figures.old_shares ≡ 0) ⊎ (prior ≤ x_figures.dividend) → event_answer w b ≡ answer.Refused 13
    figures-refused =
        ⊎_elim
        (λ none. by-test false (rw (lt-leb 1 x_figures.old_shares (omega (arith, none)))))
        (λ large. by-test false (rw (le-ltb x_figures.dividend prior large, and-false (leb 1 x_figures.old_shares && leb x_figures.old_shares max_shares && leb x_figures.new_shares max_shares))))

  -- the figures of security s after a change of security t
  figures-changed : (f : Security → Security) (t : ℕ) → t < securities → (s : ℕ) → s < securities
      → (security_at (change_security f t w) s).figures ≡ cond (eqb t s) (f (security_at w s)).figures (security_at w s).figures
  figures-changed f t t-below s s-below =
      let x = f (security_at w t) in
      ⊎_elim
      (λ less. rw (ne_eqb t s (λ same. omega (arith, less, same))) (ap (λ (y : Security). y.figures) (state.security-put-below w good.sized t t-below x s less)))
      (⊎_elim
      (λ same. rw (eq-eqb t s (sym same)) (ap (λ (y : Security). y.figures) (ap (security_at (change_security f t w)) same ∙ state.security-put-same w good.sized t t-below x) ∙ ap (λ (i : ℕ). (f (security_at w i)).figures) (sym same)))
      (λ more. rw (ne_eqb t s (λ same. omega (arith, more, same))) (ap (λ (y : Security). y.figures) (state.security-put-above w good.sized t t-below x s more))))
      (compared s t)

  figures-applied : (c : Change) → Inside w c → (s : ℕ) → s < securities → (security_at (words_of w (applied w c)) s).figures ≡ figures_in c s (security_at w s)
  unfolding after_session
  figures-applied (set_clock t) inside s below = ap (λ (y : Security). y.figures) (words.security-put w good.sized 2 (lit≤ tt) (lit< tt) t s)
  figures-applied (set_session t) inside s below =
      either (λ (v : List ℕ). (security_at v s).figures ≡ (security_at w s).figures) (eqb t (header_of w).session) _ _ (λ _. refl) (λ _. ((changed-words w good t).security s below).figures)
  figures-applied (set_security t f) inside s below = figures-changed f t (below-securities w good t inside) s below
  figures-applied (enter_order k x) inside s below =
      ap (λ (y : Security). y.figures)
      (state.security-put-desk w good.sized k (order-names w good k x.security inside).0 _
      (desk.length-ordered _ (header_of w).clock x (desk_at w k) ∙ state.length-desk-rows w k) s below)
  figures-applied (set_rows k f) inside s below =
      ap (λ (y : Security). y.figures)
      (state.security-put-desk w good.sized k (customer-named w good k inside) _ (desk.length-changed _ (desk_at w k) ∙ state.length-desk-rows w k) s below)

  pub figures-performed : (e : Event) → Passed w e → (s : ℕ) → s < securities → (security_at (words_of w (perform w e)) s).figures ≡ figures_by e s (security_at w s).figures
  unfolding perform
  figures-performed e p s below = figures-applied (change_of e) (passed 4 w e p) s below ∙ kind-figures e s (security_at w s)

  -- "New kind 9", "kind 3 clears it": they alone change figures, and those of their own security
  pub figures-done : (b : List ℕ) (s : ℕ) → s < securities → ((n : ℕ) → event_answer w b ≡ answer.Refused n → ⊥) → (security_at (event_words w b) s).figures ≡ figures_by (event_in b) s (security_at w s).figures
  figures-done b s below answered =
      ap (λ (o : Outcome). (security_at (words_of w o) s).figures) (unrefused-performs w b answered)
      ∙ figures-performed (event_in b) (none-met-event w b (unrefused w b answered)) s below

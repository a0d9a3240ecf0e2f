-- Paper 02, 2, "Closing prices after a right has gone": where the reference is on the ladder warn 10 is paper 01's, between two steps it counts from both, and a
-- setup is refused for its prior close where that is beyond the last price and nowhere else.
-- Assumes nothing.
use Rattle.std.specs.Prelude.{Some}
use mathlib.Core.Bool.{Bool, true, false, ◌&&◌, ◌||◌, not, and-true, and-false}
use mathlib.Core.List.{List, [], ◌∷◌}
use mathlib.Core.Logic.{⊎_elim}
use mathlib.Core.Path.{◌≡◌}
use Prim.Native.Nat.{ℕ, ◌+◌, ◌≤◌, ◌<◌}
use native.Mathlib.Omega.{arith}
use lib.Dec.{ltb, eqb}
use borrow.Author.Tests.{eqb-true, ne_eqb, le-leb, lt-leb}
use Rattle.ladder.specs.Bands.{last_price, positions}
use Rattle.ladder.specs.Ladder.{band_of_price, legal, nearest_in, nearest_to, position_of, position_number, price_at}
use Rattle.ladder.proofs.Laws.{legal-true}
use Rattle.ladder.proofs.NearestLaws.{answered, none_below, at_position, both_equal, lies-between}
use Rattle.definitions.specs.declared.Security.{Security}
use Rattle.definitions.specs.declared.MarketView.{MarketView}
use Rattle.definitions.specs.declared.Order.{Order}
use Rattle.definitions.specs.declared.Setup.{Setup}
use Rattle.definitions.specs.declared.Event.TheVariants as event
use Rattle.definitions.specs.Answers as answer
use Rattle.definitions.specs.Lists.{first_met}
use Rattle.definitions.specs.State.{header_of, security_at}
use Rattle.definitions.specs.Sound.{price_or_absent, sound_terms, sound_prices}
use Rattle.definitions.specs.Events.{event_in, bytes_conditions}
use Rattle.definitions.specs.Refusals.{bad_name}
use Rattle.definitions.specs.Rules.{or_else, reference10, ten_apart, covered_by10, warn10}
use Rattle.definitions.specs.Gate.{perform, market_view_at, event_answer}
use Rattle.definitions.proofs.Tests.{either, or_cases, joined-parts}
use Rattle.definitions.proofs.Passed.{answer-read}
use Rattle.definitions.proofs.SoundSecurity.{security-true}
use Rattle.definitions.proofs.WellFormed.{Good, fits, records-sound, security-counted}

-- paper 01: "more than 10 ladder positions from the projected price, else last sale, else prior close; none, no check"
abbrev pub apart_on_ladder : ℕ → ℕ → Bool
apart_on_ladder j k = ltb (j + 10) k || ltb (k + 10) j

abbrev pub warn10_on_ladder : MarketView → Order → Bool
warn10_on_ladder m o =
    covered_by10 m.session o
    && not (eqb (reference10 m.security) 0)
    && apart_on_ladder (position_number (position_of (reference10 m.security))) (position_number (position_of o.price))

-- "counts up from the lower and down from the upper position", of a reference between the positions j and j + 1
abbrev pub warn10_between : ℕ → MarketView → Order → Bool
warn10_between j m o =
    covered_by10 m.session o && (ltb (j + 10) (position_number (position_of o.price)) || ltb (position_number (position_of o.price) + 10) (j + 1))

legal-apart : (reference k : ℕ) → legal reference ≡ true → ten_apart (nearest_to reference) k ≡ apart_on_ladder (position_number (position_of reference)) k
legal-apart reference k t =
    let h = legal-true reference t in
    let n = nearest_in (band_of_price reference) reference in
    let e : nearest_to reference ≡ Some n = answered reference h.above h.below in
    let same : n.lower ≡ n.upper = both_equal reference n e t in
    rw (at_position reference n e t, e) cc

not-absent : (p : ℕ) → legal p ≡ true → eqb p 0 ≡ false
not-absent p t = ne_eqb p 0 (λ none. omega (arith, none, (legal-true p t).above))

apart-same : (covered : Bool) (reference k : ℕ) → price_or_absent reference ≡ true
    → (covered && ten_apart (nearest_to reference) k) ≡ (covered && not (eqb reference 0) && apart_on_ladder (position_number (position_of reference)) k)
apart-same covered reference k p = ⊎_elim absent present (or_cases (eqb reference 0) (legal reference) p)
  where
    absent : eqb reference 0 ≡ true → (covered && ten_apart (nearest_to reference) k) ≡ (covered && not (eqb reference 0) && apart_on_ladder (position_number (position_of reference)) k)
    absent none = rw (none_below reference (omega (arith, eqb-true reference 0 none)), none, and-false covered)

    present : legal reference ≡ true → (covered && ten_apart (nearest_to reference) k) ≡ (covered && not (eqb reference 0) && apart_on_ladder (position_number (position_of reference)) k)
    present t = rw (not-absent reference t, and-true covered, legal-apart reference k t)

-- for every legal reference, and for none, the rule is paper 01's
pub on-the-ladder : (m : MarketView) (o : Order) → price_or_absent (reference10 m.security) ≡ true → warn10 m o ≡ warn10_on_ladder m o
unfolding warn10
on-the-ladder m o p = apart-same (covered_by10 m.session o) (reference10 m.security) (position_number (position_of o.price)) p

-- and for every other price
pub between-two-steps : (m : MarketView) (o : Order) (j : ℕ) → 1 ≤ j → j < positions
    → price_at j < reference10 m.security → reference10 m.security < price_at (j + 1)
    → warn10 m o ≡ warn10_between j m o
unfolding warn10
between-two-steps m o j one before above below = rw (lies-between (reference10 m.security) j one before above below)

-- of warn 10's references only the prior close may stand off the ladder
reference-on-ladder : (s : Security) → sound_prices s.main ≡ true → price_or_absent s.prior.close ≡ true → price_or_absent (reference10 s) ≡ true
reference-on-ladder s sound close =
    let p = s.main in
    let on = joined-parts (price_or_absent p.projected) (price_or_absent p.last_sale ∷ price_or_absent p.bid ∷ price_or_absent p.offer ∷ []) sound in
    either (λ (n : ℕ). price_or_absent n ≡ true) (eqb p.projected 0) (or_else p.last_sale s.prior.close) p.projected
    (λ _. either (λ (n : ℕ). price_or_absent n ≡ true) (eqb p.last_sale 0) s.prior.close p.last_sale (λ _. close) (λ _. on.1.0))
    (λ _. on.0)

module _ {customers securities : ℕ} (w : List ℕ) (good : Good customers securities w) where
  -- so that in a well-formed state an order of a security whose prior close is absent or legal gets warn 10 where paper 01 gives it
  pub legal-close : (s : ℕ) → s < securities → price_or_absent (security_at w s).prior.close ≡ true → (o : Order)
      → warn10 (market_view_at w s) o ≡ warn10_on_ladder (market_view_at w s) o
  legal-close s below close o =
      on-the-ladder (market_view_at w s) o (reference-on-ladder (security_at w s) (security-true (security_at w s) (good.securities-sound s below)).main close)

  module _ (x : Setup) (below : x.security < securities) (listed : sound_terms x.terms ≡ true)
      (b : List ℕ) (read : first_met (bytes_conditions b) ≡ 0) (e : event_in b ≡ event.Setup x) where
    named : bad_name (header_of w) (event.Setup x) ≡ false
    named = security-counted w good x.security below

    -- "Refusal 6 .. now take[s] any prior close up to 10,000,000"
    pub close-taken : x.prior.ipo ≤ last_price → x.prior.close ≤ last_price → event_answer w b ≡ answer.Ok
    unfolding first_met perform
    close-taken ipo last =
        answer-read w b (fits w good) read e 0 (rw (named, listed, le-leb x.prior.close last_price last, le-leb x.prior.ipo last_price ipo, records-sound w good (event.Setup x) named))

    pub close-refused : last_price < x.prior.close → event_answer w b ≡ answer.Refused 6
    unfolding first_met perform
    close-refused past = answer-read w b (fits w good) read e 6 (rw (named, listed, lt-leb x.prior.close last_price past))

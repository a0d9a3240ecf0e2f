-- The laws that the proof of the verdict cites: of orders that W and P do not cover, and of the first rule that applies.
-- Assumes nothing.
use mathlib.Core.Bool.{Bool, true, false}
use mathlib.Core.List.{List, [], ◌∷◌}
use mathlib.Core.Path.{◌≡◌, refl, sym}
use lib.Dec.{eqb}
use Rattle.definitions.specs.declared.Order.{Order}
use Rattle.definitions.specs.declared.Verdict.{Verdict}
use Rattle.definitions.specs.declared.Verdict.TheVariants.{RejectS, RejectV, RejectC, RejectQ, RejectW, RejectP, Warn30, Warn10, Accept}
use Rattle.definitions.specs.Codes.{online}
use Rattle.definitions.specs.Rules.{View, rule_s, rule_v, rule_c, rule_q, rule_w, rule_p, warn30, warn10, first_that, verdict_of}
use Rattle.rule_rows.specs.Covered.{covered_by_p}

pub not-w : (v : View) (o : Order) → eqb o.channel online ≡ false → rule_w v o ≡ false
unfolding rule_w
not-w v o other = rw other

pub not-p : (v : View) (o : Order) → covered_by_p v.market.session o ≡ false → rule_p v o ≡ false
unfolding rule_p
not-p v o other = rw other

-- the rules that are left decide, since none before them applies
pub record Left (v : View) (o : Order) (rules : List (Bool × Verdict)) : Type 0 where
  pub decide : verdict_of v o ≡ first_that rules

abbrev pub all_rules : View → Order → List (Bool × Verdict)
all_rules v o =
    (rule_s v.market o, RejectS)
    ∷ (rule_v v.market o, RejectV)
    ∷ (rule_c v.market o, RejectC)
    ∷ (rule_q v.market o, RejectQ)
    ∷ (rule_w v o, RejectW)
    ∷ (rule_p v o, RejectP)
    ∷ (warn30 v.market o, Warn30)
    ∷ (warn10 v.market o, Warn10)
    ∷ []

module _ {v : View} {o : Order} where
  pub all_left : Left v o (all_rules v o)
  unfolding verdict_of
  all_left = record { decide = refl }

  module _ {b : Bool} {w : Verdict} {rules : List (Bool × Verdict)} (left : Left v o ((b, w) ∷ rules)) where
    pub next : b ≡ false → Left v o rules
    next other = record { decide = rw other at left.decide }

    pub first : b ≡ true → w ≡ verdict_of v o
    first here = sym (rw here at left.decide)

  pub none : Left v o [] → Accept ≡ verdict_of v o
  none left = sym left.decide

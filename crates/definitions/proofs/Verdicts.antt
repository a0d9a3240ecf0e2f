-- The verdict both ways: an order gets a verdict exactly where that verdict's rule applies and no rule above it does.
-- Assumes nothing.
use mathlib.Core.Bool.{Bool, true, false}
use mathlib.Core.List.{[], ◌∷◌}
use mathlib.Core.Logic.{◌↔◌}
use mathlib.Core.Path.{◌≡◌, refl, subst}
use Rattle.definitions.specs.declared.Order.{Order}
use Rattle.definitions.specs.declared.Verdict.{Verdict}
use Rattle.definitions.specs.declared.Verdict.TheVariants.{RejectS, RejectV, RejectC, RejectQ, RejectW, RejectP, Warn30, Warn10, Accept}
use Rattle.definitions.specs.Rules.{View, rule_s, rule_v, rule_c, rule_q, rule_w, rule_p, warn30, warn10, first_that, verdict_of}

-- "Verdicts, first that applies", by whether each of the eight rules applies
abbrev pub First : (s v c q w p w30 w10 : Bool) → Verdict → Type 0
First s v c q w p w30 w10 RejectS = s ≡ true
First s v c q w p w30 w10 RejectV = (s ≡ false) × (v ≡ true)
First s v c q w p w30 w10 RejectC = (s ≡ false) × (v ≡ false) × (c ≡ true)
First s v c q w p w30 w10 RejectQ = (s ≡ false) × (v ≡ false) × (c ≡ false) × (q ≡ true)
First s v c q w p w30 w10 RejectW = (s ≡ false) × (v ≡ false) × (c ≡ false) × (q ≡ false) × (w ≡ true)
First s v c q w p w30 w10 RejectP = (s ≡ false) × (v ≡ false) × (c ≡ false) × (q ≡ false) × (w ≡ false) × (p ≡ true)
First s v c q w p w30 w10 Warn30 = (s ≡ false) × (v ≡ false) × (c ≡ false) × (q ≡ false) × (w ≡ false) × (p ≡ false) × (w30 ≡ true)
First s v c q w p w30 w10 Warn10 = (s ≡ false) × (v ≡ false) × (c ≡ false) × (q ≡ false) × (w ≡ false) × (p ≡ false) × (w30 ≡ false) × (w10 ≡ true)
First s v c q w p w30 w10 Accept = (s ≡ false) × (v ≡ false) × (c ≡ false) × (q ≡ false) × (w ≡ false) × (p ≡ false) × (w30 ≡ false) × (w10 ≡ false)

abbrev pub AppliesFirst : View → Order → Verdict → Type 0
AppliesFirst v o = First (rule_s v.market o) (rule_v v.market o) (rule_c v.market o) (rule_q v.market o) (rule_w v o) (rule_p v o) (warn30 v.market o) (warn10 v.market o)

abbrev decided : (s v c q w p w30 w10 : Bool) → Verdict
decided s v c q w p w30 w10 =
    first_that ((s, RejectS) ∷ (v, RejectV) ∷ (c, RejectC) ∷ (q, RejectQ) ∷ (w, RejectW) ∷ (p, RejectP) ∷ (w30, Warn30) ∷ (w10, Warn10) ∷ [])

-- what is decided applies first
applies : (s v c q w p w30 w10 : Bool) → First s v c q w p w30 w10 (decided s v c q w p w30 w10)
applies true v c q w p w30 w10 = refl
applies false true c q w p w30 w10 = (refl, refl)
applies false false true q w p w30 w10 = (refl, refl, refl)
applies false false false true w p w30 w10 = (refl, refl, refl, refl)
applies false false false false true p w30 w10 = (refl, refl, refl, refl, refl)
applies false false false false false true w30 w10 = (refl, refl, refl, refl, refl, refl)
applies false false false false false false true w10 = (refl, refl, refl, refl, refl, refl, refl)
applies false false false false false false false true = (refl, refl, refl, refl, refl, refl, refl, refl)
applies false false false false false false false false = (refl, refl, refl, refl, refl, refl, refl, refl)

-- and what applies first is decided
is-decided : (s v c q w p w30 w10 : Bool) (x : Verdict) → First s v c q w p w30 w10 x → decided s v c q w p w30 w10 ≡ x
is-decided s v c q w p w30 w10 RejectS h = rw h
is-decided s v c q w p w30 w10 RejectV h = rw (h.0, h.1)
is-decided s v c q w p w30 w10 RejectC h = rw (h.0, h.1, h.2)
is-decided s v c q w p w30 w10 RejectQ h = rw (h.0, h.1, h.2, h.3)
is-decided s v c q w p w30 w10 RejectW h = rw (h.0, h.1, h.2, h.3, h.4)
is-decided s v c q w p w30 w10 RejectP h = rw (h.0, h.1, h.2, h.3, h.4, h.5)
is-decided s v c q w p w30 w10 Warn30 h = rw (h.0, h.1, h.2, h.3, h.4, h.5, h.6)
is-decided s v c q w p w30 w10 Warn10 h = rw (h.0, h.1, h.2, h.3, h.4, h.5, h.6, h.7)
is-decided s v c q w p w30 w10 Accept h = rw (h.0, h.1, h.2, h.3, h.4, h.5, h.6, h.7)

pub both_ways : (v : View) (o : Order) (x : Verdict) → (verdict_of v o ≡ x) ↔ AppliesFirst v o x
unfolding verdict_of
both_ways v o x = (
  λ e. subst (AppliesFirst v o) e (applies (rule_s v.market o) (rule_v v.market o) (rule_c v.market o) (rule_q v.market o) (rule_w v o) (rule_p v o) (warn30 v.market o) (warn10 v.market o)),
  is-decided (rule_s v.market o) (rule_v v.market o) (rule_c v.market o) (rule_q v.market o) (rule_w v o) (rule_p v o) (warn30 v.market o) (warn10 v.market o) x,
)

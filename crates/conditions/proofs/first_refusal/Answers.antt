-- `conditions::first_refusal` meets its contract: each exit is the first condition of its kind's table that is met, or none.
use mathlib.Core.Bool.{false, and-true, or-false}
use mathlib.Core.Path.{refl, sym, ◌∙◌}
use borrow.Author.Tests.{lt-ltb, le-ltb, le-leb, lt-leb, eq-eqb, ne_eqb}
use Rattle.definitions.proofs.Tests.{known, or-first}
use Rattle.state.proofs.Fits.{fits-header}
use Rattle.conditions.proofs.Exits.{none, here, below, found, decided, by-records, both, asked, security-stands, desk-stands, both-stand}
use Rattle.conditions.proofs.first_refusal.Goals as goal

pub header_of-h-requires : goal.header_of-h-requires
header_of-h-requires c = fits-header _ c.requires

pub returns-then-t-gt-LAST_TIME : goal.returns-then-t-gt-LAST_TIME
returns-then-t-gt-LAST_TIME c = found _ c.header_of-h.ensures c.in-Clock.is (below refl (here (lt-ltb _ _ c.if-t-gt-LAST_TIME.true)))

pub returns-else-t-gt-LAST_TIME : goal.returns-else-t-gt-LAST_TIME
returns-else-t-gt-LAST_TIME c = found _ c.header_of-h.ensures c.in-Clock.is (below refl (below (le-ltb _ _ c.if-t-gt-LAST_TIME.false) (decided c.refused_if.ensures (below refl none))))

pub returns-then-s-gt-PRE_CLOSE : goal.returns-then-s-gt-PRE_CLOSE
returns-then-s-gt-PRE_CLOSE c = found _ c.header_of-h.ensures c.in-Session.is (below refl (here (lt-ltb _ _ c.if-s-gt-PRE_CLOSE.true)))

pub returns-else-s-gt-PRE_CLOSE : goal.returns-else-s-gt-PRE_CLOSE
returns-else-s-gt-PRE_CLOSE c = found _ c.header_of-h.ensures c.in-Session.is (below refl (below (le-ltb _ _ c.if-s-gt-PRE_CLOSE.false) (by-records c.all_sound.ensures c.refused_if-in-Session.ensures)))

pub returns-then-h-x : goal.returns-then-h-x
returns-then-h-x c = found _ c.header_of-h.ensures c.in-Setup.is (here (le-leb _ _ c.if-h-x.true))

pub returns-then-not-sound_terms : goal.returns-then-not-sound_terms
returns-then-not-sound_terms c = found _ c.header_of-h.ensures c.in-Setup.is (below (lt-leb _ _ c.if-h-x.false) (here (asked c.sound_terms.ensures c.if-not-sound_terms.true)))

pub returns-then-not-sound_prior : goal.returns-then-not-sound_prior
returns-then-not-sound_prior c = found _ c.header_of-h.ensures c.in-Setup.is (below (lt-leb _ _ c.if-h-x.false) (below (asked c.sound_terms.ensures c.if-not-sound_terms.false) (here (asked c.sound_prior.ensures c.if-not-sound_prior.true))))

pub sound_security_at-requires : goal.sound_security_at-requires
sound_security_at-requires c = security-stands _ c.header_of-h.ensures c.requires c.if-h-x.false

pub returns-else-not-sound_prior : goal.returns-else-not-sound_prior
returns-else-not-sound_prior c = found _ c.header_of-h.ensures c.in-Setup.is (below (lt-leb _ _ c.if-h-x.false) (below (asked c.sound_terms.ensures c.if-not-sound_terms.false) (below (asked c.sound_prior.ensures c.if-not-sound_prior.false) (by-records (c.sound_security_at.ensures ∙ sym (and-true _)) c.refused_if-in-Setup.ensures))))

pub returns-then-h-x-2 : goal.returns-then-h-x-2
returns-then-h-x-2 c = found _ c.header_of-h.ensures c.in-Prices.is (here (le-leb _ _ c.if-h-x-2.true))

pub returns-then-x-gt-FOREIGN_BOARD : goal.returns-then-x-gt-FOREIGN_BOARD
returns-then-x-gt-FOREIGN_BOARD c = found _ c.header_of-h.ensures c.in-Prices.is (below (lt-leb _ _ c.if-h-x-2.false) (here (lt-ltb _ _ c.if-x-gt-FOREIGN_BOARD.true)))

pub returns-then-not-sound_prices : goal.returns-then-not-sound_prices
returns-then-not-sound_prices c = found _ c.header_of-h.ensures c.in-Prices.is (below (lt-leb _ _ c.if-h-x-2.false) (below (le-ltb _ _ c.if-x-gt-FOREIGN_BOARD.false) (here (asked c.sound_prices.ensures c.if-not-sound_prices.true))))

pub sound_security_at-requires-in-Prices : goal.sound_security_at-requires-in-Prices
sound_security_at-requires-in-Prices c = security-stands _ c.header_of-h.ensures c.requires c.if-h-x-2.false

pub returns-else-not-sound_prices : goal.returns-else-not-sound_prices
returns-else-not-sound_prices c = found _ c.header_of-h.ensures c.in-Prices.is (below (lt-leb _ _ c.if-h-x-2.false) (below (le-ltb _ _ c.if-x-gt-FOREIGN_BOARD.false) (below (asked c.sound_prices.ensures c.if-not-sound_prices.false) (by-records (c.sound_security_at-in-Prices.ensures ∙ sym (and-true _)) c.refused_if-in-Prices.ensures))))

pub returns-then-h-k : goal.returns-then-h-k
returns-then-h-k c = found _ c.header_of-h.ensures c.in-Order.is (here c.if-h-k.true)

pub returns-then-bad_code : goal.returns-then-bad_code
returns-then-bad_code c = found _ c.header_of-h.ensures c.in-Order.is (below c.if-h-k.false (here (known c.bad_code.ensures c.if-bad_code.true)))

pub returns-then-not-priced_as : goal.returns-then-not-priced_as
returns-then-not-priced_as c = found _ c.header_of-h.ensures c.in-Order.is (below c.if-h-k.false (below (known c.bad_code.ensures c.if-bad_code.false) (here (asked c.priced_as.ensures c.if-not-priced_as.true))))

pub sound_security_at-requires-in-Order : goal.sound_security_at-requires-in-Order
sound_security_at-requires-in-Order c = (both-stand _ c.header_of-h.ensures c.requires c.in-Order.k c.in-Order.x.security c.if-h-k.false).1

pub sound_desk_at-requires : goal.sound_desk_at-requires
sound_desk_at-requires c = (both-stand _ c.header_of-h.ensures c.requires c.in-Order.k c.in-Order.x.security c.if-h-k.false).0

pub returns-else-not-priced_as : goal.returns-else-not-priced_as
returns-else-not-priced_as c = found _ c.header_of-h.ensures c.in-Order.is (below c.if-h-k.false (below (known c.bad_code.ensures c.if-bad_code.false) (below (asked c.priced_as.ensures c.if-not-priced_as.false) (by-records (both c.sound_security_at-in-Order.ensures c.sound_desk_at.ensures) c.refused_if-in-Order.ensures))))

pub returns-then-h-k-2 : goal.returns-then-h-k-2
returns-then-h-k-2 c = found _ c.header_of-h.ensures c.in-Cancel.is (here (or-first false (le-leb _ _ c.if-h-k-2.true)))

pub returns-then-x-eq0 : goal.returns-then-x-eq0
returns-then-x-eq0 c = found _ c.header_of-h.ensures c.in-Cancel.is (below (or-false _ ∙ lt-leb _ _ c.if-h-k-2.false) (here (eq-eqb _ _ c.if-x-eq0.true)))

pub sound_desk_at-requires-in-Cancel : goal.sound_desk_at-requires-in-Cancel
sound_desk_at-requires-in-Cancel c = desk-stands _ c.header_of-h.ensures c.requires c.if-h-k-2.false

pub returns-else-x-eq0 : goal.returns-else-x-eq0
returns-else-x-eq0 c = found _ c.header_of-h.ensures c.in-Cancel.is (below (or-false _ ∙ lt-leb _ _ c.if-h-k-2.false) (below (ne_eqb _ _ c.if-x-eq0.false) (by-records c.sound_desk_at-in-Cancel.ensures c.refused_if-in-Cancel.ensures)))

pub returns-then-h-k-3 : goal.returns-then-h-k-3
returns-then-h-k-3 c = found _ c.header_of-h.ensures c.in-Match.is (here (or-first false (le-leb _ _ c.if-h-k-3.true)))

pub returns-then-m-eq0 : goal.returns-then-m-eq0
returns-then-m-eq0 c = found _ c.header_of-h.ensures c.in-Match.is (below (or-false _ ∙ lt-leb _ _ c.if-h-k-3.false) (here (eq-eqb _ _ c.if-m-eq0.true)))

pub sound_desk_at-requires-in-Match : goal.sound_desk_at-requires-in-Match
sound_desk_at-requires-in-Match c = desk-stands _ c.header_of-h.ensures c.requires c.if-h-k-3.false

pub returns-else-m-eq0 : goal.returns-else-m-eq0
returns-else-m-eq0 c = found _ c.header_of-h.ensures c.in-Match.is (below (or-false _ ∙ lt-leb _ _ c.if-h-k-3.false) (below (ne_eqb _ _ c.if-m-eq0.false) (by-records c.sound_desk_at-in-Match.ensures c.refused_if-in-Match.ensures)))

pub returns-then-h-k-4 : goal.returns-then-h-k-4
returns-then-h-k-4 c = found _ c.header_of-h.ensures c.in-Rest.is (here (or-first false (le-leb _ _ c.if-h-k-4.true)))

pub returns-then-r-eq0 : goal.returns-then-r-eq0
returns-then-r-eq0 c = found _ c.header_of-h.ensures c.in-Rest.is (below (or-false _ ∙ lt-leb _ _ c.if-h-k-4.false) (here (eq-eqb _ _ c.if-r-eq0.true)))

pub returns-then-not-legal : goal.returns-then-not-legal
returns-then-not-legal c = found _ c.header_of-h.ensures c.in-Rest.is (below (or-false _ ∙ lt-leb _ _ c.if-h-k-4.false) (below (ne_eqb _ _ c.if-r-eq0.false) (here (asked c.legal.ensures c.if-not-legal.true))))

pub sound_desk_at-requires-in-Rest : goal.sound_desk_at-requires-in-Rest
sound_desk_at-requires-in-Rest c = desk-stands _ c.header_of-h.ensures c.requires c.if-h-k-4.false

pub returns-else-not-legal : goal.returns-else-not-legal
returns-else-not-legal c = found _ c.header_of-h.ensures c.in-Rest.is (below (or-false _ ∙ lt-leb _ _ c.if-h-k-4.false) (below (ne_eqb _ _ c.if-r-eq0.false) (below (asked c.legal.ensures c.if-not-legal.false) (by-records c.sound_desk_at-in-Rest.ensures c.refused_if-in-Rest.ensures))))

pub returns-then-h-f : goal.returns-then-h-f
returns-then-h-f c = found _ c.header_of-h.ensures c.in-Figures.is (here (le-leb _ _ c.if-h-f.true))

pub sound_security_at-requires-in-Figures : goal.sound_security_at-requires-in-Figures
sound_security_at-requires-in-Figures c = security-stands _ c.header_of-h.ensures c.requires c.if-h-f.false

pub returns-else-h-f : goal.returns-else-h-f
returns-else-h-f c = found _ c.header_of-h.ensures c.in-Figures.is (below (lt-leb _ _ c.if-h-f.false) (by-records (c.sound_security_at-in-Figures.ensures ∙ sym (and-true _)) c.refused_if-in-Figures.ensures))

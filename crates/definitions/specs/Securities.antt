-- Paper 01, "Events" and "The lone run": how a security changes.
use Rattle.std.specs.Prelude.{cond, eqb}
use Rattle.definitions.specs.declared.Terms.{Terms}
use Rattle.definitions.specs.declared.PriorPrices.{PriorPrices}
use Rattle.definitions.specs.declared.Prices.{Prices}
use Rattle.definitions.specs.declared.Figures.{Figures}
use Rattle.definitions.specs.declared.Security.{Security}
use Rattle.definitions.specs.declared.Setup.{Setup}
use Rattle.definitions.specs.declared.BoardPrices.{BoardPrices}
use Rattle.definitions.specs.declared.SecurityFigures.{SecurityFigures}
use Rattle.definitions.specs.Codes.{foreign_board}
use Rattle.definitions.specs.State.{no_figures}

abbrev pub security : Terms → PriorPrices → Prices → Prices → Figures → Security
security terms prior main foreign figures = record { terms = terms; prior = prior; main = main; foreign = foreign; figures = figures }

-- "Kinds 3 and 4 replace the fields they name."; paper 02, 3, of kind 9's figures: "kind 3 clears it"
unfoldable pub after_setup : Setup → Security → Security
after_setup x s = security x.terms x.prior s.main s.foreign no_figures

abbrev pub with_prices : Prices → Prices → Security → Security
with_prices main foreign s = security s.terms s.prior main foreign s.figures

unfoldable pub after_prices : BoardPrices → Security → Security
after_prices x s =
    cond (eqb x.board foreign_board) (with_prices s.main x.prices s) (with_prices x.prices s.foreign s)

unfoldable pub after_figures : SecurityFigures → Security → Security
after_figures x s = security s.terms s.prior s.main s.foreign x.figures

-- "makes every projected price absent"
abbrev pub no_projected : Prices → Prices
no_projected p = record { projected = 0; last_sale = p.last_sale; bid = p.bid; offer = p.offer }

unfoldable pub without_projected : Security → Security
without_projected s = with_prices (no_projected s.main) (no_projected s.foreign) s

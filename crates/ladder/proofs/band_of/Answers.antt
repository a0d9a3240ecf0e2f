-- `ladder::band_of` meets its contract: each return is the band between whose first price and the next band's the price lies.
use mathlib.Core.Path.{sym}
use native.Mathlib.Omega.{arith}
use lib.Dec.{lit≤}
use Rattle.ladder.proofs.Laws.{band-is}
use Rattle.ladder.proofs.band_of.Goals as goal

pub returns-then-price-lt200 : goal.returns-then-price-lt200
returns-then-price-lt200 c = sym (band-is _ 0 (lit≤ tt) tt (omega arith))

pub returns-then-price-lt500 : goal.returns-then-price-lt500
returns-then-price-lt500 c = sym (band-is _ 1 (lit≤ tt) (omega arith) (omega arith))

pub returns-then-price-lt1000 : goal.returns-then-price-lt1000
returns-then-price-lt1000 c = sym (band-is _ 2 (lit≤ tt) (omega arith) (omega arith))

pub returns-then-price-lt2500 : goal.returns-then-price-lt2500
returns-then-price-lt2500 c = sym (band-is _ 3 (lit≤ tt) (omega arith) (omega arith))

pub returns-then-price-lt10000 : goal.returns-then-price-lt10000
returns-then-price-lt10000 c = sym (band-is _ 4 (lit≤ tt) (omega arith) (omega arith))

pub returns-then-price-lt20000 : goal.returns-then-price-lt20000
returns-then-price-lt20000 c = sym (band-is _ 5 (lit≤ tt) (omega arith) (omega arith))

pub returns-then-price-lt40000 : goal.returns-then-price-lt40000
returns-then-price-lt40000 c = sym (band-is _ 6 (lit≤ tt) (omega arith) (omega arith))

pub returns : goal.returns
returns c = sym (band-is _ 7 (lit≤ tt) (omega arith) tt)

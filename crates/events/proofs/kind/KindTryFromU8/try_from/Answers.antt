-- `Kind::try_from` meets its contract: any number that is no kind's stands past the table's ends.
use mathlib.Core.Path.{refl, sym}
use Rattle.std.proofs.Common.{rules}
use Rattle.events.proofs.Laws.{unknown}
use Rattle.events.proofs.kind.KindTryFromU8.try_from.Goals as goal

pub returns-in_default : goal.returns-in_default
returns-in_default c = (refl, sym (unknown _ (search rules)))

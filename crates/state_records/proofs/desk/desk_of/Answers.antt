-- `state_records::desk::desk_of` meets its contract: the counters are the first three words, and after i turns the first i rows are those of the rest.
use mathlib.Core.Path.{refl, ap}
use Rattle.definitions.specs.State.{desk_of}
use Rattle.definitions.specs.Desks.{desk}
use Rattle.state_records.proofs.Laws.{read_none, read_next, read_all}
use Rattle.state_records.proofs.desk.desk_of.Goals as goal

pub loop-i-init : goal.loop-i-init
loop-i-init c = read_none _ _ refl

pub loop-i-preserved : goal.loop-i-preserved
loop-i-preserved c =
    read_next _ _ _ _ c.loop-i-test.true c.loop-i.invariant c.row_of.ensures

pub returns : goal.returns
unfolding desk_of
returns c = ap (desk _ _ _) (read_all _ _ _ c.loop-i-test.false c.loop-i.invariant)

-- `kind_clock::handle` meets its contract: the clock is set, and no condition after 8 is a clock event's.
use mathlib.Core.Path.{refl}
use native.Mathlib.Omega.{arith}
use lib.Seq.{set_split}
use Rattle.definitions.specs.declared.Event.TheVariants as event
use Rattle.definitions.specs.Answers as answer
use Rattle.definitions.specs.Lists.{put}
use Rattle.definitions.specs.State.{clock_place}
use Rattle.definitions.specs.Gate.{perform}
use Rattle.kind_contract.proofs.Laws.{nothing-later, header-fits}
use Rattle.kind_contract.proofs.Done.{words-done}
use Rattle.kind_clock.proofs.handle.Goals as goal

pub returns : goal.returns
unfolding perform put
returns c =
    let w = c.args.words.now in
    let e = event.Clock c.args.time in
    words-done w e (nothing-later w e refl) answer.Ok refl (set_split w clock_place c.args.time (omega (arith, header-fits w e c.requires)))

pub bounds-words-2 : goal.bounds-words-2
bounds-words-2 c = omega (arith, header-fits _ _ c.requires)

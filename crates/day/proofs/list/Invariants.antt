-- What the loop over the events has done: the events that are left do the rest.
use mathlib.Core.Path.{◌≡◌}
use Rattle.definitions.specs.Gate.{words_after}
use Rattle.reader.specs.Places.{events_of, events_from}
use Rattle.day.proofs.list.Given as goal

abbrev pub invariant-loop-index : goal.invariant-loop-index
invariant-loop-index g l = words_after l.words (events_from l.index-iterator.iter.bytes.now l.index-iterator.iter.at) ≡ words_after l.initial.words (events_of l.bytes)

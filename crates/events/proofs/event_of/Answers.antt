-- `events::event_of` meets its contract: the check finds each arm but that of a setup.
use Rattle.definitions.specs.Events.{length_of, event_of}
use Rattle.events.proofs.event_of.Goals as goal

pub returns-in-Setup : goal.returns-in-Setup
unfolding length_of event_of
returns-in-Setup c = rw c.in-Setup.is c.setup_of.ensures

-- What reading an event's bytes gives: "An event is read whole or refused before any rule looks at it".
use Rattle.std.specs.Prelude.{cond, List, ℕ, eqb, Result, Ok, Err}
use Rattle.definitions.specs.declared.Event.{Event}
use Rattle.definitions.specs.Lists.{first_met}
use Rattle.definitions.specs.Events.{event_in, bytes_conditions}

abbrev pub unread_by : List ℕ → ℕ
unread_by b = first_met (bytes_conditions b)

unfoldable pub read_event : List ℕ → Result Event ℕ
read_event b = cond (eqb (unread_by b) 0) (Ok (event_in b)) (Err (unread_by b))

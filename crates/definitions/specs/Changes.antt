-- Paper 01, "Events" and "The lone run": what each kind of event does, what it therefore names, and to whom it belongs.
use Rattle.std.specs.Prelude.{cond, List, ℕ, ltb, eqb}
use Rattle.definitions.specs.declared.Security.{Security}
use Rattle.definitions.specs.declared.Row.{Row}
use Rattle.definitions.specs.declared.Order.{Order}
use Rattle.definitions.specs.declared.Event.{Event}
use Rattle.definitions.specs.declared.Event.TheVariants as event
use Rattle.definitions.specs.Lists.{first_met}
use Rattle.definitions.specs.Events.{event_in, bytes_conditions}
use Rattle.definitions.specs.Desks.{cancelled_row, matched_row, rest_row}
use Rattle.definitions.specs.Securities.{after_setup, after_prices, after_figures}

-- what an event does: it sets the clock, the session, a security, or the rows of a customer at the present clock, or it enters a customer's order
pub data Change : Type 0 where
  set_clock : ℕ → Change
  set_session : ℕ → Change
  set_security : ℕ → (Security → Security) → Change
  enter_order : ℕ → Order → Change
  set_rows : ℕ → (ℕ → Row → Row) → Change

-- "Only kind 1 moves the clock." "Kinds 3 and 4 replace the fields they name. A cancel marks an open limit row cancelled at the present clock, .. A match
-- lowers the volume"; kinds 8 and 9: paper 02, 1 and 3. What a session that differs does, and an order by its verdict, is said in Gate and Desks.
abbrev pub change_of : Event → Change
change_of (event.Clock t) = set_clock t
change_of (event.Session s) = set_session s
change_of (event.Setup x) = set_security x.security (after_setup x)
change_of (event.Prices x) = set_security x.security (after_prices x)
change_of (event.Order k x) = enter_order k x
change_of (event.Cancel k x) = set_rows k (cancelled_row x.number)
change_of (event.Match k x) = set_rows k (λ clock. matched_row x.number x.volume)
change_of (event.Rest k x) = set_rows k (λ clock. rest_row x.number x.price)
change_of (event.Figures x) = set_security x.security (after_figures x)

-- the customer and the security that an event names: none, one by its number, or every one, for kind 2 "reads all"
pub data Named : Type 0 where
  none : Named
  one : ℕ → Named
  every : Named

-- what f says of the one that is named; `other` for none and for every one
abbrev pub if_one : {A : Type 0} → A → (ℕ → A) → Named → A
if_one other f none = other
if_one other f (one i) = f i
if_one other f every = other

-- an event names what it changes, and an order its security too
abbrev pub named : Change → Named × Named
named (set_clock t) = (none, none)
named (set_session s) = (every, every)
named (set_security s f) = (none, one s)
named (enter_order k x) = (one k, one x.security)
named (set_rows k f) = (one k, none)

abbrev pub customer_named : Event → Named
customer_named e = (named (change_of e)).0

abbrev pub security_named : Event → Named
security_named e = (named (change_of e)).1

-- "Kinds 5 to 7 belong to the customer they name; 1 to 4, and any later kind that names no customer, are market events. An event that meets
-- condition 2 or 3 below, or one with a customer of C or more, belongs to nobody." Paper 02, 1, of kind 8: "The event belongs to its customer."
pub data Owner : Type 0 where
  market : Owner
  customer : ℕ → Owner
  nobody : Owner

abbrev pub owner_named : ℕ → Named → Owner
owner_named customers = if_one market (λ k. cond (ltb k customers) (customer k) nobody)

unfoldable pub owner_of : ℕ → List ℕ → Owner
owner_of customers b = cond (eqb (first_met (bytes_conditions b)) 0) (owner_named customers (customer_named (event_in b))) nobody

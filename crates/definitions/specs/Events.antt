-- Paper 01, "Events": bytes to one event or a refusal.
use Rattle.std.specs.Prelude.{Bool, cond, not, List, [], ◌∷◌, ℕ, ◌+◌, ◌-◌, ◌*◌, eqb, length, get_or}
use Rattle.definitions.specs.declared.Event.{Event}
use Rattle.definitions.specs.declared.Event.TheVariants as event
use Rattle.definitions.specs.State.{terms_at, figures}

-- "little-endian": the number of two and of four bytes from a place on
abbrev pub two : List ℕ → ℕ → ℕ
two b at = get_or b at 0 + 256 * get_or b (at + 1) 0

abbrev pub four : List ℕ → ℕ → ℕ
four b at = get_or b at 0 + 256 * get_or b (at + 1) 0 + 65_536 * get_or b (at + 2) 0 + 16_777_216 * get_or b (at + 3) 0

-- the column "body" of the table of kinds, with a byte of kind before it
abbrev pub clock_of : List ℕ → Event
clock_of b = event.Clock (four b 1)

abbrev pub session_of : List ℕ → Event
session_of b = event.Session (get_or b 1 0)

abbrev pub setup_of : List ℕ → Event
setup_of b = event.Setup (record { security = two b 1; terms = terms_at b 3; prior = record { close = four b 6; ipo = four b 10 } })

abbrev pub prices_of : List ℕ → Event
prices_of b =
    event.Prices
    (record {
      security = two b 1;
      board = get_or b 3 0;
      prices = record { projected = four b 4; last_sale = four b 8; bid = four b 12; offer = four b 16 };
    })

abbrev pub order_of : List ℕ → Event
order_of b =
    event.Order
    (two b 1)
    (record {
      number = four b 3;
      security = two b 7;
      board = get_or b 9 0;
      side = get_or b 10 0;
      order_type = get_or b 11 0;
      channel = get_or b 12 0;
      price = four b 13;
      volume = four b 17;
    })

abbrev pub cancel_of : List ℕ → Event
cancel_of b = event.Cancel (two b 1) (record { number = four b 3 })

abbrev pub match_of : List ℕ → Event
match_of b = event.Match (two b 1) (record { number = four b 3; volume = four b 7 })

-- paper 02, 1: "New event kind 8, length 11: customer (2), number (4), price (4)."
abbrev pub rest_of : List ℕ → Event
rest_of b = event.Rest (two b 1) (record { number = four b 3; price = four b 7 })

-- paper 02, 3: "New kind 9, length 15: security (2), dividend (4), subscription (4), old shares (2), new shares (2)"
abbrev pub figures_of : List ℕ → Event
figures_of b = event.Figures (record { security = two b 1; figures = figures (four b 3) (four b 7) (two b 11) (two b 13) })

-- the table from kind 1 on: length and body
abbrev pub kinds : List (ℕ × (List ℕ → Event))
kinds =
    (5, clock_of)
    ∷ (2, session_of)
    ∷ (14, setup_of)
    ∷ (20, prices_of)
    ∷ (21, order_of)
    ∷ (7, cancel_of)
    ∷ (11, match_of)
    ∷ (11, rest_of)
    ∷ (15, figures_of)
    ∷ []

-- 0 for an unknown kind, for which 3 is found before its body matters
unfoldable pub length_of : ℕ → ℕ
length_of kind = cond (eqb kind 0) 0 (get_or kinds (kind - 1) (0, figures_of)).0

unfoldable pub event_of : ℕ → List ℕ → Event
event_of kind b = (get_or kinds (kind - 1) (0, figures_of)).1 b

-- "An event is read whole": the event as its kind lays it out
abbrev pub event_in : List ℕ → Event
event_in b = event_of (get_or b 0 0) b

-- the table's place "event bytes", conditions 2 and 3: "empty, or not the kind's length", "kind not 1 to 7", and since paper 02, 1 and 3,
-- not 8 or 9; "an unknown kind is found before a wrong length"
abbrev pub bytes_conditions : List ℕ → List (ℕ × Bool)
bytes_conditions b =
    (2, eqb (length b) 0)
    ∷ (3, eqb (length_of (get_or b 0 0)) 0)
    ∷ (2, not (eqb (length b) (length_of (get_or b 0 0))))
    ∷ []

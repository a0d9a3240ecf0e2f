-- The codes and limits of paper 01, by name.
use Rattle.std.specs.Prelude.{Bool, ◌||◌, ℕ, eqb}

-- "The lent state": session (0 closed, 1 pre-open, 2 open, 3 break, 4 pre-close)
abbrev pub closed : ℕ
closed = 0

abbrev pub pre_open : ℕ
pre_open = 1

abbrev pub opened : ℕ
opened = 2

abbrev pub break : ℕ
break = 3

abbrev pub pre_close : ℕ
pre_close = 4

-- "Row": mark (0 free, 1 open, 2 cancelled)
abbrev pub free_mark : ℕ
free_mark = 0

abbrev pub open_mark : ℕ
open_mark = 1

abbrev pub cancelled_mark : ℕ
cancelled_mark = 2

-- board (0 main, 1 foreign)
abbrev pub main_board : ℕ
main_board = 0

abbrev pub foreign_board : ℕ
foreign_board = 1

-- side (0 buy, 1 sell)
abbrev pub buy : ℕ
buy = 0

abbrev pub sell : ℕ
sell = 1

-- type (0 limit, 1 ATO, 2 ATC); "Type 3 is MP", in a row since paper 02, 1
abbrev pub limit : ℕ
limit = 0

abbrev pub ato : ℕ
ato = 1

abbrev pub atc : ℕ
atc = 2

abbrev pub mp : ℕ
mp = 3

abbrev pub is_limit : ℕ → Bool
is_limit type = eqb type limit

-- "ATO and ATC"
abbrev pub is_auction : ℕ → Bool
is_auction type = eqb type ato || eqb type atc

-- "sessions 1 and 4"
abbrev pub in_auction : ℕ → Bool
in_auction session = eqb session pre_open || eqb session pre_close

-- "Channel: 0 front office, 1 online, 2 DMA"
abbrev pub online : ℕ
online = 1

abbrev pub dma : ℕ
dma = 2

-- "clock (milliseconds since midnight, at most 86,399,999)"
abbrev pub last_time : ℕ
last_time = 86_399_999

-- "cancelled at most 60,000 ms ago"
abbrev pub minute : ℕ
minute = 60_000

-- "C customers (1 to 256) and S securities (1 to 1,024)"; "32 rows"
abbrev pub max_customers : ℕ
max_customers = 256

abbrev pub max_securities : ℕ
max_securities = 1_024

abbrev pub desk_rows : ℕ
desk_rows = 32

-- "volume 1 to 20,000,000"
abbrev pub max_volume : ℕ
max_volume = 20_000_000

-- paper 02, 3: "old shares (2), new shares (2)", the largest number of two bytes
abbrev pub max_shares : ℕ
max_shares = 65_535

-- "each stays at 4,294,967,295 once there"
abbrev pub max_count : ℕ
max_count = 4_294_967_295

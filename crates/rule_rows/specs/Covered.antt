-- The part of P that does not read the rows: which orders it covers.
use Rattle.std.specs.Prelude.{Bool, ◌&&◌, ℕ, leb, eqb}
use Rattle.definitions.specs.declared.Order.{Order}
use Rattle.definitions.specs.Codes.{is_limit, opened, online}
use Rattle.definitions.specs.Rules.{value_of}

-- "limits, online, session 2: value at least 3 million baht"
abbrev pub covered_by_p : ℕ → Order → Bool
covered_by_p session o =
    is_limit o.order_type && eqb o.channel online && eqb session opened && leb 300_000_000 (value_of o)

-- What is lent for the lines' numbers, with those of one line more.
use Rattle.std.specs.Prelude.{ℕ, slice_set}
use Rattle.auction_definitions.specs.declared.Line.{Line}
use Rattle.auction_definitions.specs.Auction.{volume_of}
use Rattle.auction.specs.declared.Sums.{Sums}
use Rattle.auction.specs.declared.volumes.Volumes.{Volumes}

-- two scratch lists: its sums
abbrev pub with_sums : Sums → ℕ → Line → Sums
with_sums s place l =
    record s { buyers = record s.buyers { now = slice_set s.buyers.now place l.buyers }; sellers = record s.sellers { now = slice_set s.sellers.now place l.sellers } }

-- one: its volume
abbrev pub with_volume : Volumes → ℕ → Line → Volumes
with_volume s place l = record s { 0 = record s.0 { now = slice_set s.0.now place (volume_of l) } }

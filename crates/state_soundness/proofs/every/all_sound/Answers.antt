-- `state_soundness::every::all_sound` meets its contract: every security below S, and every desk below C.
use mathlib.Core.Path.{◌≡◌, ap}
use lib.ListN.{length}
use native.Mathlib.Omega.{arith}
use Rattle.std.proofs.iter.Serving.{serving}
use Rattle.definitions.specs.declared.Header.{Header}
use Rattle.definitions.specs.State.{header_of, state_size}
use Rattle.definitions.proofs.State.{fits-length}
use Rattle.state_soundness.proofs.every.all_sound.Goals as goal

pub header_of-h-requires : goal.header_of-h-requires
header_of-h-requires c = omega (arith, fits-length _ c.requires)

pub all_below-securities-requires : goal.all_below-securities-requires
all_below-securities-requires c =
    let words = c.args.words.now in
    let size : length words ≡ state_size (header_of words).customers (header_of words).securities = fits-length _ c.requires in
    let securities : c.header_of-h.result.securities ≡ (header_of words).securities = ap (λ (h : Header). h.securities) c.header_of-h.ensures in
    grind (arith, serving)

pub all_below-desks-requires : goal.all_below-desks-requires
all_below-desks-requires c =
    let words = c.args.words.now in
    let size : length words ≡ state_size (header_of words).customers (header_of words).securities = fits-length _ c.requires in
    let customers : c.header_of-h.result.customers ≡ (header_of words).customers = ap (λ (h : Header). h.customers) c.header_of-h.ensures in
    grind (arith, serving)

-- `auction_lines::beats` meets its contract: each of the four steps.
use mathlib.Core.Path.{◌∙◌, sym}
use Rattle.auction_lines.proofs.Steps.{by_difference, by-distance, by-price, by-volume}
use Rattle.auction_lines.proofs.beats.Goals as goal

pub returns-then-volume-other_volume : goal.returns-then-volume-other_volume
returns-then-volume-other_volume c = by-volume _ _ _ c.volume_of-volume.ensures c.volume_of-other_volume.ensures c.if-volume-other_volume.true

pub returns-then-difference-other_difference : goal.returns-then-difference-other_difference
returns-then-difference-other_difference c =
    by_difference _ _ _ (sym c.volume_of-volume.ensures ∙ c.if-volume-other_volume.false ∙ c.volume_of-other_volume.ensures)
    c.difference_of-difference.ensures c.difference_of-other_difference.ensures c.if-difference-other_difference.true

pub returns-then-distance-other_distance : goal.returns-then-distance-other_distance
returns-then-distance-other_distance c =
    by-distance _ _ _ (sym c.volume_of-volume.ensures ∙ c.if-volume-other_volume.false ∙ c.volume_of-other_volume.ensures)
    (sym c.difference_of-difference.ensures ∙ c.if-difference-other_difference.false ∙ c.difference_of-other_difference.ensures)
    c.distance_to-distance.ensures c.distance_to-other_distance.ensures c.if-distance-other_distance.true

pub returns : goal.returns
returns c =
    by-price _ _ _ (sym c.volume_of-volume.ensures ∙ c.if-volume-other_volume.false ∙ c.volume_of-other_volume.ensures)
    (sym c.difference_of-difference.ensures ∙ c.if-difference-other_difference.false ∙ c.difference_of-other_difference.ensures)
    (sym c.distance_to-distance.ensures ∙ c.if-distance-other_distance.false ∙ c.distance_to-other_distance.ensures)

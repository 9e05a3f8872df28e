-- `palette_distance::distance_to` meets its contract. The loop's invariant: `least` is the least of the first i gaps. Assumes nothing.
use native.Mathlib.Omega.{arith}
use lib.Ieee.{of_bits}
use Rattle.stats.specs.Stats.{least_of}
use Rattle.palette_distance.proofs.Lanes.{after_lanes, before_any, least_step, least_end}
use Rattle.palette_distance.proofs.near.distance_to.Goals as goal
use Rattle.palette_distance.proofs.near.distance_to.Goals.{then-s-ge12, else-s-ge12}

pub loop-i-init : goal.loop-i-init
unfolding least_of of_bits
loop-i-init c =
    elim c.if-s-ge12.branch [
      | then-s-ge12 w ↦ after_lanes _ _ _ _ _ w.least_by_fours-least.ensures w.least-is w.start-is
      | else-s-ge12 w ↦ before_any _ _ _ _ w.least-is w.start-is
    ]

pub loop-i-preserved : goal.loop-i-preserved
loop-i-preserved c = (omega arith, least_step _ _ _ _ _ _ _ c.loop-i.invariant.1 c.gap.ensures c.lesser-least.ensures)

pub returns : goal.returns
returns c = least_end _ _ _ _ c.loop-i.invariant.1 (omega arith)

-- `palette_distance::least_by_fours` meets its contract. The loop's invariant: the least of the four lanes is that of the first 4·k gaps.
-- Assumes nothing.
use native.Mathlib.Omega.{arith}
use lib.Ieee.{of_bits}
use Rattle.stats.proofs.Lesser.{lanes_start, lanes_end}
use Rattle.palette_distance.proofs.Lanes.{fours_step, least_end}
use Rattle.palette_distance.proofs.near.least_by_fours.Goals as goal

pub loop-k-init : goal.loop-k-init
unfolding of_bits
loop-k-init c = lanes_start _

pub loop-k-preserved : goal.loop-k-preserved
loop-k-preserved c =
    let v = c.loop-k in
    fours_step _ _ _ c.requires v.k (omega (arith, c.loop-k-test)) _ _ _ _ _ _ _ _ _ _ _ _ v.invariant
    c.gap.ensures c.gap-in-loop-k.ensures c.gap-in-loop-k-2.ensures c.gap-in-loop-k-3.ensures
    c.lesser-first.ensures c.lesser-second.ensures c.lesser-third.ensures c.lesser-fourth.ensures

pub returns : goal.returns
returns c = least_end _ _ _ _ (lanes_end _ _ _ _ _ _ c.loop-k.invariant _ _ _ c.lesser.ensures c.lesser-2.ensures c.lesser-3.ensures) (omega arith)

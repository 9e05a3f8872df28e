-- `palette_distance::nearest_four` meets its contract. The loop's invariant: each lane is the least of its colour's first i gaps. Assumes nothing.
use mathlib.Core.Path.{refl}
use native.Mathlib.Omega.{arith}
use lib.Ieee.{of_bits}
use Rattle.stats.specs.Stats.{least_of}
use Rattle.palette_distance.proofs.Lanes.{least_step, four_end}
use Rattle.palette_distance.proofs.near.nearest_four.Goals as goal

pub loop-i-init : goal.loop-i-init
unfolding least_of of_bits
loop-i-init c = (refl, (refl, (refl, refl)))

pub loop-i-preserved : goal.loop-i-preserved
loop-i-preserved c =
    let i = c.loop-i.i in
    let inv = c.loop-i.invariant in (
      least_step _ _ _ i _ _ _ inv.0 c.gap.ensures c.lesser-first.ensures,
      (
        least_step _ _ _ i _ _ _ inv.1.0 c.gap-in-loop-i.ensures c.lesser-second.ensures,
        (
          least_step _ _ _ i _ _ _ inv.1.1.0 c.gap-in-loop-i-2.ensures c.lesser-third.ensures,
          least_step _ _ _ i _ _ _ inv.1.1.1 c.gap-in-loop-i-3.ensures c.lesser-fourth.ensures,
        ),
      ),
    )

pub returns : goal.returns
returns c =
    four_end _ c.args.four _ c.loop-i.i (omega arith) _ _ _ _
    c.oklab-p.ensures c.oklab-q.ensures c.oklab-r.ensures c.oklab-t.ensures _ _ _ _ c.loop-i.invariant

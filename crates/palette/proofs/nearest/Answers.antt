-- `palette::nearest` meets its contract. The loop's invariant: `best` is the least of the first i gaps. Assumes nothing.
use mathlib.Core.Path.{refl, ap, ◌∙◌}
use native.Mathlib.Omega.{arith}
use lib.Ieee.{of_bits}
use Rattle.stats.specs.Stats.{least_of}
use Rattle.palette.specs.Palette.{gap}
use Rattle.palette.proofs.Steps.{nearest-step}
use Rattle.palette.proofs.nearest.Goals as goal

pub loop-i-init : goal.loop-i-init
unfolding least_of of_bits
loop-i-init c = refl

pub loop-i-preserved : goal.loop-i-preserved
loop-i-preserved c = nearest-step _ _ _ _ _ _ _ _ c.loop-i.invariant c.colour.ensures c.oklab_sqdist-d.ensures c.step_near-best.ensures

pub returns : goal.returns
returns c = c.loop-i.invariant ∙ ap (least_of (gap _ _ _)) (omega arith)

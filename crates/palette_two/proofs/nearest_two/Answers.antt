-- `palette_two::nearest_two` meets its contract. The loop's invariant: `best` is a scan of the first i gaps. Assumes nothing.
use mathlib.Core.Path.{refl}
use native.Mathlib.Omega.{arith}
use lib.Ieee.{of_bits}
use Rattle.stats.specs.Stats.{scan_two}
use Rattle.palette_two.proofs.Weighs.{nearest-step, nearest_end}
use Rattle.palette_two.proofs.nearest_two.Goals as goal

pub loop-i-init : goal.loop-i-init
unfolding scan_two of_bits
loop-i-init c = refl

pub loop-i-preserved : goal.loop-i-preserved
loop-i-preserved c = nearest-step _ _ _ _ _ _ _ _ c.loop-i.invariant c.colour.ensures c.oklab_sqdist-d.ensures c.smallest_two-best.ensures

pub returns : goal.returns
returns c = nearest_end _ _ c.loop-i.i _ _ _ _ (omega arith) refl c.loop-i.invariant c.with_other.ensures

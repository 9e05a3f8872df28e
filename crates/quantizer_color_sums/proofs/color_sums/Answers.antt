-- `quantizer_color_sums::color_sums` meets its contract. The loop's invariant: the sums are those after the first i tiles. Assumes nothing.
use mathlib.Core.Path.{refl}
use Rattle.palette_tile.proofs.Walks.{walked_start, walked_more}
use Rattle.quantizer_color_sums.proofs.color_sums.Goals as goal

pub loop-i-init : goal.loop-i-init
loop-i-init c = walked_start refl

pub loop-i-preserved : goal.loop-i-preserved
loop-i-preserved c = walked_more c.loop-i.invariant c.loop-i-test.true c.color_step.ensures

-- `quantizer_needs::color_distances` meets its contract. The loop's invariant: the sums and the hints are those after the first i tiles. Assumes nothing.
use mathlib.Core.Path.{refl}
use Rattle.palette_tile.proofs.Walks.{walked_start, walked_more}
use Rattle.quantizer_needs.proofs.Turns.{none_fitted, all_fitted}
use Rattle.quantizer_needs.proofs.color_distances.Goals as goal

pub returns-then-have-eq1 : goal.returns-then-have-eq1
returns-then-have-eq1 c = none_fitted _ _ _ c.if-have-eq1.true _ _ c.requires.1

pub loop-i-init : goal.loop-i-init
loop-i-init c = (walked_start c.requires.1, walked_start refl)

pub loop-i-preserved : goal.loop-i-preserved
loop-i-preserved c = (walked_more c.loop-i.invariant.0 c.loop-i-test.true c.tile_step.ensures.0, walked_more c.loop-i.invariant.1 c.loop-i-test.true c.tile_step.ensures.1)

pub returns : goal.returns
returns c = all_fitted _ _ _ c.loop-i.invariant.0 c.loop-i.invariant.1 c.if-have-eq1.false c.loop-i-test.false

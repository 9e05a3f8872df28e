-- `assign_tiles::assign_tiles` meets its contract. The invariant: the memory is what the first i tiles leave. Assumes nothing.
use mathlib.Core.Path.{refl}
use Rattle.palette_tile.proofs.Walks.{walked_start}
use Rattle.assign_tiles.proofs.Fills.{filled_more, filled_end}
use Rattle.assign_tiles.proofs.assign_tiles.Goals as goal

pub loop-i-init : goal.loop-i-init
loop-i-init c = (walked_start refl, walked_start refl)

pub loop-i-preserved : goal.loop-i-preserved
loop-i-preserved c = filled_more _ _ _ _ _ c.loop-i.invariant c.loop-i-test.true _ c.assign_tile.ensures

pub returns : goal.returns
returns c = filled_end _ _ _ _ _ c.loop-i.invariant c.loop-i-test.false

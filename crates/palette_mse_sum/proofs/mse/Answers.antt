-- `palette_mse_sum::mse` meets its contract. The loop's invariant: the sum and the hints are those after the first i tiles. Assumes nothing.
use mathlib.Core.Path.{refl}
use Rattle.palette_tile.proofs.Walks.{walked_start, walked_more, walked_end}
use Rattle.palette_mse.proofs.Turns.{sum-turn, sum_meaned, sum_end}
use Rattle.palette_mse_sum.proofs.mse.Goals as goal

pub loop-i-init : goal.loop-i-init
loop-i-init c = (walked_start refl, walked_start refl)

pub tile_step-sum-requires : goal.tile_step-sum-requires
tile_step-sum-requires c =
    sum-turn _ _ _ _ c.requires.0
    c.loop-i.invariant.0 c.requires.1 c.loop-i.invariant.1 c.loop-i-test.true

pub loop-i-preserved : goal.loop-i-preserved
loop-i-preserved c = (
  walked_more c.loop-i.invariant.0 c.loop-i-test.true
      c.tile_step-sum.ensures.0,
  walked_more c.loop-i.invariant.1
      c.loop-i-test.true c.tile_step-sum.ensures.1,
)

pub mean-requires : goal.mean-requires
mean-requires c = sum_meaned _ _ _ _ c.requires.0 c.loop-i.invariant.0

pub returns : goal.returns
returns c = (sum_end _ _ _ _ c.requires.0 c.loop-i.invariant.0 c.loop-i-test.false _ c.mean.ensures, walked_end c.loop-i.invariant.1 c.loop-i-test.false)

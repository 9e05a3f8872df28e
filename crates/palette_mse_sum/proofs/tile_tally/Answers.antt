-- `palette_mse_sum::tile_tally` meets its contract. The loop's invariant: the sum and the count are those with the first k colours. Assumes nothing.
use mathlib.Core.Path.{refl}
use native.Mathlib.Omega.{arith}
use Rattle.palette_mse.specs.Mse.{tile_tally}
use Rattle.palette_mse.proofs.Sums.{near_widens, tally_step_lem}
use Rattle.palette_mse_sum.proofs.tile_tally.Goals as goal

pub loop-k-init : goal.loop-k-init
unfolding tile_tally
loop-k-init c = (omega arith, refl)

pub float_to_float-total : goal.float_to_float-total
float_to_float-total c =
    near_widens _ _ _ c.requires.0 c.loop-k.k (omega arith) _ _ refl c.nearest_distance-near.ensures

pub loop-k-preserved : goal.loop-k-preserved
loop-k-preserved c =
    (omega (arith, c.requires.0.high c.loop-k.k (omega arith)), tally_step_lem _ _ _ _ _ _ _ _ _ c.loop-k.invariant.1 refl c.nearest_distance-near.ensures)

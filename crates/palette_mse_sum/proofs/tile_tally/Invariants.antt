-- `palette_mse_sum::tile_tally` meets its contract. The loop's invariant: the sum and the count are those with the first k colours. Assumes nothing.
use Rattle.job.specs.Job.{most_tile_size}
use Prim.Native.Nat.{◌+◌, ◌*◌, ◌≤◌}
use mathlib.Core.Path.{◌≡◌}
use Rattle.palette.specs.Palette.{tile_in}
use Rattle.palette_mse.specs.Mse.{tile_tally}
use Rattle.palette_mse_sum.proofs.tile_tally.Given as goal

abbrev pub invariant-loop-k : goal.invariant-loop-k
invariant-loop-k l = (l.count ≤ l.initial.count + most_tile_size * l.k) × (record { total = l.total; count = l.count } ≡ tile_tally l.s (tile_in l.tile) l.w (record { total = l.initial.total; count = l.initial.count }) l.k)

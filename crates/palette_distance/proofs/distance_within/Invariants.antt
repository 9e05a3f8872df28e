-- `palette_distance::distance_within` meets its contract. The loops' invariant: the sum is that over the first 4·j colours, then over the first k,
-- and it is not over the limit. Assumes nothing.
use Prim.Native.Nat.{◌*◌}
use mathlib.Core.Path.{◌≡◌}
use mathlib.Core.Bool.{false}
use lib.Ieee.{lt}
use Rattle.palette.specs.Palette.{total_of, tile_in}
use Rattle.palette_distance.proofs.distance_within.Given as goal

abbrev pub invariant-loop-j : goal.invariant-loop-j
invariant-loop-j l = (l.sum ≡ total_of l.s (tile_in l.tile) l.w (4 * l.j)) × (lt l.limit l.sum ≡ false)

abbrev pub invariant-loop-k : goal.invariant-loop-k
invariant-loop-k l = (l.sum ≡ total_of l.s (tile_in l.tile) l.w l.k) × (lt l.limit l.sum ≡ false)

-- `palette_fit::best_from` meets its contract. The outer invariant: `best` leads among the hint and the subpalettes before i.
-- The inner ones: the sum is that over the first 4·j colours, then over the first k, and it has not lost yet; the four ahead are the
-- tile's, where it has four more. Assumes nothing.
use Prim.Native.Nat.{◌+◌, ◌*◌, ◌≤◌, ◌<◌}
use mathlib.Core.Path.{◌≡◌}
use mathlib.Core.Bool.{false}
use Rattle.ieee.specs.Terms.{over}
use Rattle.stats.proofs.Leading.{Leading}
use Rattle.palette.specs.Palette.{total_of, dist_at, tile_in, palette_in}
use Rattle.palette_distance.specs.Distance.{quartet_of}
use Rattle.palette_fit.proofs.best_from.Given as goal

abbrev pub invariant-loop-j : goal.invariant-loop-j
invariant-loop-j l = record {
  total : l.sum ≡ total_of l.sub (tile_in l.tile) l.w (4 * l.j);
  unlost : 0 < l.j → over l.sum l.least l.later ≡ false;
  next : 4 * l.j + 4 ≤ l.size → l.ahead ≡ quartet_of (tile_in l.tile) (4 * l.j);
}

abbrev pub invariant-loop-k : goal.invariant-loop-k
invariant-loop-k l = record {
  total : l.sum ≡ total_of l.sub (tile_in l.tile) l.w l.k;
  unlost : 0 < l.k → over l.sum l.least l.later ≡ false;
}

abbrev pub invariant-subs : goal.invariant-subs
invariant-subs l = Leading (dist_at (palette_in l.palette) (tile_in l.tile) l.w) l.palette.subs l.hint l.i (record { index = l.best; dist = l.least })

-- `quantizer_matches_two::for_each_match_two` meets its contract. The loops' invariant: the sums are those after the first 4·j colours, then
-- after the first k. Assumes nothing.
use Prim.Native.Nat.{◌*◌, ◌≤◌}
use mathlib.Core.Path.{◌≡◌}
use Rattle.palette.specs.Palette.{tile_in}
use Rattle.quantizer.specs.Replacing.{shares, tile_shares}
use Rattle.quantizer_matches_two.proofs.for_each_match_two.Given as goal

abbrev pub invariant-loop-j : goal.invariant-loop-j
invariant-loop-j l = shares l.had l.lost ≡ tile_shares l.sub (tile_in l.tile) l.w l.base (shares l.fn.had l.fn.lost) (4 * l.j)

abbrev pub invariant-loop-k : goal.invariant-loop-k
invariant-loop-k l = (l.k ≤ l.n) × (shares l.had l.lost ≡ tile_shares l.sub (tile_in l.tile) l.w l.base (shares l.fn.had l.fn.lost) l.k)

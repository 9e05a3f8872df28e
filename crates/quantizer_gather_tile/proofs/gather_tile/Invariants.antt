-- `quantizer_gather_tile::gather_tile` meets its contract. The loop's invariant: the first k colours are added. Assumes nothing.
use mathlib.Core.Path.{◌≡◌}
use Rattle.palette.specs.Palette.{tile_in}
use Rattle.quantizer.specs.Refining.{tile_gather}
use Rattle.quantizer_gather_tile.proofs.gather_tile.Given as goal

abbrev pub invariant-loop-k : goal.invariant-loop-k
invariant-loop-k l = l.gathered ≡ tile_gather l.sub (tile_in l.tile) l.w l.base l.initial.gathered l.k

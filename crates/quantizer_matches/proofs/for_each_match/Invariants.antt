-- `quantizer_matches::for_each_match` meets its contract. The loop's invariant: the sums are those after the first k colours. Assumes nothing.
use mathlib.Core.Path.{◌≡◌}
use Rattle.palette.specs.Palette.{tile_in}
use Rattle.quantizer.specs.Growing.{tile_needs}
use Rattle.quantizer_matches.proofs.for_each_match.Given as goal

abbrev pub invariant-loop-k : goal.invariant-loop-k
invariant-loop-k l = l.total ≡ tile_needs l.sub (tile_in l.tile) l.w l.base l.initial.total l.k

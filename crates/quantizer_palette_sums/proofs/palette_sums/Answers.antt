-- `quantizer_palette_sums::palette_sums` meets its contract. The loop's invariant: the sums and the hints are those after the first i tiles. Assumes nothing.
use mathlib.Core.Path.{refl}
use Rattle.palette_tile.proofs.Walks.{walked_start}
use Rattle.quantizer_palette_sums.proofs.Pairs.{pairing_below, pairing_more}
use Rattle.quantizer_palette_sums.proofs.palette_sums.Goals as goal

pub loop-i-init : goal.loop-i-init
loop-i-init c = (walked_start refl, walked_start refl)

pub add_two-requires : goal.add_two-requires
add_two-requires c = pairing_below _ _ c.requires.0 _ _ _ _ c.loop-i.invariant _ c.tile_two-r.ensures.0

pub loop-i-preserved : goal.loop-i-preserved
loop-i-preserved c = pairing_more _ _ c.requires.0 _ _ _ _ c.loop-i.invariant _ c.tile_two-r.ensures.0 c.loop-i-test.true _ _ c.add_two.ensures c.tile_two-r.ensures.1

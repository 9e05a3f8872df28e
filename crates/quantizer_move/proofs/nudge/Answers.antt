-- `quantizer_move::nudge` meets its contract: the tile is fitted, its hint written, and the nearest colour of the winner moved. Assumes nothing.
use native.Mathlib.Omega.{arith}
use Rattle.quantizer_nudge.proofs.Asks.{sample_asked, fit_asked, part_asked, place_asked, place-small, draw-done}
use Rattle.quantizer_move.proofs.nudge.Goals as goal

pub sample_tile-tile-requires : goal.sample_tile-tile-requires
sample_tile-tile-requires c = (sample_asked _ _ _ _ _ _ c.requires).listed

pub sample_colour-q-requires : goal.sample_colour-q-requires
sample_colour-q-requires c = sample_asked _ _ _ _ _ _ c.requires

pub tile_fit-best-requires : goal.tile_fit-best-requires
tile_fit-best-requires c = fit_asked _ _ _ _ _ _ c.requires _ c.sample_tile-tile.ensures

pub part-requires : goal.part-requires
part-requires c = part_asked _ _ _ _ _ _ c.requires _ c.sample_tile-tile.ensures _ c.tile_fit-best.ensures.0

pub overflow_mul-winner : goal.overflow_mul-winner
overflow_mul-winner c = omega (arith, place-small _ _ _ _ _ _ c.requires _ c.sample_tile-tile.ensures _ c.tile_fit-best.ensures.0 _ c.part.ensures _ _ c.nearest-near.ensures)

pub overflow_add-winner : goal.overflow_add-winner
overflow_add-winner c = omega (arith, place-small _ _ _ _ _ _ c.requires _ c.sample_tile-tile.ensures _ c.tile_fit-best.ensures.0 _ c.part.ensures _ _ c.nearest-near.ensures)

pub nudge-requires : goal.nudge-requires
nudge-requires c = place_asked _ _ _ _ _ _ c.requires _ c.sample_tile-tile.ensures _ c.tile_fit-best.ensures.0 _ c.part.ensures _ _ c.nearest-near.ensures

pub returns : goal.returns
returns c = draw-done _ _ _ _ _ _ c.requires _ c.sample_tile-tile.ensures _ c.tile_fit-best.ensures.0 _ c.part.ensures _ _ c.nearest-near.ensures _ _ _ c.sample_colour-q.ensures c.tile_fit-best.ensures.1 c.nudge.ensures

-- `quantizer_sample::sample_colour` meets its contract: the colour is read from the part that is the tile's. Assumes nothing.
use Rattle.quantizer_sample.proofs.Colours.{tile_asked, colour_asked, colour-done}
use Rattle.quantizer.specs.Course.{sample_colour}
use Rattle.quantizer_sample.proofs.sample_colour.Goals as goal

pub tile_part-tile-requires : goal.tile_part-tile-requires
tile_part-tile-requires c = tile_asked _ _ _ _ c.requires _ c.sample_tile.ensures

pub colour-requires : goal.colour-requires
colour-requires c = colour_asked _ _ _ _ c.requires _ c.sample_tile.ensures _ c.tile_part-tile.ensures _ c.sample_place.ensures

pub returns : goal.returns
unfolding sample_colour
returns c = colour-done _ _ _ _ c.requires _ c.sample_tile.ensures _ c.tile_part-tile.ensures _ c.sample_place.ensures _ c.colour.ensures

-- `quantizer_gather_tile::add_at` meets its contract: the sum is read, added to and written, and then the count. Assumes nothing.
use Rattle.quantizer_gather_tile.proofs.Tiles.{added}
use Rattle.quantizer_gather_tile.proofs.add_at.Goals as goal

pub returns : goal.returns
returns c = added _ _ _ _ _ _ _ _ c.colour-x.ensures c.plus_times.ensures c.put.ensures

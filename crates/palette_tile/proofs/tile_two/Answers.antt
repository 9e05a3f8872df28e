-- `palette_tile::tile_two` meets its contract: palette and tile are the job's, and the job gives what the fit asks. Assumes nothing.
use Rattle.palette_tile.proofs.Asks.{colours_asked, counts_asked, two_asked, two-done}
use Rattle.palette_tile.proofs.tile_two.Goals as goal

pub tile-requires : goal.tile-requires
tile-requires c = (colours_asked _ _ _ _ _ _ c.requires, counts_asked _ _ _ _ _ _ c.requires)

pub best_two-requires : goal.best_two-requires
best_two-requires c = two_asked _ _ _ _ _ _ c.requires _ _ c.palette_of.ensures c.tile.ensures

pub returns : goal.returns
returns c = (two-done _ _ _ _ _ _ c.requires _ _ c.palette_of.ensures c.tile.ensures _ c.best_two.ensures.0, c.best_two.ensures.1)

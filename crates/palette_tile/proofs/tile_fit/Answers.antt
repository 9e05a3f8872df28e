-- `palette_tile::tile_fit` meets its contract: palette and tile are the job's, and the job gives what the fit asks. Assumes nothing.
use Rattle.palette_tile.proofs.Asks.{colours_asked, counts_asked, fit_asked, fit-done}
use Rattle.palette_tile.proofs.tile_fit.Goals as goal

pub tile-requires : goal.tile-requires
tile-requires c = (colours_asked _ _ _ _ _ _ c.requires.paired, counts_asked _ _ _ _ _ _ c.requires.paired)

pub best_fit-requires : goal.best_fit-requires
best_fit-requires c = fit_asked _ _ _ _ _ _ c.requires _ _ c.palette_of.ensures c.tile.ensures

pub returns : goal.returns
returns c = (fit-done _ _ _ _ _ _ c.requires.paired _ _ c.palette_of.ensures c.tile.ensures _ c.best_fit.ensures.0, c.best_fit.ensures.1)

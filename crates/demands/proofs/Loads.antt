-- The loads and the blank tiles of a sheet that is read are all its tiles. Assumes nothing.
use mathlib.Core.Bool.{true}
use Rattle.job.proofs.Ready.{plain_ready}
use Rattle.sheet_format.specs.Sheet.{edition_of}
use Rattle.sheet_format.specs.Lists.{floats}
use Rattle.sheet.specs.Sheets.{job_in}
use Rattle.sheet.proofs.Inverse.{accepted-job}
use Rattle.fits.proofs.Shown.{shown}
use Rattle.fit_tiles.proofs.Loads.{all-counted}
use Rattle.demands.specs.Loads.{Loads}

pub loads_hold : Loads
loads_hold = record {
  all = λ size bytes x b e.
      all-counted (job_in (edition_of size) x) (floats x.palette) (shown (job_in (edition_of size) x) (floats x.palette) true (plain_ready (job_in (edition_of size) x) (floats x.palette) true (accepted-job size bytes x b e))) x.tiles;
}

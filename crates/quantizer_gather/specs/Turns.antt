-- What gathering asks of the sums and the counts at a tile of a job. Definitions only. Assumes nothing.
use Rattle.std.specs.Prelude.{ℕ, ◌*◌, List, Float}
use Rattle.job.specs.Job.{Job, most_tile_size}
use Rattle.palette_tile.specs.Tiles.{Paired}
use Rattle.quantizer.specs.declared.Gather.{Gather}
use Rattle.quantizer.specs.Refines.{Gathered}

-- of tile t of a job, where each tile before it had the pixels of the largest at most
pub record Turned (J : Job) (pal : List Float) (hints : List ℕ) (t : ℕ) (A : Gather) : Type 0 where
  pub paired : Paired J pal J.S J.C hints t
  pub gathered : Gathered A (most_tile_size * t)

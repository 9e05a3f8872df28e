-- What a turn over one tile asks. Definitions only. Assumes nothing.
use Rattle.std.specs.Prelude.{ℕ, ◌≡◌, List, length, Float}
use Rattle.job.specs.Job.{Job, most_subpalettes}
use Rattle.palette_tile.specs.Tiles.{Paired}

-- of tile t
pub record Turned (J : Job) (pal : List Float) (n : ℕ) (hints : List ℕ) (t : ℕ) (d : List Float) : Type 0 where
  pub paired : Paired J pal n 1 hints t
  pub whole : length d ≡ most_subpalettes

-- What the functions ask of samples, which are pairs of a tile and a place in it. Definitions only. Assumes nothing.
use Rattle.std.specs.Prelude.{ℕ, ◌+◌, ◌*◌, ◌<◌, Bool, List, get_or, length, Float}
use Rattle.job.specs.Job.{size_of, Inside}
use Rattle.job.specs.Gives.{Sampled}
use Rattle.quantizer.specs.Course.{Course}

-- sample i is there, and so are its tile and its colour
pub record Told (tiles : List ℕ) (colours : List Float) (samples : List ℕ) (i : ℕ) : Type 0 where
  pub listed : 2 * i + 1 < length samples
  pub tile : Inside 3 tiles (get_or samples (2 * i) 0) (length colours)
  pub place : get_or samples (2 * i + 1) 0 < size_of tiles (get_or samples (2 * i) 0)

-- a course whose job and samples passed
pub record Sampling (K : Course) : Type 0 where
  pub room : Bool
  pub passed : Sampled K.job K.n K.samples room

-- What the sums by colour ask: hints that name the subpalette that each tile goes to. Assumes nothing.
use Rattle.std.specs.Prelude.{ℕ, ◌<◌, ◌≡◌, List, length, Float}
use Rattle.job.specs.Job.{Job}
use Rattle.palette_tile.specs.Tiles.{Shown}
use Rattle.quantizer.specs.Replacing.{owner_of}
use Rattle.quantizer_owner.specs.Owner.{owner_in}

pub record Owned (J : Job) (pal : List Float) (hints : List ℕ) : Type 0 where
  pub shown : Shown J pal J.S J.C
  pub each : length hints ≡ J.T
  pub owner : (t : ℕ) → t < J.T → owner_in J.S hints t ≡ owner_of J pal t

-- tile t's part in the sums
pub record OwnerTurn (J : Job) (pal : List Float) (hints : List ℕ) (t : ℕ) : Type 0 where
  pub owned : Owned J pal hints
  pub tile : t < J.T

-- What a draw asks: `subs` subpalettes of `have` colours are present. Definitions only. Assumes nothing.
use Rattle.std.specs.Prelude.{ℕ, ◌+◌, ◌^◌, ◌<◌, ◌≡◌, List, get_or, length, Float}
use Rattle.cycle.specs.Cycle.{Cycle}
use Rattle.palette_tile.specs.Tiles.{Shown}
use Rattle.quantizer.specs.Course.{Course}
use Rattle.quantizer_sample.specs.Samples.{Sampling}

-- a course that passed, its palette, a hint for each tile, and an order of all samples, from which fewer than 2^64 - 1 draws were made
pub record Going (K : Course) (at : Cycle) (pal : List Float) (subs have : ℕ) (hints : List ℕ) : Type 0 where
  pub sampling : Sampling K
  pub shown : Shown K.job pal subs have
  pub each : length hints ≡ K.job.T
  pub all : length at.cards.order ≡ K.n
  pub below : (j : ℕ) → j < K.n → get_or at.cards.order j 0 < K.n
  pub few : at.made + 1 < 2 ^ 64

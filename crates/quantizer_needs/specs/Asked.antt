-- The sums that a colour is split by, where no tile is fitted for one colour each; and what their functions ask. Definitions only. Assumes nothing.
use Rattle.std.specs.Prelude.{ℕ, ◌<◌, ◌≡◌, cond, List, length, eqb, Float}
use Rattle.job.specs.Job.{Job}
use Rattle.palette_tile.specs.Tiles.{Shown, Paired}
use Rattle.quantizer.specs.Sums.{zeros, places}
use Rattle.quantizer.specs.Growing.{needs_of}

unfoldable pub split_sums : Job → List Float → ℕ → List Float
split_sums J pal have = cond (eqb have 1) (zeros places) (needs_of J pal have J.T)

-- tile t's part in the sums
pub record NeedTurn (J : Job) (pal : List Float) (have : ℕ) (hints : List ℕ) (t : ℕ) (total : List Float) : Type 0 where
  pub paired : Paired J pal J.S have hints t
  pub wide : length total ≡ places

-- a palette with room for one colour more in each subpalette, and a hint for each tile
pub record Growing (J : Job) (pal : List Float) (have : ℕ) (hints : List ℕ) : Type 0 where
  pub shown : Shown J pal J.S have
  pub more : have < J.C
  pub each : length hints ≡ J.T

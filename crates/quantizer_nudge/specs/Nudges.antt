-- What sample i of a course does to a palette and its hints, and what that asks: `subs` subpalettes of `have` colours are present.
-- Definitions only. Assumes nothing.
use Rattle.std.specs.Prelude.{ℕ, ◌<◌, ◌≡◌, List, length, Float}
use Rattle.palette_tile.specs.Tiles.{Shown}
use Rattle.quantizer.specs.Course.{Course, sample_tile, sample_place}
use Rattle.quantizer.specs.Drawing.{moved, moved_hints}
use Rattle.quantizer_sample.specs.Samples.{Sampling}

abbrev pub moved_by : Course → List Float → ℕ → ℕ → ℕ → Float → List Float
moved_by K pal subs have i alpha = moved K.job pal subs have (sample_tile K i) (sample_place K i) alpha

abbrev pub hints_by : Course → List Float → ℕ → ℕ → ℕ → List ℕ → List ℕ
hints_by K pal subs have i h = moved_hints K.job pal subs have (sample_tile K i) h

-- a course that passed, its palette, a hint for each tile, and sample i
pub record Drawing (K : Course) (pal : List Float) (subs have : ℕ) (hints : List ℕ) (i : ℕ) : Type 0 where
  pub sampling : Sampling K
  pub shown : Shown K.job pal subs have
  pub each : length hints ≡ K.job.T
  pub drawn : i < K.n

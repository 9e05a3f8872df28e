-- What the mean of the samples' colours and the first colour ask. Definitions only. Assumes nothing.
use Rattle.std.specs.Prelude.{ℕ, ◌/◌, ◌≤◌, ◌<◌, List, length, Float}
use Rattle.quantizer.specs.Course.{Course}
use Rattle.quantizer_sample.specs.Samples.{Told, Sampling}

-- of the mean: samples that are there, one at least, and as many as an f32 holds
pub record Averaging (tiles : List ℕ) (colours : List Float) (samples : List ℕ) : Type 0 where
  pub some : 1 ≤ length samples / 2
  pub few : length samples / 2 ≤ 16777216
  pub told : (i : ℕ) → i < length samples / 2 → Told tiles colours samples i

-- of the first colour: a course that passed, and a place
pub record Seeding (K : Course) (pal : List Float) : Type 0 where
  pub sampling : Sampling K
  pub room : 3 ≤ length pal

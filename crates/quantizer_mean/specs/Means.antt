-- What writing the means of the first n colours asks. Definitions only. Assumes nothing.
use Rattle.std.specs.Prelude.{ℕ, ◌*◌, ◌≤◌, ◌≡◌, List, get_or, length, Float}
use Rattle.quantizer.specs.Sums.{places}
use Rattle.quantizer.specs.declared.Gather.{Gather}

-- there is a place, a sum and a count for each, and an f32 holds every count
pub record Meaning (pal : List Float) (n : ℕ) (A : Gather) : Type 0 where
  pub room : 3 * n ≤ length pal
  pub size : n ≤ places
  pub whole : length A.sums ≡ 3 * places
  pub all : length A.cnts ≡ places
  pub few : (p : ℕ) → get_or A.cnts p 0 ≤ 16777216

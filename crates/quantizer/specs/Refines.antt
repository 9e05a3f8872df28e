-- What holds of the sums and counts of a refinement while they are gathered. Assumes nothing.
use Rattle.std.specs.Prelude.{ℕ, ◌*◌, ◌≤◌, ◌<◌, ◌≡◌, get_or, length}
use Rattle.color.specs.Color.{colour_at, Sized}
use Rattle.quantizer.specs.Sums.{places}
use Rattle.quantizer.specs.declared.Gather.{Gather}

-- the arrays are whole, and each sum is at most 2 for each pixel counted
pub record SumsWithin (A : Gather) : Type 0 where
  pub whole : length A.sums ≡ 3 * places
  pub all : length A.cnts ≡ places
  pub sized : (p : ℕ) → p < places → Sized (colour_at A.sums p) (2 * get_or A.cnts p 0)

-- ---- over the tiles: a tile has at most as many pixels as its size, which is at most `most_tile_size`
pub record Gathered (A : Gather) (m : ℕ) : Type 0 where
  pub held : SumsWithin A
  pub few : (i : ℕ) → get_or A.cnts i 0 ≤ m

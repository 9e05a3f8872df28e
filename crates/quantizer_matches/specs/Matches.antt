-- What a walk over a tile's matches asks, of a subpalette s whose sums begin at `base` of a list of `room`. Assumes nothing.
use Rattle.std.specs.Prelude.{ℕ, ◌+◌, ◌*◌, ◌/◌, ◌≤◌, ◌<◌, ◌≡◌, List, get_or, length, Float}
use Rattle.palette.specs.Palette.{Tile}

pub record Matched (s : List Float) (X : Tile) (base room : ℕ) : Type 0 where
  pub some : 1 ≤ length s / 3
  pub place : base + length s / 3 ≤ room
  pub three : length X.colours ≡ 3 * length X.counts
  pub high : (k : ℕ) → k < length X.counts → get_or X.counts k 0 ≤ 16777216

-- What gathering asks of the sums and the counts. Definitions only. Assumes nothing.
use Rattle.std.specs.Prelude.{ℕ, ◌+◌, ◌*◌, ◌/◌, ◌≤◌, ◌<◌, ◌≡◌, List, get_or, length, Float}
use Rattle.lists.specs.Every.{sum}
use Rattle.color.specs.Color.{Bounded}
use Rattle.palette.specs.Palette.{Tile}
use Rattle.quantizer.specs.Sums.{places}
use Rattle.quantizer.specs.declared.Gather.{Gather}
use Rattle.quantizer.specs.Refines.{SumsWithin}

-- the pixels of a tile
abbrev pub pixels : Tile → ℕ → ℕ
pixels X k = sum (λ i. get_or X.counts i 0) k

-- of m pixels more at p
pub record Adding (A : Gather) (p m : ℕ) : Type 0 where
  pub whole : length A.sums ≡ 3 * places
  pub all : length A.cnts ≡ places
  pub place : p < places
  pub small : m ≤ 16777216
  pub few : get_or A.cnts p 0 + m < 4294967296

-- of a tile, to the colours of s, whose sums begin at `base`
pub record Gathering (s : List Float) (X : Tile) (base : ℕ) (A : Gather) : Type 0 where
  pub some : 1 ≤ length s / 3
  pub place : base + length s / 3 ≤ places
  pub three : length X.colours ≡ 3 * length X.counts
  pub bounded : Bounded X.colours 2
  pub held : SumsWithin A
  pub few : (p : ℕ) → get_or A.cnts p 0 + pixels X (length X.counts) ≤ 8388608

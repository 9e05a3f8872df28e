-- Parts of one flat palette, the nearest colour, a tile's distance and its best fit, over flat lists of three numbers a colour; and what the functions ask.
-- Definitions only: none reads a hint. Assumes nothing.
use Rattle.std.specs.Prelude.{ℕ, zero, suc, ◌*◌, ◌/◌, ◌≤◌, ◌<◌, ◌≡◌, List, get_or, length, pos, T, Float}
use Rattle.std.specs.Float.Ieee.Positive.{positive}
use Rattle.std.specs.Float.{binary32}
use Rattle.std.specs.Float.Ieee.{add, mul, of_int, of_bits}
use Rattle.lists.specs.Parts.{part}
use Rattle.color.specs.declared.Oklab.{Oklab}
use Rattle.color.specs.Color.{sqdist_of, colour_at, Real, Finite}
use Rattle.stats.specs.declared.Near.{Near}
use Rattle.palette.specs.declared.Palette as declared-palette
use Rattle.palette.specs.declared.Tile as declared-tile
use Rattle.stats.specs.Stats.{least_of}

-- ---- values
-- subpalettes one after the other, each with room for `stride` colours, of which the first `have` are present
pub record Palette : Type 0 where
  pub flat : List Float
  pub stride : ℕ
  pub have : ℕ
  pub subs : ℕ

abbrev pub palette_with : List Float → ℕ → ℕ → ℕ → Palette
palette_with pal c have n = record { flat = pal; stride = c; have = have; subs = n }

abbrev pub palette_in : declared-palette.Palette → Palette
palette_in p = palette_with p.flat.now p.stride p.have p.subs

-- a tile's colours, and how many of its pixels have each
pub record Tile : Type 0 where
  pub colours : List Float
  pub counts : List ℕ

abbrev pub tile_with : List Float → List ℕ → Tile
tile_with colours counts = record { colours = colours; counts = counts }

abbrev pub tile_in : declared-tile.Tile → Tile
tile_in x = tile_with x.colours.now x.counts.now

-- ---- distances
-- subpalette i begins at 3·i·c; of its c places the first `have` are in it
abbrev pub sub_of : List Float → ℕ → ℕ → ℕ → List Float
sub_of pal c have i = part pal (3 * c) (3 * have) i

-- from colour i of s to q
unfoldable pub gap : List Float → Oklab → Float → ℕ → Float
gap s q w i = sqdist_of (colour_at s i) q w

-- the nearest colour of s: from index 0 and infinity, only a strictly smaller distance is taken
abbrev pub nearest_of : List Float → Oklab → Float → Near
nearest_of s q w = least_of (gap s q w) (length s / 3)

-- what colour k of a tile adds: the nearest distance times the count
abbrev pub term_of : List Float → Tile → Float → ℕ → Float
term_of s X w k = mul binary32 (nearest_of s (colour_at X.colours k) w).dist (of_int binary32 (pos (get_or X.counts k 0)))

-- the sum over a tile's first k colours, from 0, colour by colour
unfoldable pub total_of : List Float → Tile → Float → ℕ → Float
total_of s X w zero = of_bits binary32 0
total_of s X w (suc k) = add binary32 (total_of s X w k) (term_of s X w k)

abbrev pub tile_distance : List Float → Tile → Float → Float
tile_distance s X w = total_of s X w (length X.counts)

-- from a tile to subpalette i
unfoldable pub dist_at : Palette → Tile → Float → ℕ → Float
dist_at P X w i = tile_distance (sub_of P.flat P.stride P.have i) X w

-- the subpalette of least distance, the lowest index of those
abbrev pub best_fit : Palette → Tile → Float → Near
best_fit P X w = least_of (dist_at P X w) P.subs

-- ---- what the functions ask
pub record Present (P : Palette) : Type 0 where
  pub room : P.subs * (3 * P.stride) ≤ length P.flat
  pub present : P.have ≤ P.stride
  pub finite : Finite P.flat

-- three numbers a count; each count is at least 1, and an f32 holds it
pub record Counted (X : Tile) : Type 0 where
  pub three : length X.colours ≡ 3 * length X.counts
  pub finite : Finite X.colours
  pub low : (k : ℕ) → k < length X.counts → 1 ≤ get_or X.counts k 0
  pub high : (k : ℕ) → k < length X.counts → get_or X.counts k 0 ≤ 16777216

-- colours whose distances are no NaN and have no sign
pub record Clear (s : List Float) (q : Oklab) (w : Float) : Type 0 where
  pub sub : Finite s
  pub colour : Real q
  pub weight : T (positive w)

-- a subpalette, and a tile that may be empty
pub record Measured (s : List Float) (X : Tile) (w : Float) : Type 0 where
  pub sub : Finite s
  pub tile : Counted X
  pub weight : T (positive w)

-- a palette, and a tile that may be empty
pub record Fits (P : Palette) (X : Tile) (w : Float) : Type 0 where
  pub palette : Present P
  pub tile : Counted X
  pub weight : T (positive w)

-- place t of the hints is there, and a u32 holds every index
pub record Hinted (n : ℕ) (hints : List ℕ) (t : ℕ) : Type 0 where
  pub subs : 1 ≤ n
  pub few : n ≤ 4294967296
  pub at : t < length hints

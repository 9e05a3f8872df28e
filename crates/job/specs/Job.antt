-- A job: sizes, weight, tile table, colours and counts; its tiles; and its limits. Definitions only. Assumes nothing.
use Rattle.std.specs.Prelude.{ℕ, ◌+◌, ◌*◌, ◌≤◌, ◌<◌, Bool, List, eqb, length, get_or, take, drop, Float}
use Rattle.std.specs.Float.{binary32}
use Rattle.std.specs.Float.Ieee.{of_bits}
use Rattle.job.specs.declared.Sizes.{Sizes}
use Rattle.job.specs.declared.Job as declared

-- S subpalettes of C colours, T tiles; two numbers a tile in the table, three a colour
pub record Job : Type 0 where
  -- the pixels of a tile, at most
  pub size : ℕ
  pub S : ℕ
  pub C : ℕ
  pub T : ℕ
  pub weight : Float
  pub tiles : List ℕ
  pub colours : List Float
  pub counts : List ℕ

abbrev pub job : ℕ → ℕ → ℕ → ℕ → Float → List ℕ → List Float → List ℕ → Job
job size s c t weight tiles colours counts = record { size = size; S = s; C = c; T = t; weight = weight; tiles = tiles; colours = colours; counts = counts }

-- the numbers of a call, one by one
abbrev pub sizes_of : ℕ → ℕ → ℕ → ℕ → ℕ → Float → Sizes
sizes_of size s c t n weight = record { size = size; s = s; c = c; t = t; n = n; weight = weight }

-- the job that a call's numbers and lists make
abbrev pub job_of : Sizes → List ℕ → List Float → List ℕ → Job
job_of z tiles colours counts = job z.size z.s z.c z.t z.weight tiles colours counts

-- the job that is lent
abbrev pub job_in : declared.Job → Job
job_in j = job_of j.sizes j.tiles.now j.colours.now j.counts.now

-- ---- the tile table: first colour and number of colours of each tile
abbrev pub first_of : List ℕ → ℕ → ℕ
first_of tiles t = get_or tiles (2 * t) 0

abbrev pub size_of : List ℕ → ℕ → ℕ
size_of tiles t = get_or tiles (2 * t + 1) 0

-- the colours and the counts of tile t
abbrev pub colours_part : List ℕ → List Float → ℕ → List Float
colours_part tiles colours t = take (3 * size_of tiles t) (drop (3 * first_of tiles t) colours)

abbrev pub counts_part : List ℕ → List ℕ → ℕ → List ℕ
counts_part tiles counts t = take (size_of tiles t) (drop (first_of tiles t) counts)

-- the same of a job
abbrev pub tile_of : Job → ℕ → List Float
tile_of J t = colours_part J.tiles J.colours t

abbrev pub counts_of : Job → ℕ → List ℕ
counts_of J t = counts_part J.tiles J.counts t

abbrev pub is_empty : Job → ℕ → Bool
is_empty J t = eqb (size_of J.tiles t) 0

-- tile t stands in the table, and its colours, `per` numbers each, among those of a list of the given length
pub record Inside (per : ℕ) (tiles : List ℕ) (t length·part : ℕ) : Type 0 where
  pub listed : 2 * t + 1 < length tiles
  pub inside : per * (first_of tiles t + size_of tiles t) ≤ length·part

-- ---- limits
-- a tile's pixels: 8 by 8, or 16 by 16
abbrev pub small_tile : ℕ
small_tile = 64

abbrev pub large_tile : ℕ
large_tile = 256

-- whatever its size
abbrev pub most_tile_size : ℕ
most_tile_size = large_tile

abbrev pub most_subpalettes : ℕ
most_subpalettes = 16

abbrev pub most_colours : ℕ
most_colours = 16

abbrev pub most_tiles : ℕ
most_tiles = 1024

abbrev pub most_tile_colours : ℕ
most_tile_colours = 16384

abbrev pub most_samples : ℕ
most_samples = 16384

abbrev pub nought : Float
nought = of_bits binary32 0

abbrev pub two : Float
two = of_bits binary32 0x40000000

abbrev pub sixteen : Float
sixteen = of_bits binary32 0x41800000

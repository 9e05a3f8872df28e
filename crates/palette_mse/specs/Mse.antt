-- The mean squared error of a palette over a job's tiles: in f64 over the tiles that are not empty, in order, and narrowed to f32 at the end.
-- Definitions only: none reads a hint. Assumes nothing.
use Rattle.std.specs.Prelude.{ℕ, zero, suc, ◌+◌, ◌*◌, ◌/◌, ◌≤◌, ◌<◌, ◌≡◌, cond, not, List, get_or, length, pos, T, eqb, Float}
use Rattle.std.specs.Float.{binary32, binary64}
use Rattle.std.specs.Float.Ieee.{add, mul, div, of_int, of_bits, is_nan}
use Rattle.std.specs.Float.Ieee.Positive.{positive}
use Rattle.ieee.specs.Terms.{Within}
use Rattle.ieee.specs.Narrow.{narrow_of}
use Rattle.color.specs.Color.{colour_at, Bounded}
use Rattle.job.specs.Job.{Job, size_of, is_empty, most_tile_size}
use Rattle.palette.specs.Palette.{Tile, sub_of, nearest_of}
use Rattle.palette_tile.specs.Walk.{walk}
use Rattle.palette_tile.specs.Tiles.{tile_at, winner, Paired}
use Rattle.palette_mse.specs.declared.Tally.{Tally}

-- what colour k of a tile adds: the nearest distance, exact in f64, times the count
abbrev pub error_of : List Float → Tile → Float → ℕ → Float
error_of s X w k = mul binary64 (nearest_of s (colour_at X.colours k) w).dist (of_int binary64 (pos (get_or X.counts k 0)))

abbrev pub step_tally : Tally → Float → ℕ → Tally
step_tally a x n = record { total = add binary64 a.total x; count = a.count + n }

-- with a tile's first k colours
unfoldable pub tile_tally : List Float → Tile → Float → Tally → ℕ → Tally
tile_tally s X w a zero = a
tile_tally s X w a (suc k) = step_tally (tile_tally s X w a k) (error_of s X w k) (get_or X.counts k 0)

-- with tile t, matched to its winner; an empty tile adds nothing
unfoldable pub tally_step : Job → List Float → ℕ → ℕ → ℕ → Tally → Tally
unfolding tile_tally
tally_step J pal n have t a = cond (is_empty J t) a (tile_tally (sub_of pal J.C have (winner J pal n have t)) (tile_at J t) J.weight a (size_of J.tiles t))

abbrev pub nothing : Tally
nothing = record { total = of_bits binary64 0; count = 0 }

-- over the first t tiles
abbrev pub tally_of : Job → List Float → ℕ → ℕ → ℕ → Tally
tally_of J pal n have t = walk (tally_step J pal n have) nothing t

-- 0 where nothing counts
abbrev pub mean_error : Tally → Float
mean_error a = cond (eqb a.count 0) (of_bits binary32 0) (narrow_of (div binary64 a.total (of_int binary64 (pos a.count))))

unfoldable pub mse_of : Job → List Float → ℕ → ℕ → Float
unfolding walk tally_step
mse_of J pal n have = mean_error (tally_of J pal n have J.T)

-- ---- what the functions ask
-- of a tile's sum: a subpalette with a colour, a tile beside its counts, and bounds
pub record Summed (s : List Float) (X : Tile) (w : Float) : Type 0 where
  pub some : 1 ≤ length s / 3
  pub sub : Bounded s 4
  pub weight : T (positive w)
  pub heavy : Within w 16 1
  pub three : length X.colours ≡ 3 * length X.counts
  pub bounded : Bounded X.colours 2
  pub low : (k : ℕ) → k < length X.counts → 1 ≤ get_or X.counts k 0
  pub high : (k : ℕ) → k < length X.counts → get_or X.counts k 0 ≤ most_tile_size

-- of a turn over tile t: each tile before it has as many colours, of as many pixels, as the largest tile has pixels, at most
pub record Turn (J : Job) (pal : List Float) (n have : ℕ) (hints : List ℕ) (t : ℕ) (a : Tally) : Type 0 where
  pub paired : Paired J pal n have hints t
  pub few : a.count ≤ most_tile_size * most_tile_size * t

-- of the mean: a count that an f64 holds, and a quotient to narrow
pub record Meaned (a : Tally) : Type 0 where
  pub exact : a.count ≤ 9007199254740992
  pub real : (a.count ≡ 0 → ⊥) → T (not (is_nan (div binary64 a.total (of_int binary64 (pos a.count)))))

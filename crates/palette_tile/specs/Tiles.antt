-- The fit of a job's tile among the n subpalettes of `have` colours that are present, the best two, and the hints that fits leave.
-- Definitions only: none reads a hint. Assumes nothing.
use Rattle.std.specs.Prelude.{ℕ, ◌*◌, ◌≤◌, ◌<◌, ◌≡◌, cond, List, length, set, Float}
use Rattle.color.specs.Color.{Bounded}
use Rattle.job.specs.Job.{Job, size_of, tile_of, counts_of, is_empty}
use Rattle.job.specs.Gives.{Ready}
use Rattle.stats.specs.declared.Near.{Near}
use Rattle.stats.specs.declared.Two.{Two}
use Rattle.palette.specs.Palette.{Palette, Tile, palette_with, tile_with, best_fit}
use Rattle.palette_two.specs.PaletteTwo.{best_two}
use Rattle.palette_tile.specs.Walk.{walk}

abbrev pub tile_at : Job → ℕ → Tile
tile_at J t = tile_with (tile_of J t) (counts_of J t)

-- the flat palette of a job, with n subpalettes of `have` colours
abbrev pub present_in : Job → List Float → ℕ → ℕ → Palette
present_in J pal n have = palette_with pal J.C have n

unfoldable pub fit_at : Job → List Float → ℕ → ℕ → ℕ → Near
fit_at J pal n have t = best_fit (present_in J pal n have) (tile_at J t) J.weight

-- the subpalette of least distance to tile t, the lowest index of those
abbrev pub winner : Job → List Float → ℕ → ℕ → ℕ → ℕ
winner J pal n have t = (fit_at J pal n have t).index

unfoldable pub two_at : Job → List Float → ℕ → ℕ → ℕ → Two
two_at J pal n have t = best_two (present_in J pal n have) (tile_at J t) J.weight

-- ---- the hints left behind: a tile that is not empty has its winner, an empty one keeps its own
unfoldable pub hint_step : Job → List Float → ℕ → ℕ → ℕ → List ℕ → List ℕ
hint_step J pal n have t h = cond (is_empty J t) h (set h t (winner J pal n have t))

-- after the first t tiles
abbrev pub hints_of : Job → List Float → ℕ → ℕ → List ℕ → ℕ → List ℕ
hints_of J pal n have h t = walk (hint_step J pal n have) h t

-- ---- what the functions ask
-- a job that passed, and its palette, of which n subpalettes of `have` colours are present
pub record Shown (J : Job) (pal : List Float) (n have : ℕ) : Type 0 where
  pub ready : Ready J
  pub subs : 1 ≤ n
  pub most : n ≤ J.S
  pub some : 1 ≤ have
  pub present : have ≤ J.C
  pub room : length pal ≡ 3 * (J.S * J.C)
  pub bounded : Bounded pal 4

-- tile t of it, and a hint for each tile
pub record Paired (J : Job) (pal : List Float) (n have : ℕ) (hints : List ℕ) (t : ℕ) : Type 0 where
  pub shown : Shown J pal n have
  pub tile : t < J.T
  pub each : length hints ≡ J.T

-- a tile that is not empty
pub record Fitted (J : Job) (pal : List Float) (n have : ℕ) (hints : List ℕ) (t : ℕ) : Type 0 where
  pub paired : Paired J pal n have hints t
  pub full : 1 ≤ size_of J.tiles t

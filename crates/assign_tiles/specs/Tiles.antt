-- The subpalette of each tile of a job, and the hints that are left, tile by tile; and what the functions ask. Definitions only. Assumes nothing.
use Rattle.std.specs.Prelude.{ℕ, ◌<◌, ◌≡◌, cond, List, Float, length, get_or, set}
use Rattle.job.specs.Job.{Job, is_empty}
use Rattle.palette_tile.specs.Walk.{walk}
use Rattle.palette_tile.specs.Tiles.{winner, hint_step, hints_of, Shown}

-- the memory that the call is lent: a hint and a subpalette for each tile
pub record TileMemory : Type 0 where
  pub hints : List ℕ
  pub out : List ℕ

abbrev pub tile_memory : List ℕ → List ℕ → TileMemory
tile_memory h o = record { hints = h; out = o }

-- the subpalette of tile t: its winner, 0 where it is empty
unfoldable pub subpalette_of : Job → List Float → ℕ → ℕ
subpalette_of J palette t = cond (is_empty J t) 0 (winner J palette J.S J.C t)

-- those of the first t tiles, over what was found
abbrev pub subpalettes : Job → List Float → List ℕ → ℕ → List ℕ
subpalettes J palette found t = walk (λ i out. set out i (subpalette_of J palette i)) found t

-- the hint that is left to tile t: its winner, what was found where it is empty
abbrev pub hint_of : Job → List Float → List ℕ → ℕ → ℕ
hint_of J palette found t = cond (is_empty J t) (get_or found t 0) (winner J palette J.S J.C t)

-- one tile more
abbrev pub assign_step : Job → List Float → ℕ → TileMemory → TileMemory
assign_step J palette t h = tile_memory (hint_step J palette J.S J.C t h.hints) (set h.out t (subpalette_of J palette t))

-- the memory after the first t tiles
unfoldable pub assigned : Job → List Float → TileMemory → ℕ → TileMemory
assigned J palette h t = tile_memory (hints_of J palette J.S J.C h.hints t) (subpalettes J palette h.out t)

-- ---- what the functions ask: a job and a palette that passed, and a place for each tile
pub record CanAssign (J : Job) (palette : List Float) (h : TileMemory) : Type 0 where
  pub shown : Shown J palette J.S J.C
  pub hints : length h.hints ≡ J.T
  pub out : length h.out ≡ J.T

-- and a tile of it
pub record Turn (J : Job) (palette : List Float) (h : TileMemory) (t : ℕ) : Type 0 where
  pub ready : CanAssign J palette h
  pub tile : t < J.T

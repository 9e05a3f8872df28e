-- Growing: each of all subpalettes gets one colour more, a copy of the one of greatest summed distance among the `have` that are present.
-- Definitions only. Assumes nothing.
use Rattle.std.specs.Prelude.{ℕ, zero, suc, ◌+◌, ◌*◌, cond, List, length, eqb, Float}
use Rattle.color.specs.Color.{colour_at}
use Rattle.job.specs.Job.{Job}
use Rattle.palette.specs.Palette.{Tile, sub_of, nearest_of, term_of}
use Rattle.palette_edit.specs.Edits.{colour_copied}
use Rattle.palette_tile.specs.Walk.{walk}
use Rattle.palette_tile.specs.Tiles.{tile_at, winner, hints_of}
use Rattle.quantizer.specs.Sums.{bump, zeros, places, sums_at, greatest}

-- the first k colours of a tile: the distance of each, times its count, goes to the sum of the nearest colour of s, whose sums begin at `base`
unfoldable pub tile_needs : List Float → Tile → Float → ℕ → List Float → ℕ → List Float
tile_needs s X w base d zero = d
tile_needs s X w base d (suc k) = bump (tile_needs s X w base d k) (base + (nearest_of s (colour_at X.colours k) w).index) (term_of s X w k)

-- tile t, to subpalette i: its colour j is at the place i * C + j. An empty tile adds nothing
unfoldable pub need_step : Job → List Float → ℕ → ℕ → ℕ → List Float → List Float
need_step J pal have i t d = tile_needs (sub_of pal J.C have i) (tile_at J t) J.weight (i * J.C) d (length (tile_at J t).counts)

-- over the first t tiles, each to the subpalette that fits it best
abbrev pub needs_of : Job → List Float → ℕ → ℕ → List Float
needs_of J pal have t = walk (λ i. need_step J pal have (winner J pal J.S have i) i) (zeros places) t

-- the colour of subpalette i to be copied: of those present, the last of greatest sum. Where only one is present, it is that one, and no tile is fitted
unfoldable pub split_of : Job → List Float → ℕ → ℕ → ℕ
split_of J pal have i = cond (eqb have 1) 0 (greatest (sums_at (needs_of J pal have J.T) (i * J.C) have))

-- the palette after the first i subpalettes got theirs: the copy stands after the colours present
unfoldable pub grown_by : Job → List Float → ℕ → ℕ → List Float
grown_by J pal have zero = pal
grown_by J pal have (suc i) = colour_copied (grown_by J pal have i) J.C i (split_of J pal have i) have

-- the stage boundary, and the hints left
unfoldable pub grown : Job → List Float → ℕ → List Float
grown J pal have = grown_by J pal have J.S

unfoldable pub grown_hints : Job → List Float → ℕ → List ℕ → List ℕ
grown_hints J pal have h = cond (eqb have 1) h (hints_of J pal J.S have h J.T)

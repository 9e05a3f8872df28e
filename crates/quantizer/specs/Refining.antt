-- One pass of refinement: each colour of a palette becomes the mean of the tile colours that are nearest to it, where there are any.
-- Every colour is present. Definitions only. Assumes nothing.
use Rattle.std.specs.Prelude.{ℕ, zero, suc, ◌+◌, ◌*◌, cond, List, get_or, length, set, replicate, eqb, Float}
use Rattle.color.specs.declared.Oklab.{Oklab}
use Rattle.color.specs.Color.{colour_at, put_at, plus_times, over_of}
use Rattle.job.specs.Job.{Job}
use Rattle.palette.specs.Palette.{Tile, sub_of, nearest_of}
use Rattle.palette_tile.specs.Walk.{walk}
use Rattle.palette_tile.specs.Tiles.{tile_at, winner}
use Rattle.quantizer.specs.Sums.{zeros, places}
use Rattle.quantizer.specs.declared.Gather.{Gather}

-- the sums, three numbers a colour, and how many pixels went into each
abbrev pub gather : List Float → List ℕ → Gather
gather sums cnts = record { sums = sums; cnts = cnts }

abbrev pub nothing : Gather
nothing = gather (zeros (3 * places)) (replicate places 0)

-- m pixels of the colour q, to the colour at p
unfoldable pub add_at : Gather → ℕ → Oklab → ℕ → Gather
add_at A p q m = gather (put_at A.sums p (plus_times (colour_at A.sums p) q m)) (set A.cnts p (get_or A.cnts p 0 + m))

-- the first k colours of a tile, each to the nearest colour of s, whose sums begin at `base`
unfoldable pub tile_gather : List Float → Tile → Float → ℕ → Gather → ℕ → Gather
tile_gather s X w base A zero = A
tile_gather s X w base A (suc k) =
    let q = colour_at X.colours k in
    add_at (tile_gather s X w base A k) (base + (nearest_of s q w).index) q (get_or X.counts k 0)

-- tile t, to subpalette i: its colour j is at the place i * C + j. An empty tile adds nothing
unfoldable pub gather_step : Job → List Float → ℕ → ℕ → Gather → Gather
gather_step J pal i t A = tile_gather (sub_of pal J.C J.C i) (tile_at J t) J.weight (i * J.C) A (length (tile_at J t).counts)

-- over the first t tiles, each to the subpalette that fits it best
abbrev pub gather_of : Job → List Float → ℕ → Gather
gather_of J pal t = walk (λ i. gather_step J pal (winner J pal J.S J.C i) i) nothing t

-- colour p becomes its mean, where pixels were counted
unfoldable pub mean_step : Gather → ℕ → List Float → List Float
mean_step A p pal = cond (eqb (get_or A.cnts p 0) 0) pal (put_at pal p (over_of (colour_at A.sums p) (get_or A.cnts p 0)))

-- so do the first n colours
unfoldable pub means_of : List Float → Gather → ℕ → List Float
means_of pal A zero = pal
means_of pal A (suc p) = mean_step A p (means_of pal A p)

-- the stage boundary. The hints left are `hints_of J pal J.S J.C h J.T`
unfoldable pub refined : Job → List Float → List Float
refined J pal = means_of pal (gather_of J pal J.T) (J.S * J.C)

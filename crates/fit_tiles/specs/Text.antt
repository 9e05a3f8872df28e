-- The lines that `fit` prints for a job and a palette. Definitions only. Assumes nothing.
use Rattle.std.specs.Prelude.{ℕ, zero, suc, cond, not, ◌&&◌, List, [], ◌++◌, eqb, Float}
use Rattle.std.specs.Float.{binary32}
use Rattle.std.specs.Float.Ieee.{to_bits}
use Rattle.lists.specs.Count.{hit}
use Rattle.lists.specs.Every.{sum}
use Rattle.assign_tiles.specs.Tiles.{subpalette_of}
use Rattle.job.specs.Job.{Job, size_of, is_empty}
use Rattle.palette_tile.specs.Tiles.{fit_at, two_at}
use Rattle.fit_lines.specs.declared.Found.{Found}
use Rattle.fit_lines.specs.Lines.{head_line, tile_line, load_line, blank_line}

-- the pattern of a tile's distance to the subpalette that fits it best; 0 of an empty one
unfoldable pub dist_bits : Job → List Float → ℕ → ℕ
dist_bits J palette t = cond (is_empty J t) 0 (to_bits binary32 (fit_at J palette J.S J.C t).dist)

-- the next best subpalette of a tile, its own where there is no other; 0 of an empty one
unfoldable pub next_sub : Job → List Float → ℕ → ℕ
next_sub J palette t = cond (is_empty J t) 0 (two_at J palette J.S J.C t).next

-- what a tile's line says
abbrev pub found_of : Job → List Float → ℕ → Found
found_of J palette t = record { sub = subpalette_of J palette t; dist = dist_bits J palette t; next = next_sub J palette t }

-- the lines of the first n tiles
unfoldable pub tile_lines : Job → List Float → ℕ → List ℕ
tile_lines J palette zero = []
tile_lines J palette (suc n) = tile_lines J palette n ++ tile_line n (found_of J palette n)

-- how many of the first n tiles are not empty and are assigned to subpalette k
unfoldable pub load_of : Job → List Float → ℕ → ℕ → ℕ
load_of J palette k n = sum (λ t. hit (not (is_empty J t) && eqb (subpalette_of J palette t) k)) n

-- how many of the first n tiles are empty
unfoldable pub blanks_of : List ℕ → ℕ → ℕ
blanks_of tiles n = sum (λ t. hit (eqb (size_of tiles t) 0)) n

-- the lines of n subpalettes, with the loads that f gives
unfoldable pub load_lines : (ℕ → ℕ) → ℕ → List ℕ
load_lines f zero = []
load_lines f (suc n) = load_lines f n ++ load_line n (f n)

unfoldable pub fit_text : Job → List Float → List ℕ
fit_text J palette =
    head_line J.T J.S
    ++ tile_lines J palette J.T
    ++ load_lines (λ k. load_of J palette k J.T) J.S
    ++ blank_line (blanks_of J.tiles J.T)

-- the bytes that the lines of any job take, at most: 28 for the sizes, 43 for a tile, 15 for a load, 11 for the blank ones
abbrev pub most_text : ℕ
most_text = 44311

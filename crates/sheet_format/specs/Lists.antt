-- A sheet's patterns as the lists of a job: floats, counts, colours, the tile table. Definitions only. Assumes nothing.
use Rattle.std.specs.Prelude.{ℕ, ◌+◌, List, [], ◌∷◌, ◌++◌, map, length, Float}
use Rattle.std.specs.Float.{binary32}
use Rattle.std.specs.Float.Ieee.{of_bits, to_bits}
use Rattle.sheet_format.specs.Sheet.{Colour}

abbrev pub floats : List ℕ → List Float
floats v = map (of_bits binary32) v

abbrev pub patterns : List Float → List ℕ
patterns v = map (to_bits binary32) v

-- of one tile: its counts, and its colours one after another
abbrev pub tile_counts : List Colour → List ℕ
tile_counts v = map (λ x. x.0) v

abbrev pub tile_floats : List Colour → List Float
tile_floats [] = []
tile_floats (x ∷ v) = floats x.1 ++ tile_floats v

-- of all tiles: counts, colours, the table of first colours and numbers of colours, the number of colours
abbrev pub all_counts : List (List Colour) → List ℕ
all_counts [] = []
all_counts (x ∷ v) = tile_counts x ++ all_counts v

abbrev pub all_floats : List (List Colour) → List Float
all_floats [] = []
all_floats (x ∷ v) = tile_floats x ++ all_floats v

abbrev pub table_of : ℕ → List (List Colour) → List ℕ
table_of k [] = []
table_of k (x ∷ v) = k ∷ length x ∷ table_of (k + length x) v

abbrev pub total : List (List Colour) → ℕ
total [] = 0
total (x ∷ v) = length x + total v

-- The sheet of a job, and the bits of a sheet's parts as they are written. Definitions only. Assumes nothing.
use Rattle.std.specs.Prelude.{ℕ, zero, suc, pred, ◌≤◌, ◌<◌, Bool, List, [], ◌∷◌, ◌++◌, length, get_or, take, drop, Float}
use Rattle.std.specs.Float.{binary32}
use Rattle.std.specs.Float.Ieee.{to_bits}
use Rattle.bits.specs.Bits.{bits_of}
use Rattle.job.specs.Job.{Job, colours_part, counts_part}
use Rattle.sheet_format.specs.declared.Edition.{Edition}
use Rattle.sheet_format.specs.Sheet.{opening, Colour, Sheet}
use Rattle.sheet_format.specs.Lists.{patterns}

-- ---- the sheet of a job
-- a tile's colours, each with its count
abbrev pub colours_of : List ℕ → List Float → List Colour
colours_of [] xs = []
colours_of (c ∷ cs) xs = (c, patterns (take 3 xs)) ∷ colours_of cs (drop 3 xs)

-- m tiles from tile i on
abbrev pub tiles_from : List ℕ → List Float → List ℕ → ℕ → ℕ → List (List Colour)
tiles_from tiles colours counts i zero = []
tiles_from tiles colours counts i (suc m) = colours_of (counts_part tiles counts i) (colours_part tiles colours i) ∷ tiles_from tiles colours counts (suc i) m

abbrev pub sheet_of : Job → List Float → Sheet
sheet_of J palette = record {
  subs = J.S;
  each = J.C;
  tiles = J.T;
  weight = to_bits binary32 J.weight;
  palette = patterns palette;
  content = tiles_from J.tiles J.colours J.counts 0 J.T;
}

-- ---- bits
abbrev pub words : List ℕ → List Bool
words [] = []
words (v ∷ s) = bits_of 32 v ++ words s

module _ (E : Edition) where
  abbrev pub colours_bits : List Colour → List Bool
  colours_bits [] = []
  colours_bits (x ∷ v) = bits_of E.each (pred x.0) ++ (words x.1 ++ colours_bits v)

  abbrev pub tile_bits : List Colour → List Bool
  tile_bits x = bits_of E.many (length x) ++ colours_bits x

  abbrev pub tiles_bits : List (List Colour) → List Bool
  tiles_bits [] = []
  tiles_bits (x ∷ v) = tile_bits x ++ tiles_bits v

  -- opening, edition, the sizes less one, the weight
  unfoldable pub head_bits : ℕ → ℕ → ℕ → ℕ → List Bool
  head_bits s c t w =
      bits_of 32 opening ++ (bits_of 4 E.number ++ (bits_of 4 (pred s) ++ (bits_of 4 (pred c) ++ (bits_of 10 (pred t) ++ bits_of 32 w))))

  abbrev pub sheet_bits : Sheet → List Bool
  sheet_bits x = head_bits x.subs x.each x.tiles x.weight ++ (words x.palette ++ tiles_bits x.content)

-- ---- what is asked
abbrev pub Counted : List ℕ → Type 0
Counted cs = (k : ℕ) → k < length cs → 1 ≤ get_or cs k 0

-- Sums of distances that a stage keeps, by subpalette or by colour. Definitions only. Assumes nothing.
use Rattle.std.specs.Prelude.{ℕ, ◌*◌, List, get_or, length, set, take, drop, replicate, Float}
use Rattle.std.specs.Float.{nan, binary32}
use Rattle.std.specs.Float.Ieee.{add, of_bits}
use Rattle.stats.specs.Stats.{value_at}
use Rattle.job.specs.Job.{most_subpalettes, most_colours}
use Rattle.stats_extremes.specs.Extremes.{argmax_of, argmin_of}

-- d(i) += x
abbrev pub bump : List Float → ℕ → Float → List Float
bump d i x = set d i (add binary32 (get_or d i nan) x)

-- n sums before the first is added to
abbrev pub zeros : ℕ → List Float
zeros n = replicate n (of_bits binary32 0)

-- a sum for each colour of any palette
abbrev pub places : ℕ
places = most_subpalettes * most_colours

-- the sums at `from`, `from` + 1 .. , `size` of them
abbrev pub sums_at : List Float → ℕ → ℕ → List Float
sums_at d from size = take size (drop from d)

-- the last of the greatest, and the first of the least
abbrev pub greatest : List Float → ℕ
greatest xs = argmax_of (value_at xs) (length xs)

abbrev pub smallest : List Float → ℕ
smallest xs = argmin_of (value_at xs) (length xs)

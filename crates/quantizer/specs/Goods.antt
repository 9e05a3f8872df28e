-- Sums that are no nan and have no sign. Assumes nothing.
use Rattle.std.specs.Prelude.{ℕ, ◌<◌, List, get_or, length, Float}
use Rattle.std.specs.Float.{nan, binary32}
use Rattle.ieee.specs.Terms.{Good}

abbrev pub AllGood : List Float → Type 0
AllGood d = (i : ℕ) → i < length d → Good binary32 (get_or d i nan)

-- What the choice of a swap asks: a sum of each kind for every place, one place at least, and no NaN; and the two places that it is between.
-- Assumes nothing.
use Rattle.std.specs.Prelude.{◌≤◌, ◌≡◌, List, length, Float}
use Rattle.stats.specs.Stats.{value_at}
use Rattle.stats_extremes.specs.Extremes.{NoNan}
use Rattle.quantizer.specs.declared.Swap.{Swap}
use Rattle.quantizer.specs.Sums.{greatest, smallest}

pub record Choosing (had lost : List Float) : Type 0 where
  pub some : 1 ≤ length had
  pub pairs : length lost ≡ length had
  pub had_real : NoNan (value_at had) (length had)
  pub lost_real : NoNan (value_at lost) (length lost)

-- the last that has most, and the first without which least is lost, also where nothing gives way
abbrev pub most_and_least : List Float → List Float → Swap
most_and_least had lost = record { from = greatest had; to = smallest lost }

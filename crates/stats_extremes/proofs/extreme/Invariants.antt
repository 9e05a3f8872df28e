-- `stats_extremes::extreme` meets its contract. The loop's invariant: best is the chosen of the first i. Assumes nothing.
use Prim.Native.Nat.{◌≤◌}
use mathlib.Core.Path.{◌≡◌}
use Rattle.stats.specs.Stats.{value_at}
use Rattle.stats_extremes.proofs.Choices.{chosen}
use Rattle.stats_extremes.proofs.extreme.Given as goal

abbrev pub invariant-loop-i : goal.invariant-loop-i
invariant-loop-i l = (l.best ≤ l.i) × (l.best ≡ chosen l.greatest (value_at l.values) l.i)

-- `count_samples` meets its contract. The loop's invariant: the tiles passed are counted. Assumes nothing.
use mathlib.Core.Path.{◌≡◌}
use Rattle.train_samples.specs.Samples.{units_to}
use Rattle.train_samples.proofs.count_samples.Given as goal

abbrev pub invariant-loop-i : goal.invariant-loop-i
invariant-loop-i l = l.n ≡ units_to l.job.tiles.now l.job.counts.now l.i

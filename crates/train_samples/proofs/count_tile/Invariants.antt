-- `count_tile` meets its contract. The loop's invariant: the counts passed are added up. Assumes nothing.
use mathlib.Core.Path.{◌≡◌}
use Rattle.train_samples.proofs.Counts.{units_of}
use Rattle.train_samples.proofs.count_tile.Given as goal

abbrev pub invariant-loop-m : goal.invariant-loop-m
invariant-loop-m l = l.n ≡ units_of l.part l.m-index

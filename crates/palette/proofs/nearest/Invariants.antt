-- `palette::nearest` meets its contract. The loop's invariant: `best` is the least of the first i gaps. Assumes nothing.
use mathlib.Core.Path.{◌≡◌}
use Rattle.stats.specs.Stats.{least_of}
use Rattle.palette.specs.Palette.{gap}
use Rattle.palette.proofs.nearest.Given as goal

abbrev pub invariant-loop-i : goal.invariant-loop-i
invariant-loop-i l = l.best ≡ least_of (gap l.s l.q l.w) l.i

-- `palette_two::nearest_two` meets its contract. The loop's invariant: `best` is a scan of the first i gaps. Assumes nothing.
use mathlib.Core.Path.{◌≡◌}
use Rattle.stats.specs.Stats.{scan_two}
use Rattle.palette.specs.Palette.{gap}
use Rattle.palette_two.proofs.nearest_two.Given as goal

abbrev pub invariant-loop-i : goal.invariant-loop-i
invariant-loop-i l = l.best ≡ scan_two (gap l.s l.q l.w) l.i

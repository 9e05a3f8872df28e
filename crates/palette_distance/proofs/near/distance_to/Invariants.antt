-- `palette_distance::distance_to` meets its contract. The loop's invariant: `least` is the least of the first i gaps. Assumes nothing.
use Prim.Native.Nat.{◌≤◌}
use mathlib.Core.Path.{◌≡◌}
use Rattle.stats.specs.Stats.{least_of}
use Rattle.palette.specs.Palette.{gap}
use Rattle.palette_distance.proofs.near.distance_to.Given as goal

abbrev pub invariant-loop-i : goal.invariant-loop-i
invariant-loop-i l = (l.i ≤ l.n) × (l.least ≡ (least_of (gap l.s l.q l.w) l.i).dist)

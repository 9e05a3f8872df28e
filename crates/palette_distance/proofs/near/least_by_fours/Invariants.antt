-- `palette_distance::least_by_fours` meets its contract. The loop's invariant: the least of the four lanes is that of the first 4·k gaps.
-- Assumes nothing.
use Prim.Native.Nat.{◌*◌}
use Rattle.stats.proofs.Lesser.{Lanes}
use Rattle.palette.specs.Palette.{gap}
use Rattle.palette_distance.proofs.near.least_by_fours.Given as goal

abbrev pub invariant-loop-k : goal.invariant-loop-k
invariant-loop-k l = Lanes (gap l.s l.q l.w) (4 * l.k) l.first l.second l.third l.fourth

-- `palette_distance::nearest_four` meets its contract. The loop's invariant: each lane is the least of its colour's first i gaps. Assumes nothing.
use Rattle.palette_distance.proofs.Lanes.{FourLeast}
use Rattle.palette_distance.proofs.near.nearest_four.Given as goal

abbrev pub invariant-loop-i : goal.invariant-loop-i
invariant-loop-i l = FourLeast l.s l.w l.i l.p l.q l.r l.t l.first l.second l.third l.fourth

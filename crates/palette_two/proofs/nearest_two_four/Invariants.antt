-- `palette_two::nearest_two_four` meets its contract. The loop's invariant: each lane is a scan of its colour's first i gaps. Assumes nothing.
use Rattle.palette_two.proofs.Weighs.{FourScans}
use Rattle.palette_two.proofs.nearest_two_four.Given as goal

abbrev pub invariant-loop-i : goal.invariant-loop-i
invariant-loop-i l = FourScans l.s l.w l.i l.p l.q l.r l.t l.first l.second l.third l.fourth

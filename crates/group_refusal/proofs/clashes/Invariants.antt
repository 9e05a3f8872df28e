-- `group_refusal::clashes` meets its contract: the loop keeps that what is left gives the whole. Assumes nothing.
use Prim.Native.Nat.{◌-◌}
use mathlib.Core.Path.{◌≡◌}
use Rattle.group_pixels.specs.Pixel.{clash}
use Rattle.group_refusal.specs.Faults.{clashes, some}
use Rattle.group_refusal.proofs.clashes.Given as goal

abbrev pub invariant-loop-i : goal.invariant-loop-i
invariant-loop-i l = clashes l.q.bytes.now l.q.oklab.now l.k ≡ some (λ j. clash l.q.bytes.now l.q.oklab.now j l.k) l.i (l.k - l.i)

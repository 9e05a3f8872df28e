-- `run_memory::copy` meets its contract. The invariant: what stands before i is copied. Assumes nothing.
use mathlib.Core.Path.{refl, sym, ◌∙◌}
use native.Mathlib.Omega.{arith}
use lib.Ieee.{nan}
use lib.ListN.{length-set}
use Rattle.run_memory.proofs.Fills.{copy_more, copied}
use Rattle.run_memory.proofs.copy.Goals as goal

pub loop-i-init : goal.loop-i-init
loop-i-init c = (c.requires, refl)

pub bounds-to-i : goal.bounds-to-i
bounds-to-i c = omega (arith, c.loop-i.invariant.0)

pub loop-i-preserved : goal.loop-i-preserved
loop-i-preserved c = (simp length-set c.loop-i.invariant.0, copy_more nan _ _ _ c.loop-i.invariant.0 c.loop-i-test.true c.loop-i.invariant.1)

pub shape_of-to : goal.shape_of-to
shape_of-to c = c.loop-i.invariant.0 ∙ sym c.requires

pub returns : goal.returns
returns c = copied nan _ _ _ c.loop-i.invariant.0 c.loop-i-test.false c.loop-i.invariant.1

-- `run_steps::advance_work` meets its contract: the draws made so far are a beginning of the advance, and the rest of it is still to come. Assumes nothing.
use Prim.Native.Nat.{◌-◌}
use Rattle.quantizer.specs.Course.{course_in}
use Rattle.run_stages.specs.State.{state_with}
use Rattle.run_steps.proofs.Advances.{Advancing}
use Rattle.run_steps.proofs.advance_work.Given as goal

abbrev pub invariant-loop-order : goal.invariant-loop-order
invariant-loop-order l = Advancing (course_in l.course) l.allotment (state_with l.initial.order l.initial.hints l.initial.palette l.initial.least l.initial.r) l.drawn (state_with l.order l.hints l.palette l.least l.r)

abbrev pub decreases-loop-order : goal.decreases-loop-order
decreases-loop-order l = l.allotment - l.drawn

-- `run_round::settle` meets its contract. The invariant: what settling gives is still to come, from a state that can be closed. Assumes nothing.
use Rattle.quantizer.specs.Course.{course_in}
use Rattle.run_stages.specs.State.{state_with}
use Rattle.run_calls.proofs.Place.{togo}
use Rattle.run_round.proofs.Closes.{Settling}
use Rattle.run_round.proofs.settle.Given as goal

abbrev pub invariant-loop-hints : goal.invariant-loop-hints
invariant-loop-hints l = Settling (course_in l.course) (state_with l.order l.initial.hints l.initial.palette l.initial.least l.initial.at) (state_with l.order l.hints l.palette l.least l.at)

abbrev pub decreases-loop-hints : goal.decreases-loop-hints
decreases-loop-hints l = togo (course_in l.course) (state_with l.order l.hints l.palette l.least l.at)

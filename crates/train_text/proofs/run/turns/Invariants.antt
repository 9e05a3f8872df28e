-- `turns` meets its contract. The loop's invariant: the memory is what so many turns leave. Assumes nothing.
use Rattle.quantizer.specs.Course.{course_in}
use Rattle.run_stages.specs.Calls.{memory}
use Rattle.train_text.proofs.Joined.{Turned}
use Rattle.train_text.proofs.run.turns.Given as goal

abbrev pub invariant-loop-passed : goal.invariant-loop-passed
invariant-loop-passed l = Turned (course_in l.course) l._passed (memory l.initial.order l.initial.hints l.initial.palette l.initial.least l.initial.words) (memory l.order l.hints l.palette l.least l.words)

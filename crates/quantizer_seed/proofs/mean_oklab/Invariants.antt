-- `quantizer_seed::mean_oklab` meets its contract. The loop's invariant: the first i samples are summed. Assumes nothing.
use mathlib.Core.Path.{◌≡◌}
use Rattle.color.specs.Color.{sum_of}
use Rattle.quantizer.specs.Course.{course_in, sample_colour}
use Rattle.quantizer_seed.proofs.mean_oklab.Given as goal

abbrev pub invariant-loop-i : goal.invariant-loop-i
invariant-loop-i l = l.sum ≡ sum_of (sample_colour (course_in l.course)) l.i

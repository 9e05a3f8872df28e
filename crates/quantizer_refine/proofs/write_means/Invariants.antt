-- `quantizer_refine::write_means` meets its contract. The loop's invariant: the first p means are written. Assumes nothing.
use mathlib.Core.Path.{◌≡◌}
use Rattle.quantizer.specs.Refining.{means_of}
use Rattle.quantizer_refine.proofs.write_means.Given as goal

abbrev pub invariant-loop-p : goal.invariant-loop-p
invariant-loop-p l = l.pal ≡ means_of l.initial.pal l.gathered l.p

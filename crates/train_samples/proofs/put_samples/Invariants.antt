-- `put_samples` meets its contract. The loop's invariant: the samples of the tiles passed stand there. Assumes nothing.
use Rattle.fit_lines.specs.Lines.{Stored}
use Rattle.train_samples.specs.Samples.{samples_to}
use Rattle.train_samples.proofs.put_samples.Given as goal

abbrev pub invariant-loop-i : goal.invariant-loop-i
invariant-loop-i l = Stored l.initial.samples l.samples 0 l.q (samples_to l.job.tiles.now l.job.counts.now l.i)

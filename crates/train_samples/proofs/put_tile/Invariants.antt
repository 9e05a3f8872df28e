-- `put_tile` meets its contract. The loop's invariant: the samples of the colours passed stand there. Assumes nothing.
use Rattle.fit_lines.specs.Lines.{Stored}
use Rattle.train_samples.specs.Samples.{tile_samples}
use Rattle.train_samples.proofs.put_tile.Given as goal

abbrev pub invariant-loop-k : goal.invariant-loop-k
invariant-loop-k l = Stored l.initial.samples l.samples l.at l.q (tile_samples l.i l.part l.k)

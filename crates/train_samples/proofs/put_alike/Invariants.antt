-- `put_alike` meets its contract. The loop's invariant: the samples passed stand there. Assumes nothing.
use Prim.Native.Nat.{◌+◌, ◌*◌}
use mathlib.Core.Path.{◌≡◌}
use Rattle.fit_lines.specs.Lines.{Stored}
use Rattle.train_samples.specs.Samples.{alike}
use Rattle.train_samples.proofs.put_alike.Given as goal

abbrev pub invariant-loop-done : goal.invariant-loop-done
invariant-loop-done l = (l.q ≡ l.at + 2 * l._done) × Stored l.initial.samples l.samples l.at l.q (alike l.i l.k l._done)

-- `put_alike` meets its contract. The loop's invariant: the samples passed stand there. Assumes nothing.
use mathlib.Core.Path.{◌≡◌}
use native.Mathlib.Omega.{arith}
use lib.ListN.{length-set}
use Rattle.train_samples.specs.Samples.{alike}
use Rattle.train_samples.proofs.Stores.{nothing, pair, alike-more}
use Rattle.train_samples.proofs.put_alike.Goals as goal

pub loop-done-init : goal.loop-done-init
unfolding alike
loop-done-init c = (omega arith, nothing _ _)

pub loop-done-preserved : goal.loop-done-preserved
loop-done-preserved c = (omega arith, alike-more _ _ _ _ _ _ _ _ _ c.loop-done.invariant.1 (pair _ _ _ _))

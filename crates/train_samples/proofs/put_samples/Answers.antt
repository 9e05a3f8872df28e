-- `put_samples` meets its contract. The loop's invariant: the samples of the tiles passed stand there. Assumes nothing.
use mathlib.Core.Path.{◌≡◌}
use native.Mathlib.Omega.{arith}
use Rattle.train_samples.specs.Samples.{samples_to}
use Rattle.train_samples.proofs.Stores.{nothing, samples-more, part_fits_lem}
use Rattle.train_samples.proofs.put_samples.Goals as goal

pub loop-i-init : goal.loop-i-init
unfolding samples_to
loop-i-init c = nothing _ _

pub put_tile-q-requires : goal.put_tile-q-requires
put_tile-q-requires c =
    part_fits_lem _ _ _ c.requires.0 _ _ _ _ _ c.loop-i-test.true c.loop-i.invariant c.counts_part-part.ensures
    (omega (arith, c.loop-i.auto.samples, c.requires.1))

pub loop-i-preserved : goal.loop-i-preserved
loop-i-preserved c =
    samples-more _ _ _ _ _ _ _ _ _ c.loop-i.invariant (rw c.counts_part-part.ensures at c.put_tile-q.ensures)

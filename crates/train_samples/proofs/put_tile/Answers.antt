-- `put_tile` meets its contract. The loop's invariant: the samples of the colours passed stand there. Assumes nothing.
use mathlib.Core.Path.{◌≡◌}
use native.Mathlib.Omega.{arith}
use lib.ListN.{length}
use Rattle.train_samples.specs.Samples.{tile_samples}
use Rattle.train_samples.proofs.Stores.{nothing, tile-more, tile-place, next_fits}
use Rattle.train_samples.proofs.put_tile.Goals as goal

pub loop-k-init : goal.loop-k-init
unfolding tile_samples
loop-k-init c = nothing _ _

pub put_alike-q-requires : goal.put_alike-q-requires
put_alike-q-requires c =
    let turn = c.loop-k in let a = c.args in
    next_fits a.part.now turn.k a.at turn.q _ c.loop-k-test.true
    (tile-place a.samples.now turn.samples a.at turn.q a.i a.part.now turn.k turn.invariant) (omega (arith, turn.auto.samples, c.requires.1))

pub loop-k-preserved : goal.loop-k-preserved
loop-k-preserved c = tile-more _ _ _ _ _ _ _ _ _ c.loop-k.invariant c.put_alike-q.ensures

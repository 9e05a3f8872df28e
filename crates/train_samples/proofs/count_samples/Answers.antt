-- `count_samples` meets its contract. The loop's invariant: the tiles passed are counted. Assumes nothing.
use Prim.Native.Nat.{◌+◌}
use mathlib.Core.Path.{◌≡◌, sym, ap, ◌∙◌}
use native.Mathlib.Omega.{arith}
use Rattle.train_samples.specs.Samples.{units, units_to}
use Rattle.train_samples.proofs.Counts.{no_tile, tile-more, few-units}
use Rattle.train_samples.proofs.count_samples.Goals as goal

pub loop-i-init : goal.loop-i-init
loop-i-init c = sym (no_tile c.args.job.now.tiles.now c.args.job.now.counts.now)

pub overflow_add-n : goal.overflow_add-n
overflow_add-n c =
    let a = c.args in
    let more = tile-more a.job.now.tiles.now a.job.now.counts.now c.loop-i.i c.loop-i.n _ c.loop-i.invariant c.counts_part-part.ensures c.count_tile-n.ensures in
    omega (arith, more, few-units a.job.now.tiles.now a.job.now.counts.now a.job.now.sizes.t c.requires (c.loop-i.i + 1) (omega (arith, c.loop-i-test.true)), c.requires.few)

pub loop-i-preserved : goal.loop-i-preserved
loop-i-preserved c =
    let a = c.args in
    tile-more a.job.now.tiles.now a.job.now.counts.now c.loop-i.i c.loop-i.n _ c.loop-i.invariant c.counts_part-part.ensures c.count_tile-n.ensures

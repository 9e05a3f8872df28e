-- `count_tile` meets its contract. The loop's invariant: the counts passed are added up. Assumes nothing.
use mathlib.Core.Path.{sym}
use native.Mathlib.Omega.{arith}
use Rattle.train_samples.proofs.Counts.{none_of, one_more, part_small, all_of}
use Rattle.train_samples.proofs.count_tile.Goals as goal

pub loop-m-init : goal.loop-m-init
loop-m-init c = sym (none_of c.args.part.now)

pub overflow_add-n : goal.overflow_add-n
overflow_add-n c = omega (arith, c.requires, part_small c.args.part.now c.loop-m.m-index c.loop-m.n c.loop-m.invariant _ c.wide-n.ensures c.loop-m-test.true)

pub loop-m-preserved : goal.loop-m-preserved
loop-m-preserved c = one_more c.args.part.now c.loop-m.m-index c.loop-m.n c.loop-m.invariant _ c.wide-n.ensures

pub returns : goal.returns
returns c = all_of c.args.part.now c.loop-m.m-index c.loop-m.n c.loop-m.invariant (omega arith) c.loop-m-test.false

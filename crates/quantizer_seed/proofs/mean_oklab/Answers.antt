-- `quantizer_seed::mean_oklab` meets its contract. The loop's invariant: the first i samples are summed. Assumes nothing.
use native.Mathlib.Omega.{arith}
use Rattle.color.proofs.Steps.{sum-none, sum_more, mean_done}
use Rattle.quantizer_seed.proofs.mean_oklab.Goals as goal

pub loop-i-init : goal.loop-i-init
loop-i-init c = sum-none _

pub sample_colour-q-requires : goal.sample_colour-q-requires
sample_colour-q-requires c = c.requires.told c.loop-i.i c.loop-i-test.true

pub loop-i-preserved : goal.loop-i-preserved
loop-i-preserved c = sum_more _ _ _ _ _ c.loop-i.invariant c.sample_colour-q.ensures c.plus-sum.ensures

pub over-requires : goal.over-requires
over-requires c = omega (arith, c.requires.few)

pub returns : goal.returns
returns c = mean_done _ _ _ _ _ (omega arith) c.loop-i-test.false c.loop-i.invariant c.over.ensures

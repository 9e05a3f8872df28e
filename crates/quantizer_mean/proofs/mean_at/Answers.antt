-- `quantizer_mean::mean_at` meets its contract: a colour with no pixels is left, another is divided by its count. Assumes nothing.
use native.Mathlib.Omega.{arith}
use Rattle.quantizer_mean.proofs.Mean.{mean_kept, mean_written}
use Rattle.quantizer_mean.proofs.mean_at.Goals as goal

pub returns-then-m-eq0 : goal.returns-then-m-eq0
returns-then-m-eq0 c = mean_kept _ _ _ c.if-m-eq0.true

pub over-requires : goal.over-requires
over-requires c = omega (arith, c.requires.few c.args.p)

pub returns : goal.returns
returns c = mean_written _ _ _ c.if-m-eq0.false _ c.wide.ensures _ _ c.colour-x.ensures c.over.ensures _ c.put.ensures

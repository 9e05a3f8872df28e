-- `quantizer_refine::write_means` meets its contract. The loop's invariant: the first p means are written. Assumes nothing.
use Rattle.quantizer_refine.proofs.Writes.{means_none, means_more}
use Rattle.quantizer_refine.proofs.write_means.Goals as goal

pub loop-p-init : goal.loop-p-init
loop-p-init c = means_none _ _

pub loop-p-preserved : goal.loop-p-preserved
loop-p-preserved c = means_more _ _ _ _ _ c.loop-p.invariant c.mean_at.ensures

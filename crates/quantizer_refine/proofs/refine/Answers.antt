-- `quantizer_refine::refine` meets its contract: the sums and counts are gathered from zeros, and then the means are written. Assumes nothing.
use Rattle.quantizer_refine.proofs.Writes.{pass_meaning, pass_done}
use Rattle.quantizer_refine.proofs.refine.Goals as goal

pub write_means-requires : goal.write_means-requires
write_means-requires c = pass_meaning _ _ c.requires.0 _ c.gather_all.ensures.0

pub returns : goal.returns
returns c = (pass_done _ _ c.requires.0 _ c.gather_all.ensures.0 _ c.write_means.ensures, c.gather_all.ensures.1)

-- `run_keeping::is_kept` meets its contract: past the first round the bits kept are a number's. Assumes nothing.
use Rattle.run_keeping.proofs.Keeps.{bits-real}
use Rattle.run_keeping.proofs.is_kept.Goals as goal

pub float_from_bits-result : goal.float_from_bits-result
float_from_bits-result c = bits-real _ (c.requires c.if-round-eq0.false)

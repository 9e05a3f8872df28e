-- `run_keeping::enter_reducing` meets its contract. Assumes nothing.
use Rattle.run_keeping.proofs.Keeps.{reduced_by}
use Rattle.run_record.specs.Sized.{plain}
use Rattle.run_keeping.proofs.enter_reducing.Goals as goal

pub returns : goal.returns
returns c = reduced_by (plain c.args.z) _ _ c.args.r c.requires.two _ _ c.copy.ensures c.zero.ensures _ c.noted.ensures _ c.placed.ensures

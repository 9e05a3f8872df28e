-- `run_working::order_fits` meets its contract. Assumes nothing.
use Rattle.std.proofs.Common.{rules}
use Rattle.run_working.proofs.Works.{order_tested}
use Rattle.run_working.proofs.order_fits.Goals as goal

pub returns : goal.returns
returns c = order_tested _ _ _ (search rules)

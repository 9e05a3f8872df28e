-- `job::bad_colour` meets its contract: the colour is that of the component found. Assumes nothing.
use Rattle.job.proofs.Searches.{found}
use Rattle.job.proofs.bad_colour.Goals as goal

pub returns-in_err-bad : goal.returns-in_err-bad
returns-in_err-bad c = rw c.from_residual.ensures (found _ _ _ _ c.in_err-bad.ensures)

pub returns : goal.returns
returns c = found _ _ _ _ c.in_ok-bad.ensures

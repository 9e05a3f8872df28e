-- `job_entries::count_fits` meets its contract; the sum is tested by a difference, so that it cannot wrap. Assumes nothing.
use mathlib.Core.Path.{refl}
use Rattle.job_entries.proofs.Entries.{count_none, count_tested}
use Rattle.job_entries.proofs.count_fits.Goals as goal

pub returns-then-n-ne0 : goal.returns-then-n-ne0
returns-then-n-ne0 c = count_tested _ _ _ c.requires c.if-n-ne0.true

pub returns-else-n-ne0 : goal.returns-else-n-ne0
returns-else-n-ne0 c = rw c.if-n-ne0.false (count_none _ _ _ refl)

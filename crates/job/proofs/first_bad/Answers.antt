-- `job::first_bad` meets its contract: the component found, or how many there are. Assumes nothing.
use mathlib.Core.Path.{◌∙◌}
use Rattle.job.proofs.Searches.{or_all}
use Rattle.job.proofs.first_bad.Goals as goal

pub returns : goal.returns
returns c = c.unwrap_or.ensures ∙ or_all _ _ _ c.bad_component.ensures

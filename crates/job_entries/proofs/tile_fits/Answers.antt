-- `job_entries::tile_fits` meets its contract; the sum is tested by a difference, so that it cannot wrap. Assumes nothing.
use mathlib.Core.Path.{◌∙◌}
use Rattle.job_entries.proofs.Entries.{tile_tested, tile_fails, many_colours}
use borrow.Author.Tests.{ne_eqb}
use Rattle.job_entries.proofs.tile_fits.Goals.{then-first-at, else-first-at}
use Rattle.job_entries.proofs.tile_fits.Goals as goal

pub returns-then-n-size : goal.returns-then-n-size
returns-then-n-size c = tile_tested _ _ _ _ _ c.requires c.if-n-size.true.0 c.if-n-size.true.1

pub returns-else-n-size : goal.returns-else-n-size
returns-else-n-size c =
    elim c.if-first-at.branch [
      | then-first-at w ↦ w.t-7-is ∙ many_colours _ _ _ _ w.if-first-at.true c.if-n-size.either ∙ tile_fails _ _ _ _ _ c.if-n-size.either
      | else-first-at w ↦ w.t-7-is ∙ ne_eqb _ _ w.if-first-at.false ∙ tile_fails _ _ _ _ _ c.if-n-size.either
    ]

-- `fits_two::best_two` meets its contract: a refusal writes nothing, and the rest is the fit of tile 0. Assumes nothing.
use mathlib.Core.Path.{refl}
use Rattle.answer.proofs.Refusals.{never_done, passed_on}
use Rattle.fits.proofs.Shown.{one-paired}
use Rattle.fits_outcome.proofs.Pairs.{pair-refused, pair-done}
use Rattle.fits_two.proofs.best_two.Goals as goal

pub returns-in_err-check_one : goal.returns-in_err-check_one
returns-in_err-check_one c = rw (passed_on _ _ c.from_residual.ensures) (pair-refused _ _ _ _ c.in_err-check_one.ensures (never_done _))

pub tile_two-requires : goal.tile_two-requires
tile_two-requires c = one-paired _ _ _ _ c.in_ok-check_one.ensures refl _ refl

pub returns : goal.returns
returns c = pair-done _ _ _ _ c.in_ok-check_one.ensures refl _ _ c.tile_two.ensures.0 c.tile_two.ensures.1

-- `fits::single_fit` meets its contract: a refusal writes nothing, and the rest is the fit of tile 0. Assumes nothing.
use mathlib.Core.Path.{refl}
use Rattle.answer.proofs.Refusals.{never_done, passed_on}
use Rattle.fits_outcome.proofs.Singles.{single_refused, single_done}
use Rattle.fits.proofs.Asked.{single_asked}
use Rattle.fits.proofs.single_fit.Goals as goal

pub returns-in_err-check_single : goal.returns-in_err-check_single
returns-in_err-check_single c = rw (passed_on _ _ c.from_residual.ensures) (single_refused _ _ _ _ c.in_err-check_single.ensures (never_done _))

pub tile_fit-requires : goal.tile_fit-requires
tile_fit-requires c = single_asked _ _ _ _ c.in_ok-check_single.ensures refl _ refl

pub returns : goal.returns
returns c = single_done _ _ _ _ c.in_ok-check_single.ensures refl _ _ c.tile_fit.ensures.0 c.tile_fit.ensures.1

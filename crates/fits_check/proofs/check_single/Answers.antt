-- `fits_check::check_single` meets its contract: what `check_one` answers, then its own rule. Assumes nothing.
use mathlib.Core.Path.{refl}
use Rattle.answer.proofs.Refusals.{never_done, passed_on}
use Rattle.fits_check.proofs.Checks.{one-listed, single_stops, single_empty, single_passes}
use Rattle.fits_check.proofs.check_single.Goals as goal

pub returns-in_err-one : goal.returns-in_err-one
returns-in_err-one c = rw (passed_on _ _ c.from_residual.ensures) (single_stops _ _ _ _ c.in_err-one.ensures (never_done _))

pub is_empty-requires : goal.is_empty-requires
is_empty-requires c = one-listed _ _ _ _ c.in_ok-one.ensures refl

pub returns-then-is_empty : goal.returns-then-is_empty
returns-then-is_empty c = single_empty _ _ _ _ c.in_ok-one.ensures refl _ c.is_empty.ensures c.if-is_empty.true

pub returns : goal.returns
returns c = single_passes _ _ _ _ c.in_ok-one.ensures refl _ c.is_empty.ensures c.if-is_empty.false

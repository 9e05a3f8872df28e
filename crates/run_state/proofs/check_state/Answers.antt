-- `run_state::check_state` meets its contract, return by return. Assumes nothing.
use mathlib.Core.Bool.{not}
use mathlib.Core.Path.{refl, ap}
use mir.Facts.{Fits-le, Fits-lit}
use Rattle.answer.proofs.Passing.{refuses, passes, none}
use Rattle.answer.proofs.Refusals.{never_done, passed_on}
use Rattle.run_state.proofs.States.{record-stops, working_stops, working_goes}
use Rattle.run_state.proofs.check_state.Goals as goal

pub returns-in_err-check_record : goal.returns-in_err-check_record
returns-in_err-check_record c = rw (passed_on _ _ c.from_residual.ensures) (record-stops _ _ _ _ c.args.r _ c.in_err-check_record.ensures (never_done _))

pub overflow_mul-z : goal.overflow_mul-z
overflow_mul-z c = Fits-le c.requires.range.cells (Fits-lit {n = 256} tt)

pub check_working-requires : goal.check_working-requires
check_working-requires c = c.requires.range.cells

pub returns-in_err-check_working : goal.returns-in_err-check_working
returns-in_err-check_working c =
    rw (passed_on _ _ c.from_residual-in_err-check_working.ensures)
    (working_stops _ _ _ _ c.args.r _ c.in_ok-check_record.ensures refl _ c.in_err-check_working.ensures (never_done _))

pub returns-then-not-order_fits : goal.returns-then-not-order_fits
returns-then-not-order_fits c =
    working_goes _ _ _ _ c.args.r _ c.in_ok-check_record.ensures refl _ c.in_ok-check_working.ensures refl _
    (refuses _ _ _ c.order_fits.ensures (ap not c.if-not-order_fits.true))

pub returns : goal.returns
returns c =
    working_goes _ _ _ _ c.args.r _ c.in_ok-check_record.ensures refl _ c.in_ok-check_working.ensures refl _
    (passes _ _ _ _ c.order_fits.ensures (ap not c.if-not-order_fits.false) none)

-- `run_check::check_run` meets its contract, return by return. Assumes nothing.
use mathlib.Core.Path.{refl}
use Rattle.answer.proofs.Refusals.{never_done, passed_on}
use Rattle.run_check.proofs.Answers.{held-stops, held_goes, job-room, job-sized}
use Rattle.run_check.proofs.check_run.Goals as goal

pub returns-in_err-check_sampled-clause-answered : goal.returns-in_err-check_sampled-clause-answered
returns-in_err-check_sampled-clause-answered c =
    rw (passed_on _ _ c.from_residual.ensures) (held-stops _ _ _ _ _ _ c.in_err-check_sampled.ensures (never_done _))

pub record_of-r-requires : goal.record_of-r-requires
record_of-r-requires c = c.requires (job-room _ _ _ _ _ c.in_ok-check_sampled.ensures refl)

pub check_state-requires : goal.check_state-requires
check_state-requires c = job-sized _ _ _ _ _ _ _ c.in_ok-check_sampled.ensures refl

pub returns-in_err-check_state-clause-answered : goal.returns-in_err-check_state-clause-answered
returns-in_err-check_state-clause-answered c =
    rw (passed_on _ _ c.from_residual-in_err-check_state.ensures) (held_goes _ _ _ _ _ _ _ c.in_ok-check_sampled.ensures refl _ _ c.record_of-r.ensures _ c.in_err-check_state.ensures)

pub returns-clause-answered : goal.returns-clause-answered
returns-clause-answered c = held_goes _ _ _ _ _ _ _ c.in_ok-check_sampled.ensures refl _ _ c.record_of-r.ensures _ c.in_ok-check_state.ensures

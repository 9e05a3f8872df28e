-- `job_check::check_job` meets its contract, return by return: each is a law of proofs/Answers.antt. Assumes nothing.
use mathlib.Core.Path.{refl}
use Rattle.job.specs.Job.{job_in}
use Rattle.answer.proofs.Refusals.{never_done, passed_on}
use Rattle.job_check.proofs.Answers.{form_cells, form_table, plain_form, plain-tables, plain_bounds}
use Rattle.job_check.proofs.check_job.Goals as goal

pub returns-in_err-check_form : goal.returns-in_err-check_form
returns-in_err-check_form c = rw (passed_on _ _ c.from_residual.ensures) (plain_form _ _ _ _ c.in_err-check_form.ensures (never_done _))

pub check_tables-requires : goal.check_tables-requires
check_tables-requires c = form_table (job_in c.args.job.now) c.args.room _ refl _ c.in_ok-check_form.ensures

pub returns-in_err-check_tables : goal.returns-in_err-check_tables
returns-in_err-check_tables c =
    rw (passed_on _ _ c.from_residual-in_err-check_tables.ensures)
    (plain-tables _ _ _ _ c.in_ok-check_form.ensures refl _ c.in_err-check_tables.ensures (never_done _))

pub check_bounds-requires : goal.check_bounds-requires
check_bounds-requires c = form_cells (job_in c.args.job.now) c.args.room _ refl _ c.in_ok-check_form.ensures

pub returns : goal.returns
returns c = plain_bounds _ _ _ _ c.in_ok-check_form.ensures refl _ c.in_ok-check_tables.ensures refl _ c.check_bounds.ensures

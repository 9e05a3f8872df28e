-- `job_check::check_sampled` meets its contract, return by return: each is a law of proofs/Answers.antt. Assumes nothing.
use mathlib.Core.Path.{refl}
use Rattle.job.specs.Job.{job_in}
use Rattle.answer.proofs.Refusals.{never_done, passed_on}
use Rattle.job_check.proofs.Answers.{sampled-table, sampled-pairs, sampled_form_lem, sampled-tables, sampled-places}
use Rattle.job_check.proofs.check_sampled.Goals as goal

pub returns-in_err-check_sampled_form : goal.returns-in_err-check_sampled_form
returns-in_err-check_sampled_form c = rw (passed_on _ _ c.from_residual.ensures) (sampled_form_lem _ _ _ _ _ c.in_err-check_sampled_form.ensures (never_done _))

pub check_tables-requires : goal.check_tables-requires
check_tables-requires c = sampled-table (job_in c.args.job.now) c.args.room _ _ refl _ c.in_ok-check_sampled_form.ensures

pub returns-in_err-check_tables : goal.returns-in_err-check_tables
returns-in_err-check_tables c =
    rw (passed_on _ _ c.from_residual-in_err-check_tables.ensures)
    (sampled-tables _ _ _ _ _ c.in_ok-check_sampled_form.ensures refl _ c.in_err-check_tables.ensures (never_done _))

pub check_places-requires : goal.check_places-requires
check_places-requires c =
    let J = job_in c.args.job.now in let room = c.args.room in let n = c.args.job.now.sizes.n in (
      sampled-table J room n _ refl _ c.in_ok-check_sampled_form.ensures,
      sampled-pairs J room n _ refl _ c.in_ok-check_sampled_form.ensures,
    )

pub returns : goal.returns
returns c = sampled-places _ _ _ _ _ c.in_ok-check_sampled_form.ensures refl _ c.in_ok-check_tables.ensures refl _ c.check_places.ensures

-- `run_advance::advance` meets its contract, refused or not: each is a law of proofs/Answered.antt. The job is written out where it
-- would be found only by comparing all that is lent. Assumes nothing.
use mathlib.Core.Path.{refl}
use Rattle.answer.proofs.Refusals.{never_done, passed_on}
use Rattle.quantizer.specs.Course.{course_in}
use Rattle.run_advance.proofs.Answered.{refused, work_asks, worked}
use Rattle.run_advance.proofs.advance.Goals as goal

pub returns-in_err-check_advance : goal.returns-in_err-check_advance
returns-in_err-check_advance c = rw (passed_on _ _ c.from_residual.ensures) (refused _ _ _ _ _ _ _ c.in_err-check_advance.ensures _ (never_done _))

pub advance_work-draws-requires : goal.advance_work-draws-requires
advance_work-draws-requires c = work_asks _ _ _ _ _ _ _ c.in_ok-check_advance.ensures refl

pub returns : goal.returns
returns c =
    let a = c.args in
    worked (course_in a.course.now) a.order.now a.hints.now a.palette.now
    a.least.now a.words.now _ c.in_ok-check_advance.ensures a.allotment refl _ c.advance_work-draws.ensures

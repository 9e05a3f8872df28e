-- `job_check::check_form` meets its contract, return by return: each is a law of proofs/Answers.antt. Assumes nothing.
use mathlib.Core.Bool.{not}
use mathlib.Core.Path.{refl, ap}
use Rattle.job.specs.Job.{job_in}
use native.Mathlib.Omega.{arith}
use Rattle.answer.proofs.Refusals.{never_done, passed_on}
use Rattle.job.proofs.Ready.{sizes_of_lem}
use Rattle.job_check.proofs.Answers.{form_sizes, form_shapes, form_palette, form_room, form_passes}
use Rattle.job_check.proofs.check_form.Goals as goal

pub returns-in_err-check_sizes : goal.returns-in_err-check_sizes
returns-in_err-check_sizes c =
    rw (passed_on _ _ c.from_residual.ensures) (form_sizes (job_in c.args.job.now) c.args.room _ _ c.in_err-check_sizes.ensures (never_done _))

pub check_shapes-requires : goal.check_shapes-requires
check_shapes-requires c = (sizes_of_lem _ _ _ _ _ c.in_ok-check_sizes.ensures refl).tiles

pub returns-in_err-check_shapes : goal.returns-in_err-check_shapes
returns-in_err-check_shapes c =
    rw (passed_on _ _ c.from_residual-in_err-check_shapes.ensures)
    (form_shapes (job_in c.args.job.now) c.args.room _ c.in_ok-check_sizes.ensures refl _ _ c.in_err-check_shapes.ensures (never_done _))

pub overflow_mul-job : goal.overflow_mul-job
overflow_mul-job c = omega (arith, (sizes_of_lem _ _ _ _ _ c.in_ok-check_sizes.ensures refl).cells)

pub overflow_mul-job-2 : goal.overflow_mul-job-2
overflow_mul-job-2 c = omega (arith, (sizes_of_lem _ _ _ _ _ c.in_ok-check_sizes.ensures refl).cells)

pub returns-then-palette-job : goal.returns-then-palette-job
returns-then-palette-job c =
    form_palette (job_in c.args.job.now) c.args.room _ c.in_ok-check_sizes.ensures refl _ c.in_ok-check_shapes.ensures refl _ c.if-palette-job.true

pub returns-then-not-room : goal.returns-then-not-room
returns-then-not-room c =
    form_room (job_in c.args.job.now) c.args.room _
    c.in_ok-check_sizes.ensures refl _ c.in_ok-check_shapes.ensures refl _ c.if-palette-job.false (ap not c.if-not-room.true)

pub returns : goal.returns
returns c =
    form_passes (job_in c.args.job.now) c.args.room _
    c.in_ok-check_sizes.ensures refl _ c.in_ok-check_shapes.ensures refl _ c.if-palette-job.false (ap not c.if-not-room.false)

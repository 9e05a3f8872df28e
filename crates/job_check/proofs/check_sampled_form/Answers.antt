-- `job_check::check_sampled_form` meets its contract, return by return: each is a law of proofs/Answers.antt. Assumes nothing.
use mathlib.Core.Bool.{not}
use mathlib.Core.Path.{refl, ap}
use Rattle.answer.proofs.Refusals.{never_done, passed_on}
use Rattle.job.specs.Job.{job_in}
use Rattle.job.proofs.Ready.{sizes_of_lem}
use Rattle.job_check.proofs.Answers.{sampled-sizes, sampled-many, sampled_shapes, sampled_unpaired, sampled-room, sampled-none, sampled_passes}
use Rattle.job_check.proofs.check_sampled_form.Goals as goal

pub returns-in_err-check_sizes : goal.returns-in_err-check_sizes
returns-in_err-check_sizes c =
    let a = c.args in
    rw (passed_on _ _ c.from_residual.ensures)
    (sampled-sizes (job_in a.job.now) a.room a.job.now.sizes.n a.samples _ c.in_err-check_sizes.ensures (never_done _))

pub returns-then-job-gt-MOST_SAMPLES : goal.returns-then-job-gt-MOST_SAMPLES
returns-then-job-gt-MOST_SAMPLES c =
    let a = c.args in
    sampled-many (job_in a.job.now) a.room a.job.now.sizes.n a.samples _ c.in_ok-check_sizes.ensures
    refl c.if-job-gt-MOST_SAMPLES.true

pub check_shapes-requires : goal.check_shapes-requires
check_shapes-requires c = (sizes_of_lem _ _ _ _ _ c.in_ok-check_sizes.ensures refl).tiles

pub returns-in_err-check_shapes : goal.returns-in_err-check_shapes
returns-in_err-check_shapes c =
    let a = c.args in
    rw (passed_on _ _ c.from_residual-in_err-check_shapes.ensures)
    (sampled_shapes (job_in a.job.now) a.room a.job.now.sizes.n a.samples _ c.in_ok-check_sizes.ensures
    refl c.if-job-gt-MOST_SAMPLES.false _ c.in_err-check_shapes.ensures (never_done _))

pub returns-then-samples-job : goal.returns-then-samples-job
returns-then-samples-job c =
    let a = c.args in
    sampled_unpaired (job_in a.job.now) a.room a.job.now.sizes.n a.samples _ c.in_ok-check_sizes.ensures
    refl c.if-job-gt-MOST_SAMPLES.false _ c.in_ok-check_shapes.ensures refl c.if-samples-job.true

pub returns-then-not-room : goal.returns-then-not-room
returns-then-not-room c =
    let a = c.args in
    sampled-room (job_in a.job.now) a.room a.job.now.sizes.n a.samples _ c.in_ok-check_sizes.ensures
    refl c.if-job-gt-MOST_SAMPLES.false _ c.in_ok-check_shapes.ensures refl c.if-samples-job.false (ap not c.if-not-room.true)

pub returns-then-job-eq0 : goal.returns-then-job-eq0
returns-then-job-eq0 c =
    let a = c.args in
    sampled-none (job_in a.job.now) a.room a.job.now.sizes.n a.samples _ c.in_ok-check_sizes.ensures
    refl c.if-job-gt-MOST_SAMPLES.false _ c.in_ok-check_shapes.ensures refl c.if-samples-job.false (ap not c.if-not-room.false) c.if-job-eq0.true

pub returns : goal.returns
returns c =
    let a = c.args in
    sampled_passes (job_in a.job.now) a.room a.job.now.sizes.n a.samples _ c.in_ok-check_sizes.ensures
    refl c.if-job-gt-MOST_SAMPLES.false _ c.in_ok-check_shapes.ensures refl c.if-samples-job.false (ap not c.if-not-room.false) c.if-job-eq0.false

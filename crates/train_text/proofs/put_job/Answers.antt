-- `put_job` meets its contract: the parts that it lends are the job's lists. Assumes nothing.
use mathlib.Core.Path.{subst, subst⁻¹}
use Rattle.job.specs.Job.{Job}
use Rattle.fit_lines.specs.Lines.{Stored}
use Rattle.sheet_parts.specs.Front.{front_palette, Writable}
use Rattle.train_text.specs.Trained.{job_text}
use Rattle.train_text.proofs.put_job.Goals as goal

pub front_job-job-requires : goal.front_job-job-requires
front_job-job-requires c =
    let F = c.requires.0 in
    (F.shown.ready.sizes.tiled, F.tiled, F.few, F.coloured, F.counted)

pub slice_bounds-put_trained-end : goal.slice_bounds-put_trained-end
slice_bounds-put_trained-end c = c.requires.0.given

pub put_trained-requires : goal.put_trained-requires
put_trained-requires c =
    let a = c.args in (
      subst⁻¹ (λ (J : Job). Writable J (front_palette a.z a.palette.now)) c.front_job-job.ensures.0 c.requires.0.writable,
      c.requires.1,
    )

pub returns : goal.returns
returns c =
    let text = c.put_trained in (
      subst (λ (J : Job). Stored c.args.out.now text.new.out 0 text.result (job_text J)) c.front_job-job.ensures.0 text.ensures.0,
      text.ensures.1,
    )

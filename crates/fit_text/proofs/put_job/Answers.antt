-- `put_job` meets its contract: the parts that it lends are the job's lists. Assumes nothing.
use mathlib.Core.Path.{sym, ap, ◌∙◌, subst, subst⁻¹}
use native.Mathlib.Omega.{arith}
use Rattle.job.specs.declared.Sizes.{Sizes}
use Rattle.job.specs.Job.{Job}
use Rattle.palette_tile.specs.Tiles.{Shown}
use Rattle.fit_lines.specs.Lines.{Stored}
use Rattle.fit_tiles.specs.Text.{fit_text}
use Rattle.fit_tiles.proofs.Lengths.{fit-most}
use Rattle.sheet_parts.specs.Front.{front_job, front_palette}
use Rattle.sheet_parts.proofs.Parts.{front_long}
use Rattle.fit_text.proofs.put_job.Goals as goal

pub front_job-job-requires : goal.front_job-job-requires
front_job-job-requires c =
    let F = c.requires.0 in
    (F.shown.ready.sizes.tiled, F.tiled, F.few, F.coloured, F.counted)

pub slice_bounds-given-end : goal.slice_bounds-given-end
slice_bounds-given-end c = front_long _ _ c.requires.0.given

pub slice_bounds-hints-end : goal.slice_bounds-hints-end
slice_bounds-hints-end c = omega (arith, c.room-hints.ensures.0, c.requires.0.shown.ready.sizes.tiles)

pub put_fit-requires : goal.put_fit-requires
put_fit-requires c =
    let a = c.args in let made = c.front_job-job in let p = front_palette a.z a.palette.now in (
      subst⁻¹ (λ (J : Job). Shown J p made.result.sizes.s made.result.sizes.c) made.ensures.0
          (subst⁻¹ (λ (y : Sizes). Shown (front_job a.z a.tiles.now a.colours.now a.counts.now) p y.s y.c) made.ensures.1 c.requires.0.shown),
      sym (front_long _ _ (omega (arith, c.room-hints.ensures.0, c.requires.0.shown.ready.sizes.tiles))) ∙ sym (ap (λ (y : Sizes). y.t) made.ensures.1),
      c.requires.1,
    )

pub returns : goal.returns
returns c =
    let a = c.args in
    let printed = subst (λ (J : Job). Stored a.out.now c.put_fit.new.out 0 c.put_fit.result (fit_text J (front_palette a.z a.palette.now)))
    c.front_job-job.ensures.0 c.put_fit.ensures in (
      printed,
      omega (
        arith,
        printed.place,
        fit-most (front_job a.z a.tiles.now a.colours.now a.counts.now) (front_palette a.z a.palette.now) c.requires.0.shown.ready.sizes.tiles
            c.requires.0.shown.ready.sizes.few,
      ),
    )

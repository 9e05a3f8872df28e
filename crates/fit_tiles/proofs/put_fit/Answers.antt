-- `put_fit` meets its contract: the head, the tiles, the loads and the blank ones, one after another. Assumes nothing.
use native.Mathlib.Omega.{arith}
use lib.ListN.{get_or}
use Rattle.job.specs.Job.{Job, job_in}
use Rattle.fit_lines.proofs.Lengths.{head_most}
use Rattle.fit_tiles.proofs.Lengths.{tile_lines-most, loads-most}
use Rattle.fit_tiles.proofs.Tiles.{zero-at, all_stored}
use Rattle.fit_tiles.proofs.put_fit.Goals as goal

pub put_tiles-b-requires : goal.put_tiles-b-requires
put_tiles-b-requires c =
    let a = c.args in (
      c.requires.0,
      c.requires.1,
      c.requires.0.ready.sizes.few,
      zero-at 16,
      omega (arith, c.put_head-a.ensures.place, head_most a.job.now.sizes.t a.job.now.sizes.s, c.requires.0.ready.sizes.tiles, c.put_head-a.auto.out),
    )

pub put_loads-c-requires : goal.put_loads-c-requires
put_loads-c-requires c =
    let a = c.args in (
      omega (arith, c.put_tiles-b.auto.loads, c.requires.0.ready.sizes.few),
      c.requires.0.ready.sizes.few,
      omega (
        arith,
        c.put_head-a.ensures.place,
        head_most a.job.now.sizes.t a.job.now.sizes.s,
        c.put_tiles-b.ensures.0.place,
        tile_lines-most (job_in a.job.now) a.palette.now a.job.now.sizes.t,
        c.requires.0.ready.sizes.tiles,
        c.requires.0.ready.sizes.few,
        c.put_head-a.auto.out,
        c.put_tiles-b.auto.out,
      ),
    )

pub count_blanks-requires : goal.count_blanks-requires
count_blanks-requires c = (omega (arith, c.requires.0.ready.table), c.requires.0.ready.sizes.tiles)

pub put_blank-requires : goal.put_blank-requires
put_blank-requires c =
    let a = c.args in
    omega (
      arith,
      c.put_head-a.ensures.place,
      head_most a.job.now.sizes.t a.job.now.sizes.s,
      c.put_tiles-b.ensures.0.place,
      tile_lines-most (job_in a.job.now) a.palette.now a.job.now.sizes.t,
      c.put_loads-c.ensures.place,
      loads-most (λ k. get_or c.put_tiles-b.new.loads k 0) a.job.now.sizes.s,
      c.requires.0.ready.sizes.tiles,
      c.requires.0.ready.sizes.few,
      c.put_head-a.auto.out,
      c.put_tiles-b.auto.out,
      c.put_loads-c.auto.out,
    )

pub returns : goal.returns
returns c =
    let a = c.args in
    let J : Job = job_in a.job.now in
    all_stored J a.palette.now c.put_tiles-b.new.loads c.count_blanks.result _ _ _ _ _
    c.put_head-a.result c.put_tiles-b.result c.put_loads-c.result c.put_blank.result
    c.put_head-a.ensures c.put_tiles-b.ensures.0 c.put_loads-c.ensures c.put_blank.ensures
    c.put_tiles-b.ensures.1 c.count_blanks.ensures

-- `tile_found` meets its contract: an empty tile answers by itself, any other by its best two. Assumes nothing.
use mathlib.Core.Path.{ap}
use native.Mathlib.Omega.{arith}
use Rattle.job.specs.Job.{job_in}
use Rattle.stats.specs.declared.Two.{Two}
use Rattle.palette_tile.proofs.Present.{pair-below, next-below}
use Rattle.fit_tiles.proofs.Tiles.{empty_found, full-found, dist-real}
use Rattle.fit_tiles.proofs.tile_found.Goals as goal

pub returns-then-is_empty : goal.returns-then-is_empty
returns-then-is_empty c =
    let a = c.args in
    empty_found (job_in a.job.now) a.palette.now a.i c.is_empty.result
    c.is_empty.ensures c.if-is_empty.true

pub tile_two-best-requires : goal.tile_two-best-requires
tile_two-best-requires c = c.requires

pub overflow_cast-sub : goal.overflow_cast-sub
overflow_cast-sub c =
    let a = c.args in
    omega (
      arith,
      ap (λ (b : Two). b.index) c.tile_two-best.ensures.0,
      pair-below (job_in a.job.now)
          a.palette.now a.job.now.sizes.s a.job.now.sizes.c c.requires.shown a.i,
      c.requires.shown.ready.sizes.few,
    )

pub float_to_bits-dist : goal.float_to_bits-dist
float_to_bits-dist c =
    let a = c.args in
    dist-real (job_in a.job.now) a.palette.now c.requires.shown a.i c.requires.tile
    _ c.tile_two-best.ensures.0

pub overflow_cast-next : goal.overflow_cast-next
overflow_cast-next c =
    let a = c.args in
    omega (
      arith,
      ap (λ (b : Two). b.next) c.tile_two-best.ensures.0,
      next-below (job_in a.job.now)
          a.palette.now a.job.now.sizes.s a.job.now.sizes.c c.requires.shown a.i,
      c.requires.shown.ready.sizes.few,
    )

pub returns : goal.returns
returns c =
    let a = c.args in
    full-found (job_in a.job.now) a.palette.now a.i c.is_empty.result
    c.tile_two-best.result c.is_empty.ensures c.if-is_empty.false c.tile_two-best.ensures.0

-- `job_tables::tiles_fit` meets its contract. The invariant: the tiles before i pass, and end at `at`. Assumes nothing.
use mathlib.Core.Bool.{not}
use mathlib.Core.Path.{ap}
use native.Mathlib.Omega.{arith}
use Rattle.job_tables.proofs.TileWalks.{tiled-start, tiled_fails, tiled-room, tiled-more, tiled_end}
use Rattle.job_tables.proofs.tiles_fit.Goals as goal

pub loop-i-init : goal.loop-i-init
loop-i-init c = tiled-start _ _ _

pub returns-then-not-tile_fits : goal.returns-then-not-tile_fits
returns-then-not-tile_fits c =
    tiled_fails _ _ _ _ _ c.loop-i.invariant _ _ _ c.first_of.ensures
    c.size_of-n.ensures c.tile_fits.ensures _ (ap not c.if-not-tile_fits.true) c.loop-i-test.true

pub overflow_add-at : goal.overflow_add-at
overflow_add-at c =
    omega (
      arith,
      tiled-room _ _ _ _ _ c.loop-i.invariant _ _ _ c.first_of.ensures
          c.size_of-n.ensures c.tile_fits.ensures (ap not c.if-not-tile_fits.false),
    )

pub loop-i-preserved : goal.loop-i-preserved
loop-i-preserved c =
    tiled-more _ _ _ _ _ c.loop-i.invariant _ _ _ c.first_of.ensures
    c.size_of-n.ensures c.tile_fits.ensures (ap not c.if-not-tile_fits.false)

pub returns : goal.returns
returns c = tiled_end _ _ _ _ _ _ c.loop-i.invariant c.loop-i.auto.i-end c.loop-i-test.false

-- `quantizer_gather_tile::gather_tile` meets its contract. The loop's invariant: the first k colours are added. Assumes nothing.
use mathlib.Core.Path.{refl}
use native.Mathlib.Omega.{arith}
use Rattle.quantizer.specs.Refining.{tile_gather}
use Rattle.quantizer_gather_tile.proofs.Tiles.{turn-place, turn_adding, turn_more}
use Rattle.quantizer_gather_tile.proofs.gather_tile.Goals as goal

pub loop-k-init : goal.loop-k-init
unfolding tile_gather
loop-k-init c = refl

pub overflow_add-base : goal.overflow_add-base
overflow_add-base c = omega (arith, turn-place _ _ _ _ _ c.requires _ c.loop-k-test.true _ c.loop-k.invariant _ c.colour-q.ensures _ c.nearest-near.ensures)

pub add_at-requires : goal.add_at-requires
add_at-requires c = turn_adding _ _ _ _ _ c.requires _ c.loop-k-test.true _ c.loop-k.invariant _ c.colour-q.ensures _ c.nearest-near.ensures

pub loop-k-preserved : goal.loop-k-preserved
loop-k-preserved c = turn_more _ _ _ _ _ c.requires _ c.loop-k-test.true _ c.loop-k.invariant _ c.colour-q.ensures _ c.nearest-near.ensures _ c.add_at.ensures

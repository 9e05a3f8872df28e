-- `palette_distance::tile_distance` meets its contract. The loops' invariant: the sum is that over the first 4·j colours, then over the first k. Assumes nothing.
use mathlib.Core.Path.{refl, ap, ◌∙◌}
use native.Mathlib.Omega.{arith}
use Rattle.palette.specs.Palette.{total_of}
use Rattle.palette_distance.proofs.Walks.{total-step, quartet_step}
use Rattle.palette_distance.proofs.tile_distance.Goals as goal

pub loop-j-init : goal.loop-j-init
unfolding total_of
loop-j-init c = refl

pub quartet_at-requires : goal.quartet_at-requires
quartet_at-requires c = (c.requires.tile, omega arith)

pub loop-j-preserved : goal.loop-j-preserved
loop-j-preserved c = quartet_step _ _ _ _ _ (omega arith) _ c.quartet_at.ensures _ _ c.loop-j.invariant c.add_quartet-sum.ensures

pub loop-k-init : goal.loop-k-init
loop-k-init c = c.loop-j.invariant ∙ ap (total_of _ _ _) (omega arith)

pub term-sum-requires : goal.term-sum-requires
term-sum-requires c = (c.requires, omega arith)

pub loop-k-preserved : goal.loop-k-preserved
loop-k-preserved c = total-step _ _ _ _ _ _ c.loop-k.invariant c.term-sum.ensures

pub returns : goal.returns
returns c = c.loop-k.invariant ∙ ap (total_of _ _ _) (omega arith)

-- `quantizer_grow::grow_palette` meets its contract. The loop's invariant: each of the first i subpalettes got its colour. Assumes nothing.
use Rattle.quantizer_grow.proofs.Splits.{splitting_start, splitting_split, splitting_more, splitting_end}
use Rattle.quantizer_grow.proofs.grow_palette.Goals as goal

pub loop-i-init : goal.loop-i-init
loop-i-init c = splitting_start _ _ _ _ c.requires

pub split_color-requires : goal.split_color-requires
split_color-requires c = splitting_split _ _ _ _ c.requires _ _ c.loop-i.invariant _ c.color_distances.ensures.0 c.loop-i-test.true

pub loop-i-preserved : goal.loop-i-preserved
loop-i-preserved c = splitting_more _ _ _ _ c.requires _ _ c.loop-i.invariant _ c.color_distances.ensures.0 c.loop-i-test.true _ c.split_color.ensures

pub returns : goal.returns
returns c = (splitting_end _ _ _ _ c.requires _ _ c.loop-i.invariant c.loop-i-test.false, c.color_distances.ensures.1)

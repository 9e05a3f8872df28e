-- `quantizer_worst::worst` meets its contract. The loop's invariant: the sums and the hints are those after the first i tiles.
-- The greatest of the sums present is chosen. Assumes nothing.
use mathlib.Core.Path.{refl, sym}
use Rattle.palette_tile.proofs.Walks.{walked_start, walked_more, walked_end}
use Rattle.palette_tile.proofs.Hints.{walked_hints, walked_paired}
use Rattle.quantizer_worst.proofs.Turns.{walked_sums, sums-room, sums_asked, worst_done}
use Rattle.quantizer_worst.proofs.worst.Goals as goal

pub loop-i-init : goal.loop-i-init
loop-i-init c = (walked_start refl, walked_start refl)

pub slice_bounds-distance_step-end : goal.slice_bounds-distance_step-end
slice_bounds-distance_step-end c = sym (walked_sums _ _ _ c.loop-i.invariant.0)

pub distance_step-requires : goal.distance_step-requires
distance_step-requires c = record { paired = walked_paired _ _ _ _ c.loop-i.invariant.1 c.requires.0 c.requires.1 c.loop-i-test.true; whole = walked_sums _ _ _ c.loop-i.invariant.0 }

pub loop-i-preserved : goal.loop-i-preserved
loop-i-preserved c = (walked_more c.loop-i.invariant.0 c.loop-i-test.true c.distance_step.ensures.0, walked_more c.loop-i.invariant.1 c.loop-i-test.true c.distance_step.ensures.1)

pub slice_bounds-argmax-end : goal.slice_bounds-argmax-end
slice_bounds-argmax-end c = sums-room _ _ _ c.requires.0 _ (walked_end c.loop-i.invariant.0 c.loop-i-test.false)

pub argmax-requires : goal.argmax-requires
argmax-requires c = sums_asked _ _ _ c.requires.0 _ (walked_end c.loop-i.invariant.0 c.loop-i-test.false)

pub shape_of-hints : goal.shape_of-hints
shape_of-hints c = walked_hints _ _ _ _ c.loop-i.invariant.1

pub returns : goal.returns
returns c = (worst_done _ _ _ c.requires.0 _ (walked_end c.loop-i.invariant.0 c.loop-i-test.false) _ c.argmax.ensures, walked_end c.loop-i.invariant.1 c.loop-i-test.false)

-- `quantizer_gather::gather_all` meets its contract. The loop's invariant: the sums, the counts and the hints are those after the first i tiles.
-- Assumes nothing.
use mathlib.Core.Path.{refl}
use Rattle.palette_tile.proofs.Walks.{walked_start, walked_more}
use Rattle.palette_tile.proofs.Hints.{walked_paired}
use Rattle.quantizer_gather.proofs.Turns.{walked_gathered}
use Rattle.quantizer_gather.proofs.gather_all.Goals as goal

pub loop-i-init : goal.loop-i-init
loop-i-init c = (walked_start c.requires.1.1, walked_start refl)

pub gather_step-requires : goal.gather_step-requires
gather_step-requires c = record { paired = walked_paired _ _ _ _ c.loop-i.invariant.1 c.requires.0 c.requires.1.0 c.loop-i-test.true; gathered = walked_gathered _ _ c.requires.0 c.loop-i.invariant.0 }

pub loop-i-preserved : goal.loop-i-preserved
loop-i-preserved c = (walked_more c.loop-i.invariant.0 c.loop-i-test.true c.gather_step.ensures.0, walked_more c.loop-i.invariant.1 c.loop-i-test.true c.gather_step.ensures.1)

-- `quantizer_worst::distance_step` meets its contract: an empty tile is left, another's distance is added to its winner's sum. Assumes nothing.
use native.Mathlib.Omega.{arith}
use Rattle.quantizer_worst.proofs.Turns.{turn-none, turn_below, turn-done}
use Rattle.quantizer_worst.proofs.distance_step.Goals as goal

pub returns-then-is_empty : goal.returns-then-is_empty
returns-then-is_empty c = turn-none _ _ _ _ _ _ c.requires _ c.is_empty.ensures c.if-is_empty.true

pub offset_bounds-distances-winner : goal.offset_bounds-distances-winner
offset_bounds-distances-winner c = omega (arith, turn_below _ _ _ _ _ _ c.requires _ c.tile_fit-best.ensures.0)

pub bounds-distances-winner : goal.bounds-distances-winner
bounds-distances-winner c = omega (arith, turn_below _ _ _ _ _ _ c.requires _ c.tile_fit-best.ensures.0)

pub bounds-distances-winner-2 : goal.bounds-distances-winner-2
bounds-distances-winner-2 c = omega (arith, turn_below _ _ _ _ _ _ c.requires _ c.tile_fit-best.ensures.0)

pub returns : goal.returns
returns c = turn-done _ _ _ _ _ _ c.requires _ c.tile_fit-best.ensures.0 _ c.is_empty.ensures c.if-is_empty.false _ c.tile_fit-best.ensures.1

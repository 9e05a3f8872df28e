-- `assign_tiles::assign_tile` meets its contract: an empty tile gets 0 and keeps its hint, another its winner in both places. Assumes nothing.
use native.Mathlib.Omega.{arith}
use Rattle.assign_tiles.proofs.Fills.{turn-none, turn-fits, turn-some}
use Rattle.assign_tiles.proofs.assign_tile.Goals as goal

pub returns-then-is_empty : goal.returns-then-is_empty
returns-then-is_empty c = turn-none _ _ _ _ _ c.requires _ c.is_empty.ensures c.if-is_empty.true

pub overflow_cast-sub : goal.overflow_cast-sub
overflow_cast-sub c = omega (arith, turn-fits _ _ _ _ _ c.requires _ c.tile_fit-best.ensures.0)

pub returns : goal.returns
returns c = turn-some _ _ _ _ _ c.requires _ c.tile_fit-best.ensures.0 _ c.is_empty.ensures c.if-is_empty.false _ c.tile_fit-best.ensures.1

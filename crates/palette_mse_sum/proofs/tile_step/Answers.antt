-- `palette_mse_sum::tile_step` meets its contract: an empty tile is left, another is matched and summed. Assumes nothing.
use mathlib.Core.Path.{ap}
use Rattle.palette.specs.Palette.{Tile}
use Rattle.palette_tile.proofs.Turns.{fit-part}
use Rattle.palette_mse.proofs.Turns.{turn-none, turn_summed, turn-done}
use Rattle.palette_mse_sum.proofs.tile_step.Goals as goal

pub returns-then-is_empty : goal.returns-then-is_empty
returns-then-is_empty c = turn-none _ _ _ _ _ _ _ c.requires _ c.is_empty.ensures c.if-is_empty.true

pub part-sub-requires : goal.part-sub-requires
part-sub-requires c = fit-part _ _ _ _ _ _ c.tile_fit-best.ensures.0 c.requires.paired.shown

pub tile_tally-requires : goal.tile_tally-requires
tile_tally-requires c = turn_summed _ _ _ _ _ _ _ c.requires _ c.tile_fit-best.ensures.0 _ _ _ c.part-sub.ensures (ap (λ (x : Tile). x.colours) c.tile.ensures) (ap (λ (x : Tile). x.counts) c.tile.ensures)

pub returns : goal.returns
returns c =
    turn-done _ _ _ _ _ _ _ c.requires _ c.tile_fit-best.ensures.0 _ _ _ c.part-sub.ensures (ap (λ (x : Tile). x.colours) c.tile.ensures)
    (ap (λ (x : Tile). x.counts) c.tile.ensures) _ c.is_empty.ensures c.if-is_empty.false _ _ c.tile_tally.ensures
    c.tile_fit-best.ensures.1

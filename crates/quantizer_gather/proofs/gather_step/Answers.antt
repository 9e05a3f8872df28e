-- `quantizer_gather::gather_step` meets its contract: an empty tile is left, another is matched and its colours added. Assumes nothing.
use native.Mathlib.Omega.{arith}
use mathlib.Core.Path.{ap}
use Rattle.palette.specs.Palette.{Tile}
use Rattle.palette_tile.proofs.Turns.{fit-part}
use Rattle.quantizer.proofs.Indexes.{fit_row}
use Rattle.quantizer_gather.proofs.Turns.{turn-none, turn_gathering, turn-done}
use Rattle.quantizer_gather.proofs.gather_step.Goals as goal

pub returns-then-is_empty : goal.returns-then-is_empty
returns-then-is_empty c = turn-none _ _ _ _ _ c.requires _ c.is_empty.ensures c.if-is_empty.true

pub part-sub-requires : goal.part-sub-requires
part-sub-requires c = fit-part _ _ _ _ _ _ c.tile_fit-best.ensures.0 c.requires.paired.shown

pub overflow_mul-winner : goal.overflow_mul-winner
overflow_mul-winner c = omega (arith, fit_row _ _ _ _ c.requires.paired.shown _ _ c.tile_fit-best.ensures.0)

pub gather_tile-requires : goal.gather_tile-requires
gather_tile-requires c = turn_gathering _ _ _ _ _ c.requires _ c.tile_fit-best.ensures.0 _ _ _ c.part-sub.ensures (ap (λ (x : Tile). x.colours) c.tile.ensures) (ap (λ (x : Tile). x.counts) c.tile.ensures)

pub returns : goal.returns
returns c =
    turn-done _ _ _ _ _ c.requires _ c.tile_fit-best.ensures.0 _ _ _ c.part-sub.ensures (ap (λ (x : Tile). x.colours) c.tile.ensures) (ap (λ (x : Tile). x.counts) c.tile.ensures) _ c.is_empty.ensures c.if-is_empty.false _ _ c.gather_tile.ensures
    c.tile_fit-best.ensures.1

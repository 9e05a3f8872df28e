-- `quantizer_needs::tile_step` meets its contract: an empty tile is left, another's matches go to its winner's sums. Assumes nothing.
use native.Mathlib.Omega.{arith}
use mathlib.Core.Path.{ap}
use Rattle.palette.specs.Palette.{Tile}
use Rattle.palette_tile.proofs.Turns.{fit-part}
use Rattle.quantizer.proofs.Indexes.{fit_row}
use Rattle.quantizer_needs.proofs.Turns.{turn-none, turn_matched, turn-done}
use Rattle.quantizer_needs.proofs.tile_step.Goals as goal

pub returns-then-is_empty : goal.returns-then-is_empty
returns-then-is_empty c = turn-none _ _ _ _ _ _ c.requires _ c.is_empty.ensures c.if-is_empty.true

pub part-sub-requires : goal.part-sub-requires
part-sub-requires c = fit-part _ _ _ _ _ _ c.tile_fit-best.ensures.0 c.requires.paired.shown

pub overflow_mul-winner : goal.overflow_mul-winner
overflow_mul-winner c = omega (arith, fit_row _ _ _ _ c.requires.paired.shown _ _ c.tile_fit-best.ensures.0)

pub for_each_match-requires : goal.for_each_match-requires
for_each_match-requires c = turn_matched _ _ _ _ _ _ c.requires _ c.tile_fit-best.ensures.0 _ _ _ c.part-sub.ensures (ap (λ (x : Tile). x.colours) c.tile.ensures) (ap (λ (x : Tile). x.counts) c.tile.ensures)

pub returns : goal.returns
returns c =
    turn-done _ _ _ _ _ _ c.requires _ c.tile_fit-best.ensures.0 _ _ _ c.part-sub.ensures (ap (λ (x : Tile). x.colours) c.tile.ensures)
    (ap (λ (x : Tile). x.counts) c.tile.ensures) _ c.is_empty.ensures c.if-is_empty.false _ _ c.for_each_match.ensures
    c.tile_fit-best.ensures.1

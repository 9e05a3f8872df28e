-- `quantizer_color_sums::color_step` meets its contract: the tile's matches go to its subpalette's sums. Assumes nothing.
use mathlib.Core.Path.{ap}
use native.Mathlib.Omega.{arith}
use Rattle.palette.specs.Palette.{Tile}
use Rattle.quantizer_color_sums.proofs.Spreads.{owner-part, owner_matched, owner-done}
use Rattle.quantizer_color_sums.proofs.color_step.Goals as goal

pub part-sub-requires : goal.part-sub-requires
part-sub-requires c = owner-part _ _ _ _ c.requires _ c.nearest_palette_of-owner.ensures

pub for_each_match_two-requires : goal.for_each_match_two-requires
for_each_match_two-requires c =
    let M = owner_matched _ _ _ _ c.requires _ c.nearest_palette_of-owner.ensures _ _ _ c.part-sub.ensures (ap (λ (x : Tile). x.colours) c.tile.ensures) (ap (λ (x : Tile). x.counts) c.tile.ensures) in
    (record { some = M.some; place = omega (arith, M.place); three = M.three; high = M.high }, omega arith)

pub returns : goal.returns
returns c =
    owner-done _ _ _ _ c.requires _ c.nearest_palette_of-owner.ensures _ _ _ c.part-sub.ensures (ap (λ (x : Tile). x.colours) c.tile.ensures)
    (ap (λ (x : Tile). x.counts) c.tile.ensures) _ _ c.for_each_match_two.ensures

-- `quantizer_matches_two::match_four` meets its contract: four matches, each added to what the one before it left. Assumes nothing.
use Prim.Native.Nat.{◌+◌}
use mathlib.Core.Path.{refl}
use native.Mathlib.Omega.{arith}
use Rattle.palette.specs.Palette.{tile_in}
use Rattle.quantizer.specs.Replacing.{shares}
use Rattle.quantizer_matches_two.proofs.Walks.{first_lane, second_lane, third_lane, fourth_lane, match_asks}
use Rattle.quantizer_matches_two.proofs.match_four.Goals as goal

pub add_nearest-requires : goal.add_nearest-requires
add_nearest-requires c =
    let X = tile_in c.args.tile.now in
    match_asks c.args.sub.now X _ c.args.base c.args.k _ (first_lane _ X _ c.args.k _ c.nearest_two_four-four.ensures) _
    c.requires.0 (shares c.args.had.now c.args.lost.now) (record { had = refl; lost = c.requires.1.0 }) _ (omega arith)

pub add_nearest-requires-2 : goal.add_nearest-requires-2
add_nearest-requires-2 c =
    let X = tile_in c.args.tile.now in
    match_asks c.args.sub.now X _ c.args.base (c.args.k + 1) _ (second_lane _ X _ c.args.k _ c.nearest_two_four-four.ensures) _
    c.requires.0 (shares c.add_nearest.new.had c.add_nearest.new.lost) (record { had = omega arith; lost = omega arith }) _ (omega arith)

pub add_nearest-requires-3 : goal.add_nearest-requires-3
add_nearest-requires-3 c =
    let X = tile_in c.args.tile.now in
    match_asks c.args.sub.now X _ c.args.base (c.args.k + 2) _ (third_lane _ X _ c.args.k _ c.nearest_two_four-four.ensures) _
    c.requires.0 (shares c.add_nearest-2.new.had c.add_nearest-2.new.lost) (record { had = omega arith; lost = omega arith }) _ (omega arith)

pub add_nearest-requires-4 : goal.add_nearest-requires-4
add_nearest-requires-4 c =
    let X = tile_in c.args.tile.now in
    match_asks c.args.sub.now X _ c.args.base (c.args.k + 3) _ (fourth_lane _ X _ c.args.k _ c.nearest_two_four-four.ensures) _
    c.requires.0 (shares c.add_nearest-3.new.had c.add_nearest-3.new.lost) (record { had = omega arith; lost = omega arith }) _ (omega arith)

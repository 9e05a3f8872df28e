-- `palette_two_fit::best_two_from` meets its contract. The loop's invariant: b is where the walk from the hint stands before i. Assumes nothing.
use borrow.Author.Rules.{rules}
use mathlib.Core.Path.{refl}
use native.Mathlib.Omega.{arith}
use lib.Ieee.{of_bits}
use Rattle.palette.proofs.Parts.{part_asks, sub_measured}
use Rattle.palette_two_fit.proofs.Turns.{turn-start, turn_skips, turn_walks, turn-over, turn-weighs, turn_end}
use Rattle.palette_two_fit.proofs.best_two_from.Goals as goal

pub part-requires : goal.part-requires
part-requires c = part_asks _ c.requires.0.palette c.args.hint c.requires.1

pub tile_distance-first-requires : goal.tile_distance-first-requires
tile_distance-first-requires c = sub_measured _ c.requires.0.palette c.args.hint c.requires.1 _ _ c.requires.0.tile c.requires.0.weight _ c.part.ensures

pub loop-i-init : goal.loop-i-init
unfolding of_bits
loop-i-init c = turn-start _ _ _ c.requires.0 _ c.requires.1 (search rules) _ c.part.ensures _ _ c.tile_distance-first.ensures refl

pub loop-i-preserved-then-i-hint : goal.loop-i-preserved-then-i-hint
loop-i-preserved-then-i-hint c = turn_skips _ _ _ c.requires.0 _ c.requires.1 (search rules) _ _ c.loop-i.invariant c.if-i-hint.true

pub part-sub-requires : goal.part-sub-requires
part-sub-requires c = part_asks _ c.requires.0.palette c.loop-i.i (omega arith)

pub distance_within-requires : goal.distance_within-requires
distance_within-requires c = turn_walks _ _ _ c.requires.0 _ c.requires.1 (search rules) c.loop-i.i _ c.loop-i.invariant (omega arith) _ c.part-sub.ensures

pub loop-i-preserved-in_default : goal.loop-i-preserved-in_default
loop-i-preserved-in_default c =
    turn-over _ _ _ c.requires.0 _ c.requires.1 (search rules) c.loop-i.i _ c.loop-i.invariant (omega arith) _
    c.part-sub.ensures c.in_default.ensures

pub loop-i-preserved : goal.loop-i-preserved
loop-i-preserved c =
    turn-weighs _ _ _ c.requires.0 _ c.requires.1 (search rules)
    c.loop-i.i _ c.loop-i.invariant (omega (arith, c.loop-i-test)) _
    c.part-sub.ensures c.if-i-hint.false _ _
    c.in-Some.ensures c.weigh-b.ensures

pub returns : goal.returns
returns c = turn_end _ _ _ c.requires.0 _ c.requires.1 (search rules) c.loop-i.i _ (omega arith) (omega arith) c.loop-i.invariant

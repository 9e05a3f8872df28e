-- `palette_distance::distance_within` meets its contract. The loops' invariant: the sum is that over the first 4·j colours, then over the first k,
-- and it is not over the limit. Assumes nothing.
use Prim.Native.Nat.{◌+◌, ◌*◌}
use mathlib.Core.Path.{refl, ap, ◌∙◌}
use native.Mathlib.Omega.{arith}
use Rattle.ieee.proofs.Order.{of_true}
use Rattle.palette.specs.Palette.{total_of}
use Rattle.palette_distance.proofs.Walks.{total-step, quartet_step, none_over, over_already, not-over}
use Rattle.palette_distance.proofs.distance_within.Goals as goal

pub loop-j-init : goal.loop-j-init
unfolding total_of
loop-j-init c = (refl, none_over _ c.requires.clear)

pub quartet_at-requires : goal.quartet_at-requires
quartet_at-requires c = (c.requires.tile, omega arith)

pub returns-then-sum-limit : goal.returns-then-sum-limit
returns-then-sum-limit c =
    let v = c.loop-j in
    over_already _ _ _ _ c.requires (of_true c.well_formed.1.1.1.0.1) (4 * (v.j + 1)) (omega arith) _
    (quartet_step _ _ _ _ _ (omega arith) _ c.quartet_at.ensures _ _ v.invariant.0 c.add_quartet-sum.ensures) c.if-sum-limit.true

pub loop-j-preserved : goal.loop-j-preserved
loop-j-preserved c =
    let v = c.loop-j in
    (quartet_step _ _ _ _ _ (omega arith) _ c.quartet_at.ensures _ _ v.invariant.0 c.add_quartet-sum.ensures, c.if-sum-limit.false)

pub loop-k-init : goal.loop-k-init
loop-k-init c = (c.loop-j.invariant.0 ∙ ap (total_of _ _ _) (omega arith), c.loop-j.invariant.1)

pub term-sum-requires : goal.term-sum-requires
term-sum-requires c = let pre = c.requires in (record { sub = pre.sub; tile = pre.tile; weight = pre.weight }, omega arith)

pub returns-then-sum-limit-2 : goal.returns-then-sum-limit-2
returns-then-sum-limit-2 c =
    let v = c.loop-k in
    over_already _ _ _ _ c.requires (of_true c.well_formed.1.1.1.0.1) (v.k + 1) (omega arith) _
    (total-step _ _ _ _ _ _ v.invariant.0 c.term-sum.ensures) c.if-sum-limit-2.true

pub loop-k-preserved : goal.loop-k-preserved
loop-k-preserved c =
    let v = c.loop-k in
    (total-step _ _ _ _ _ _ v.invariant.0 c.term-sum.ensures, c.if-sum-limit-2.false)

pub returns : goal.returns
returns c = not-over _ _ _ _ _ (c.loop-k.invariant.0 ∙ ap (total_of _ _ _) (omega arith)) c.loop-k.invariant.1

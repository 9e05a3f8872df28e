-- `palette_fit::best_from` meets its contract. The outer invariant: `best` leads among the hint and the subpalettes before i.
-- The inner ones: the sum is that over the first 4·j colours, then over the first k, and it has not lost yet; the four ahead are the
-- tile's, where it has four more. Assumes nothing.
use borrow.Author.Rules.{rules}
use Prim.Native.Nat.{ℕ, ◌+◌, ◌*◌, ◌<◌}
use mathlib.Core.Path.{◌≡◌, refl, sym, ap, ◌∙◌}
use native.Mathlib.Omega.{arith}
use Rattle.stats.proofs.Leading.{lead_skips}
use Rattle.palette.specs.Palette.{Tile, total_of, tile_in}
use Rattle.palette.proofs.Parts.{part_asks, sub_measured}
use Rattle.palette_distance.specs.declared.Quartet.{Quartet}
use Rattle.palette_distance.specs.Distance.{quartet_of}
use Rattle.palette_distance.proofs.Walks.{total-step, four_won, four-lost}
use Rattle.palette_fit.proofs.Turns.{turn-start, turn-left, turn-reached, turn_end}
use Rattle.palette_fit.proofs.best_from.Goals as goal

none-added : 0 < 0 → ⊥
none-added h = omega arith

next-four : (X : Tile) (j : ℕ) (four : Quartet) → four ≡ quartet_of X (4 * j + 4) → four ≡ quartet_of X (4 * (j + 1))
next-four X j four h = let e : 4 * j + 4 ≡ 4 * (j + 1) = omega arith in h ∙ ap (quartet_of X) e

-- ---- before the turns
pub part-hinted-requires : goal.part-hinted-requires
part-hinted-requires c = part_asks _ c.requires.0.palette c.args.hint c.requires.1.1

pub tile_distance-least-requires : goal.tile_distance-least-requires
tile_distance-least-requires c = sub_measured _ c.requires.0.palette c.args.hint c.requires.1.1 _ _ c.requires.0.tile c.requires.0.weight _ c.part-hinted.ensures

pub quartet_ahead-head-requires : goal.quartet_ahead-head-requires
quartet_ahead-head-requires c = c.requires.0.tile

pub subs-init : goal.subs-init
subs-init c = turn-start _ _ _ c.requires.0 _ c.requires.1.1 _ c.part-hinted.ensures _ c.tile_distance-least.ensures

pub subs-preserved-then-i-hint : goal.subs-preserved-then-i-hint
subs-preserved-then-i-hint c = lead_skips _ _ _ _ _ c.subs.invariant c.if-i-hint.true

-- ---- four colours at a time
pub part-sub-requires : goal.part-sub-requires
part-sub-requires c = part_asks _ c.requires.0.palette c.subs.i (omega arith)

pub loop-j-init : goal.loop-j-init
unfolding total_of
loop-j-init c = record { total = refl; unlost = λ h. absurd (none-added h); next = c.quartet_ahead-head.ensures }

pub subs-preserved-in_default : goal.subs-preserved-in_default
subs-preserved-in_default c =
    let o = c.subs in
    let j = c.loop-j.j in
    let v = c.loop-j.invariant in
    let r = four-lost _ _ _ (4 * j) (4 * (j + 1)) (omega arith) _ (v.next (omega arith)) _ v.total _ _ c.in_default.ensures _
    (λ m l t. turn-left _ _ _ c.requires.0 _ (search rules) _ o.i o.invariant (omega arith) _ c.part-sub.ensures o.i refl m (omega arith) _ refl t) in
    r.1

pub quartet_ahead-ahead-requires : goal.quartet_ahead-ahead-requires
quartet_ahead-ahead-requires c = c.requires.0.tile

pub loop-j-preserved : goal.loop-j-preserved
loop-j-preserved c =
    let a = c.args in
    let j = c.loop-j.j in
    let v = c.loop-j.invariant in
    let r = four_won _ _ _ (4 * j) (4 * (j + 1)) (omega arith) _ (v.next (omega arith)) _ v.total _ _ _ c.in-Some.ensures in
    record {
      total = r.0;
      unlost = λ h. r.1;
      next = λ h. next-four (tile_in a.tile.now) j _ (c.quartet_ahead-ahead.ensures (omega arith));
    }

-- ---- colour by colour
pub loop-k-init : goal.loop-k-init
loop-k-init c =
    let v = c.loop-j.invariant in
    record { total = v.total ∙ ap (total_of _ _ _) (omega arith); unlost = λ h. v.unlost (omega arith) }

pub term-sum-requires : goal.term-sum-requires
term-sum-requires c =
    (sub_measured _ c.requires.0.palette c.subs.i (omega arith) _ _ c.requires.0.tile c.requires.0.weight _ c.part-sub.ensures, omega arith)

pub subs-preserved-then-loses : goal.subs-preserved-then-loses
subs-preserved-then-loses c =
    let o = c.subs in
    let v = c.loop-k in
    let sum = total-step _ _ _ _ _ _ v.invariant.total c.term-sum.ensures in
    let r = turn-left _ _ _ c.requires.0 _ (search rules) _ o.i o.invariant (omega arith) _ c.part-sub.ensures o.i refl
    (v.k + 1) (omega arith) _ sum (sym c.loses.ensures ∙ c.if-loses.true) in
    r.1

pub loop-k-preserved : goal.loop-k-preserved
loop-k-preserved c =
    record { total = total-step _ _ _ _ _ _ c.loop-k.invariant.total c.term-sum.ensures; unlost = λ h. sym c.loses.ensures ∙ c.if-loses.false }

-- ---- the walk came to the end
pub subs-preserved : goal.subs-preserved
subs-preserved c =
    let o = c.subs in
    let v = c.loop-k.invariant in
    let r = turn-reached _ _ _ c.requires.0 _ (search rules) _ o.i o.invariant (omega arith) _ c.part-sub.ensures o.i refl _
    (v.total ∙ ap (total_of _ _ _) (omega arith)) (v.unlost (omega arith)) in
    r.1

pub returns : goal.returns
returns c =
    let o = c.subs in
    turn_end _ _ _ c.requires.0 _ (search rules) o.i _ (omega arith) (omega arith) o.invariant

-- `stats_extremes::extreme` meets its contract. The loop's invariant: best is the chosen of the first i. Assumes nothing.
use mathlib.Core.Path.{◌≡◌, refl, ap, ◌∙◌}
use mathlib.Core.Bool.{true, false}
use native.Mathlib.Omega.{arith}
use lib.ListN.{length}
use Rattle.std.specs.Ordering.{is_le}
use Rattle.stats.specs.Stats.{value_at}
use Rattle.stats_extremes.proofs.Choices.{chosen, none}
use Rattle.stats_extremes.proofs.Turns.{turn}
use Rattle.stats_extremes.proofs.extreme.Goals as goal
use Rattle.stats_extremes.proofs.extreme.Goals.{then-rises-greatest, else-rises-greatest}

pub loop-i-init : goal.loop-i-init
loop-i-init c = (omega arith, none _ _)

pub total_cmp-requires-clause-self_not_nan : goal.total_cmp-requires-clause-self_not_nan
total_cmp-requires-clause-self_not_nan c = c.requires c.loop-i.best (omega arith)

pub total_cmp-requires-clause-other_not_nan : goal.total_cmp-requires-clause-other_not_nan
total_cmp-requires-clause-other_not_nan c = c.requires c.loop-i.i (omega arith)

pub loop-i-preserved : goal.loop-i-preserved
loop-i-preserved c =
    let fit = c.type_inv.values in
    let step = turn _ _ fit _ c.requires _ _ (omega arith) (omega arith) _ (c.is_le-rises.ensures ∙ ap is_le c.total_cmp.ensures) c.loop-i.invariant.1 in
    elim c.if-rises-greatest.branch [
      | then-rises-greatest w ↦ (omega (arith, w.best-is), w.best-is ∙ step true w.if-rises-greatest.true)
      | else-rises-greatest w ↦ (omega (arith, w.best-is), w.best-is ∙ step false w.if-rises-greatest.false)
    ]

pub returns : goal.returns
returns c =
    let a = c.args in
    let all : c.loop-i.i ≡ length a.values.now = omega arith in
    c.loop-i.invariant.1 ∙ ap (chosen a.greatest (value_at a.values.now)) all ∙ (unfold chosen in refl)

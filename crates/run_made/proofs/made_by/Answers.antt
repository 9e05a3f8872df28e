-- `run_made::made_by` meets its contract: a place that fits has few rounds and draws, so that no sum wraps. Assumes nothing.
use mathlib.Core.Bool.{not}
use mathlib.Core.Path.{ap}
use borrow.Author.Tests.{not-true, not-false}
use Rattle.run_made.proofs.Made.{made_quiet, made_drawing, few-rounds, early, left_in, rest-small, turns_fit, sum_fits, all-fits}
use Rattle.run_made.proofs.made_by.Goals as goal

pub returns-then-not-makes_draws : goal.returns-then-not-makes_draws
returns-then-not-makes_draws c = made_quiet _ _ _ _ _ c.makes_draws.ensures (not-true _ (ap not c.if-not-makes_draws.true)) _ c.stage_of-line.ensures

pub overflow_mul-result : goal.overflow_mul-result
overflow_mul-result c =
    let z = c.requires in
    let yes = not-false _ (ap not c.if-not-makes_draws.false) in
    let few = few-rounds _ z.0 _ _ _ z.1 _ c.makes_draws.ensures yes _ c.stage_of-line.ensures in
    turns_fit _ z.0 _ c.base_iterations-b.ensures _ few

pub overflow_add-result : goal.overflow_add-result
overflow_add-result c =
    let z = c.requires in
    let yes = not-false _ (ap not c.if-not-makes_draws.false) in
    let few = few-rounds _ z.0 _ _ _ z.1 _ c.makes_draws.ensures yes _ c.stage_of-line.ensures in
    let before = early _ z.0 _ _ _ z.1 _ c.makes_draws.ensures yes _ c.stage_of-line.ensures in
    sum_fits _ z.0 _ c.base_iterations-b.ensures _ few _ before

pub overflow_sub-result : goal.overflow_sub-result
overflow_sub-result c =
    let z = c.requires in
    let yes = not-false _ (ap not c.if-not-makes_draws.false) in
    left_in _ z.0 _ _ _ z.1 _ c.makes_draws.ensures yes _ c.stage_of-line.ensures

pub overflow_add-result-2 : goal.overflow_add-result-2
overflow_add-result-2 c =
    let z = c.requires in
    let yes = not-false _ (ap not c.if-not-makes_draws.false) in
    let few = few-rounds _ z.0 _ _ _ z.1 _ c.makes_draws.ensures yes _ c.stage_of-line.ensures in
    let before = early _ z.0 _ _ _ z.1 _ c.makes_draws.ensures yes _ c.stage_of-line.ensures in
    let rest = rest-small _ z.0 _ _ _ z.1 _ c.makes_draws.ensures yes _ c.stage_of-line.ensures in
    all-fits _ z.0 _ c.base_iterations-b.ensures _ few _ before _ rest

pub returns : goal.returns
returns c = made_drawing _ _ _ _ _ c.makes_draws.ensures (not-false _ (ap not c.if-not-makes_draws.false)) _ c.stage_of-line.ensures _ c.base_iterations-b.ensures

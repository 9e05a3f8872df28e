-- `run_hand_in::after_stop` meets its contract, stop by stop. Assumes nothing.
use mathlib.Core.Path.{◌≡◌}
use mathlib.Core.Logic.{◌≢◌}
use native.Mathlib.Omega.{arith}
use Rattle.run_hand_in.proofs.Laws.{final, refined_on, last_on}
use Rattle.run_hand_in.proofs.after_stop.Goals as goal

pub returns-in-Ok-Reducing : goal.returns-in-Ok-Reducing
returns-in-Ok-Reducing c =
    let three : c.args.r.stage ≡ 3 = grind arith in
    final _ _ _ _ _ c.args.r c.requires three _ c.final_draws.ensures

pub returns-in-Ok-Refining : goal.returns-in-Ok-Refining
returns-in-Ok-Refining c =
    let five : c.args.r.stage ≡ 5 = grind arith in
    let other : c.args.r.stage ≢ 3 = omega arith in
    refined_on _ _ _ _ _ c.args.r c.requires other five _ _ c.refine_four.ensures _ c.placed.ensures

pub returns-in_default : goal.returns-in_default
returns-in_default c =
    let three : c.args.r.stage ≢ 3 = grind arith in
    let five : c.args.r.stage ≢ 5 = grind arith in
    last_on _ _ _ _ _ c.args.r c.requires three five _ c.placed-in_default.ensures

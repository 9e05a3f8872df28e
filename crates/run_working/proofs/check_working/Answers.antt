-- `run_working::check_working` meets its contract, return by return. Assumes nothing.
use mathlib.Core.Path.{◌≡◌}
use mathlib.Core.Logic.{◌≢◌}
use native.Mathlib.Omega.{arith}
use Rattle.answer.proofs.Passing.{none}
use Rattle.job.proofs.Colours.{bad_answers, good_passes}
use Rattle.run_working.proofs.Works.{not-looked_at, looked_at_lem}
use Rattle.run_working.proofs.check_working.Goals as goal

pub returns-in-Some : goal.returns-in-Some
returns-in-Some c = bad_answers _ _ _ _ _ _ c.in-Some.ensures

pub returns-then-not-matches : goal.returns-then-not-matches
returns-then-not-matches c =
    let other : c.args.stage ≢ 2 = grind arith in
    good_passes _ _ _ _ _ _ c.in_default.ensures (not-looked_at _ _ _ other)

pub returns-in-Some-bad_colour : goal.returns-in-Some-bad_colour
returns-in-Some-bad_colour c =
    let two : c.args.stage ≡ 2 = grind arith in
    good_passes _ _ _ _ _ _ c.in_default.ensures (looked_at_lem _ _ _ two _ (bad_answers _ _ _ _ _ _ c.in-Some-bad_colour.ensures))

pub returns : goal.returns
returns c =
    let two : c.args.stage ≡ 2 = grind arith in
    good_passes _ _ _ _ _ _ c.in_default.ensures (looked_at_lem _ _ _ two _ (good_passes _ _ _ _ _ _ c.in_default-bad_colour.ensures none))

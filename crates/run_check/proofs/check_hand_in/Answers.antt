-- `run_check::check_hand_in` meets its contract, return by return. Assumes nothing.
use mathlib.Core.Bool.{not}
use mathlib.Core.Path.{refl, ap, ◌∙◌}
use Rattle.run_stages.specs.State.{stops}
use Rattle.run_stages.specs.declared.Record.{Record}
use Rattle.run_stages.specs.Calls.{state_of, memory_room, colours_room, hand_in_answer}
use Rattle.answer.proofs.Refusals.{never_done, passed_on}
use Rattle.answer.proofs.Passing.{refuses, passes, none}
use Rattle.job.proofs.Colours.{bad_answers, good_passes}
use Rattle.run_check.proofs.Answers.{run-stops, run_goes}
use Rattle.run_check.proofs.check_hand_in.Goals as goal

pub check_run-requires : goal.check_run-requires
check_run-requires c = c.wider_room-room.ensures.recorded

pub returns-in_err-r : goal.returns-in_err-r
unfolding hand_in_answer memory_room colours_room
returns-in_err-r c =
    rw (passed_on _ _ c.from_residual.ensures) (run-stops _ _ _ _ _ _ c.in_err-r.ensures.answered _ c.wider_room-room.ensures.same _ (never_done _))

pub returns-then-not-is_stop : goal.returns-then-not-is_stop
unfolding hand_in_answer memory_room colours_room state_of
returns-then-not-is_stop c =
    run_goes _ _ _ _ _ _ c.in_ok-r.ensures.answered _ c.wider_room-room.ensures.same _ refl _
    (refuses _ _ _ (c.is_stop.ensures ∙ ap (λ (x : Record). stops x.stage) c.in_ok-r.ensures.read) (ap not c.if-not-is_stop.true))

pub returns-in-Some : goal.returns-in-Some
unfolding hand_in_answer memory_room colours_room state_of
returns-in-Some c =
    run_goes _ _ _ _ _ _ c.in_ok-r.ensures.answered _ c.wider_room-room.ensures.same _ refl _
    (passes _ _ _ _ (c.is_stop.ensures ∙ ap (λ (x : Record). stops x.stage) c.in_ok-r.ensures.read) (ap not c.if-not-is_stop.false) (bad_answers _ _ _ _ _ _ c.in-Some.ensures))

pub returns : goal.returns
unfolding hand_in_answer memory_room colours_room state_of
returns c =
    run_goes _ _ _ _ _ _ c.in_ok-r.ensures.answered _ c.wider_room-room.ensures.same _ refl _
    (passes _ _ _ _ (c.is_stop.ensures ∙ ap (λ (x : Record). stops x.stage) c.in_ok-r.ensures.read) (ap not c.if-not-is_stop.false) (good_passes _ _ _ _ _ _ c.in_default.ensures none))

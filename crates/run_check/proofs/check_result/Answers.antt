-- `run_check::check_result` meets its contract, return by return. Assumes nothing.
use mathlib.Core.Bool.{not}
use mathlib.Core.Path.{refl, ap, ◌∙◌}
use lib.Dec.{eqb}
use Rattle.run_stages.specs.declared.Record.{Record}
use Rattle.run_stages.specs.Calls.{state_of, memory_room, colours_room, result_answer}
use Rattle.answer.proofs.Refusals.{never_done, passed_on}
use Rattle.answer.proofs.Passing.{refuses, passes, none}
use Rattle.run_check.proofs.Answers.{run-stops, run_goes}
use Rattle.run_check.proofs.check_result.Goals as goal

pub check_run-requires : goal.check_run-requires
check_run-requires c = c.wider_room-room.ensures.recorded

pub returns-in_err-r : goal.returns-in_err-r
unfolding result_answer memory_room colours_room
returns-in_err-r c =
    rw (passed_on _ _ c.from_residual.ensures) (run-stops _ _ _ _ _ _ c.in_err-r.ensures.answered _ c.wider_room-room.ensures.same _ (never_done _))

pub returns-then-not-is_finished : goal.returns-then-not-is_finished
unfolding result_answer memory_room colours_room state_of
returns-then-not-is_finished c =
    run_goes _ _ _ _ _ _ c.in_ok-r.ensures.answered _ c.wider_room-room.ensures.same _ refl _
    (refuses _ _ _ (c.is_finished.ensures ∙ ap (λ (x : Record). eqb x.stage 7) c.in_ok-r.ensures.read) (ap not c.if-not-is_finished.true))

pub returns : goal.returns
unfolding result_answer memory_room colours_room state_of
returns c =
    run_goes _ _ _ _ _ _ c.in_ok-r.ensures.answered _ c.wider_room-room.ensures.same _ refl _
    (passes _ _ _ _ (c.is_finished.ensures ∙ ap (λ (x : Record). eqb x.stage 7) c.in_ok-r.ensures.read) (ap not c.if-not-is_finished.false) none)

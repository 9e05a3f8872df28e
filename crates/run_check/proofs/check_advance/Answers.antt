-- `run_check::check_advance` meets its contract, return by return. Assumes nothing.
use mathlib.Core.Bool.{not}
use mathlib.Core.Path.{refl, ap, ◌∙◌}
use Rattle.run_stages.specs.State.{draws}
use Rattle.run_stages.specs.declared.Record.{Record}
use Rattle.run_stages.specs.Calls.{state_of, memory_room, colours_room, advance_answer}
use Rattle.answer.proofs.Refusals.{never_done, passed_on}
use Rattle.answer.proofs.Passing.{refuses, passes, none}
use Rattle.run_check.proofs.Answers.{run-stops, run_goes}
use Rattle.run_check.proofs.check_advance.Goals as goal

pub check_run-requires : goal.check_run-requires
check_run-requires c = c.memory_room-room.ensures.recorded

pub returns-in_err-r : goal.returns-in_err-r
unfolding advance_answer memory_room colours_room
returns-in_err-r c =
    rw (passed_on _ _ c.from_residual.ensures) (run-stops _ _ _ _ _ _ c.in_err-r.ensures.answered _ c.memory_room-room.ensures.same _ (never_done _))

pub returns-then-not-makes_draws : goal.returns-then-not-makes_draws
unfolding advance_answer memory_room colours_room state_of
returns-then-not-makes_draws c =
    run_goes _ _ _ _ _ _ c.in_ok-r.ensures.answered _ c.memory_room-room.ensures.same _ refl _
    (refuses _ _ _ (c.makes_draws.ensures ∙ ap (λ (x : Record). draws x.stage) c.in_ok-r.ensures.read) (ap not c.if-not-makes_draws.true))

pub returns : goal.returns
unfolding advance_answer memory_room colours_room state_of
returns c =
    run_goes _ _ _ _ _ _ c.in_ok-r.ensures.answered _ c.memory_room-room.ensures.same _ refl _
    (passes _ _ _ _ (c.makes_draws.ensures ∙ ap (λ (x : Record). draws x.stage) c.in_ok-r.ensures.read) (ap not c.if-not-makes_draws.false) none)

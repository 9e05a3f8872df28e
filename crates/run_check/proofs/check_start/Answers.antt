-- `run_check::check_start` meets its contract: lengths matter only where the sizes are in their ranges. Assumes nothing.
use Rattle.run_stages.specs.Calls.{memory_room, colours_room, start_answer}
use Rattle.run_check.proofs.Answers.{job-whole}
use Rattle.run_check.proofs.check_start.Goals as goal

pub returns : goal.returns
unfolding start_answer memory_room colours_room
returns c = job-whole _ _ _ _ _ c.check_sampled.ensures _ c.memory_room-room.ensures.same

-- `assign_check::check_assign` meets its contract: the rules of every call without samples, with its own room. Assumes nothing.
use Rattle.assign_check.proofs.Answers.{checked}
use Rattle.assign_check.proofs.check_assign.Goals as goal

pub returns : goal.returns
returns c = checked _ _ _ _ _ _ c.has_room-room.ensures c.check_job.ensures

-- `assign::assign` meets its contract: a refusal writes nothing, and the rest is the walk over the tiles. Assumes nothing.
use mathlib.Core.Path.{refl}
use Rattle.answer.proofs.Refusals.{never_done, passed_on}
use Rattle.assign.proofs.Answers.{stop, can_assign, done}
use Rattle.assign.proofs.assign.Goals as goal

pub returns-in_err-check_assign : goal.returns-in_err-check_assign
returns-in_err-check_assign c = rw (passed_on _ _ c.from_residual.ensures) (stop _ _ _ _ c.in_err-check_assign.ensures (never_done _))

pub assign_tiles-requires : goal.assign_tiles-requires
assign_tiles-requires c = can_assign _ _ _ _ c.in_ok-check_assign.ensures refl

pub returns : goal.returns
returns c = done _ _ _ _ c.in_ok-check_assign.ensures refl _ c.assign_tiles.ensures

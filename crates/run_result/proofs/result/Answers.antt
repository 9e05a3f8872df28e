-- `run_result::result` meets its contract, refused or not. Assumes nothing.
use mathlib.Core.Path.{refl}
use Rattle.answer.proofs.Refusals.{never_done, passed_on}
use Rattle.run_result.proofs.Laws.{refused, same-room, copied}
use Rattle.run_result.proofs.result.Goals as goal

pub returns-in_err-check_result : goal.returns-in_err-check_result
returns-in_err-check_result c = rw (passed_on _ _ c.from_residual.ensures) (refused _ _ _ _ c.in_err-check_result.ensures (never_done _))

pub copy-requires : goal.copy-requires
copy-requires c = same-room _ _ _ _ c.in_ok-check_result.ensures refl

pub returns : goal.returns
returns c = copied _ _ _ _ c.in_ok-check_result.ensures refl _ c.copy.ensures

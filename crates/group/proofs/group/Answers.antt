-- `group::group` meets its contract: a refusal, or the second pass. Assumes nothing.
use mathlib.Core.Path.{refl}
use native.Mathlib.Omega.{arith}
use Rattle.answer.proofs.Refusals.{never_done, passed_on}
use Rattle.group.proofs.Laws.{accepted, stop, done}
use Rattle.group.proofs.group.Goals as goal

pub returns-in_err-checked : goal.returns-in_err-checked
returns-in_err-checked c = rw (passed_on _ _ c.from_residual.ensures) (stop _ _ _ _ c.in_err-checked.ensures (never_done _))

pub fill-requires : goal.fill-requires
fill-requires c = let a = accepted _ _ _ _ c.in_ok-checked.ensures refl in (omega arith, a.1)

pub returns : goal.returns
returns c = done _ _ _ _ _ _ c.in_ok-checked.ensures refl c.fill.ensures

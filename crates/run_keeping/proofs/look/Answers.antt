-- `run_keeping::look` meets its contract: an error is a number, so that it has bits. Assumes nothing.
use native.Mathlib.Omega.{arith}
use Rattle.run_keeping.proofs.Keeps.{error-real, error-low, kept_by, passed_by}
use Rattle.run_keeping.proofs.look.Goals as goal

pub is_kept-requires : goal.is_kept-requires
is_kept-requires c = c.requires.error

pub float_to_bits-e : goal.float_to_bits-e
float_to_bits-e c = error-real _ _ _ _ c.requires.lent.whole.shown _ c.mse-e.ensures.0

pub overflow_cast-e : goal.overflow_cast-e
overflow_cast-e c = omega (arith, error-low _ _ _ _ c.requires.lent.whole.shown _ c.mse-e.ensures.0)

pub returns-then-is_kept : goal.returns-then-is_kept
returns-then-is_kept c = kept_by _ _ _ _ c.args.r _ _ c.mse-e.ensures.0 _ c.mse-e.ensures.1 _ c.is_kept.ensures c.if-is_kept.true _ c.copy.ensures _ c.noted.ensures

pub returns : goal.returns
returns c = passed_by _ _ _ _ c.args.r _ _ c.mse-e.ensures.0 _ c.mse-e.ensures.1 _ c.is_kept.ensures c.if-is_kept.false

-- `size_of` meets its contract: nothing in it wraps. Assumes nothing.
use native.Mathlib.Omega.{arith}
use Rattle.sheet_format.proofs.Editions.{tiles-most}
use Rattle.sheet_format.proofs.size_of.Goals as goal

pub overflow_mul-result-3 : goal.overflow_mul-result-3
overflow_mul-result-3 c = let a = c.args in omega (arith, tiles-most a.e c.requires.0 a.t a.n)

pub overflow_mul-result-4 : goal.overflow_mul-result-4
overflow_mul-result-4 c = let a = c.args in omega (arith, tiles-most a.e c.requires.0 a.t a.n)

pub overflow_add-result-3 : goal.overflow_add-result-3
overflow_add-result-3 c = let a = c.args in omega (arith, tiles-most a.e c.requires.0 a.t a.n)

pub overflow_add-result-4 : goal.overflow_add-result-4
overflow_add-result-4 c = let a = c.args in omega (arith, tiles-most a.e c.requires.0 a.t a.n)

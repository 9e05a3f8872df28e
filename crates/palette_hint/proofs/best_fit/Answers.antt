-- `palette_hint::best_fit` meets its contract: a u32 holds the winner. Assumes nothing.
use native.Mathlib.Omega.{arith}
use Rattle.palette_hint.proofs.Below.{best_below}
use Rattle.palette_hint.proofs.best_fit.Goals as goal

pub overflow_cast-hints-2 : goal.overflow_cast-hints-2
overflow_cast-hints-2 c = omega (arith, best_below _ _ _ _ c.requires.1.1.subs c.best_from-best.ensures, c.requires.1.1.few)

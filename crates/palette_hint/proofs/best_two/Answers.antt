-- `palette_hint::best_two` meets its contract: a u32 holds the winner. Assumes nothing.
use native.Mathlib.Omega.{arith}
use Rattle.palette_hint.proofs.Below.{best_two-below}
use Rattle.palette_hint.proofs.best_two.Goals as goal

pub overflow_cast-hints-2 : goal.overflow_cast-hints-2
overflow_cast-hints-2 c = omega (arith, best_two-below _ _ _ _ c.requires.1.subs c.best_two_from-two.ensures, c.requires.1.few)

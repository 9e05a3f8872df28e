-- The first order, and what zeroing both palettes asks of the lent memory. Definitions only. Assumes nothing.
use Rattle.std.specs.Prelude.{ℕ, ◌*◌, ◌≡◌, List, [], Float, length}
use Rattle.cycle.specs.Cycle.{after}
use Rattle.quantizer.specs.Course.{Course}
use Rattle.quantizer_sample.specs.Samples.{Sampling}
use Rattle.run_stages.specs.State.{State, state_with, begun}

-- the first order of n samples, and a record at the very beginning
unfoldable pub dealt : ℕ → ℕ → ℕ → State
dealt n seed sizes = let c = after n seed 0 in state_with c.cards.order [] [] [] (begun c.cards.state sizes)

-- a course that passed, and both palettes' room
pub record Blanking (K : Course) (p l : List Float) : Type 0 where
  pub sampling : Sampling K
  pub one : length p ≡ 3 * (K.job.S * K.job.C)
  pub two : length l ≡ 3 * (K.job.S * K.job.C)

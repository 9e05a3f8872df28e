-- The first round of a run, and what it asks of the state. Definitions only. Assumes nothing.
use Rattle.std.specs.Prelude.{ℕ, ◌≡◌, Bool, cond, ltb, length}
use Rattle.job.specs.Gives.{Sampled}
use Rattle.quantizer.specs.Course.{Course}
use Rattle.run_stages.specs.State.{State}
use Rattle.run_stages.specs.Stages.{open_seeding, enter_growing, fresh}

-- of seeding, or where there is one subpalette, what follows it
unfoldable pub first_round : Course → State → State
first_round K s = cond (ltb 1 K.job.S) (open_seeding K 0 0 s) (enter_growing K s)

-- a course that passed, in the state that a seed gives
pub record Beginning (K : Course) (s : State) : Type 0 where
  pub room : Bool
  pub passed : Sampled K.job K.n K.samples room
  pub each : length s.hints ≡ K.job.T
  pub seed : ℕ
  pub same : s ≡ fresh K seed s.hints

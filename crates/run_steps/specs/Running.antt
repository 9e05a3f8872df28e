-- What the draws of a run ask of its state. Definitions only. Assumes nothing.
use Rattle.std.specs.Prelude.{◌≡◌, Bool, true}
use Rattle.job.specs.Gives.{Sampled}
use Rattle.quantizer.specs.Course.{Course}
use Rattle.run_stages.specs.State.{State, draws}
use Rattle.run_calls.specs.Fit.{Fit}

-- a job with samples that passed, and a state between calls
pub record Running (K : Course) (s : State) : Type 0 where
  pub room : Bool
  pub passed : Sampled K.job K.n K.samples room
  pub fit : Fit K s

-- and a stage that draws
pub record Ongoing (K : Course) (s : State) : Type 0 where
  pub running : Running K s
  pub going : draws s.rec.stage ≡ true

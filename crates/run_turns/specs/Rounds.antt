-- Rounds of seeding, growing and replacing, counted in one. Definitions only. Assumes nothing.
use Rattle.std.specs.Prelude.{ℕ, ◌-◌, cond, ltb}
use Rattle.quantizer.specs.Course.{Course}
use Rattle.run_stages.specs.State.{State}
use Rattle.run_stages.specs.Stages.{open_seeding, open_growing, open_replacing, enter_reducing}
use Rattle.run_keeping.specs.Keeping.{seen}

-- the next round of replacing, or the stop
unfoldable pub replace_on : Course → ℕ → State → State
replace_on K round s = cond (ltb round 10) (open_replacing K round (seen K round s)) (enter_reducing K (seen K round s))

-- a round of growing for each colour but the first, then those of replacing
unfoldable pub grow_on : Course → ℕ → State → State
grow_on K turn s = cond (ltb turn (K.job.C - 1)) (open_growing K turn s) (replace_on K (turn - (K.job.C - 1)) s)

-- a round of seeding for each subpalette but the first, then those
unfoldable pub open_turn : Course → ℕ → ℕ → State → State
open_turn K turn from s = cond (ltb turn (K.job.S - 1)) (open_seeding K turn from s) (grow_on K (turn - (K.job.S - 1)) s)

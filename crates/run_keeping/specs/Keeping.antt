-- Which palette is kept: the first of a stage at once, a later one where its error is below the one kept. Definitions only. Assumes nothing.
use Rattle.std.specs.Prelude.{ℕ, Bool, true, cond, eqb, Float}
use Rattle.std.specs.Float.{binary32}
use Rattle.std.specs.Float.Ieee.{lt, of_bits}
use Rattle.quantizer.specs.Course.{Course}
use Rattle.run_stages.specs.State.{State}
use Rattle.run_stages.specs.Stages.{noticed, error_of, keep}

unfoldable pub keeps : ℕ → Float → ℕ → Bool
keeps round e error = cond (eqb round 0) true (lt e (of_bits binary32 error))

-- a palette that was seen before a round of replacing
unfoldable pub seen : Course → ℕ → State → State
seen K round s = cond (keeps round (error_of K s) s.rec.error) (keep K s) (noticed K K.job.S K.job.C s)

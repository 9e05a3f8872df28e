-- Which refusal `train` gives a number of samples. Definitions only. Assumes nothing.
use Rattle.std.specs.Prelude.{ℕ, cond, leb, eqb}
use Rattle.job.specs.Job.{most_samples}

-- 1 where there is no sample, 2 where there are too many, 0 where they can be drawn
unfoldable pub refusal_of : ℕ → ℕ
refusal_of n = cond (eqb n 0) 1 (cond (leb n most_samples) 0 2)

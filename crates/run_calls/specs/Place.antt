-- Where a run may stand, by words 1 to 4 of its record. Assumes nothing.
use Rattle.std.specs.Prelude.{◌≡◌, false, ℕ, suc, ◌+◌, ◌-◌, ◌*◌, ◌≤◌, ◌<◌}
use Rattle.quantizer.specs.Course.{Course, b}
use Rattle.run_stages.specs.State.{State}
use Rattle.run_stages.specs.Stages.{due}

-- ---- where a run may stand: stage k, r rounds finished, l draws left, m made. l = 0 is allowed, so that this holds inside a settling too.
-- m + l is what will have been made at the round's end.
pub data Place (K : Course) (k r l m : ℕ) : Type 0 where
  seeding : k ≡ 0 → r < K.job.S - 1 → l ≤ b K → m + l ≡ suc r * b K → Place K k r l m
  growing : k ≡ 1 → r < K.job.C - 1 → l ≤ b K → m + l ≡ (K.job.S - 1 + suc r) * b K → Place K k r l m
  replacing : k ≡ 2 → r < 10 → l ≤ b K → m + l ≡ (K.job.S - 1 + (K.job.C - 1) + suc r) * b K → Place K k r l m
  reducing : k ≡ 3 → r ≡ 0 → l ≡ 0 → m ≡ (K.job.S + K.job.C + 8) * b K → Place K k r l m
  finishing : k ≡ 4 → r ≡ 0 → l ≤ 10 * b K → m + l ≡ (K.job.S + K.job.C + 18) * b K → Place K k r l m
  over : 5 ≤ k → k ≤ 7 → r ≡ 0 → l ≡ 0 → m ≡ (K.job.S + K.job.C + 18) * b K → Place K k r l m

abbrev pub Placed : Course → State → Type 0
Placed K s = Place K s.rec.stage s.rec.rounds s.rec.left s.rec.made

-- the invariant between calls: a place, and nothing due
pub record Rests (K : Course) (s : State) : Type 0 where
  pub place : Placed K s
  pub done : due s ≡ false

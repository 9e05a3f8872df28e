-- What the least of d 0 .. d (n - 1), the first of those, is known by, and the next of the others; over any distances d. Definitions only.
-- Assumes nothing.
use Rattle.std.specs.Prelude.{ℕ, ◌<◌, ◌≡◌, true, false, Float}
use Rattle.std.specs.Float.Ieee.{lt}
use Rattle.stats.specs.declared.Near.{Near}
use Rattle.stats.specs.declared.Two.{Two}

-- b is the lowest index below n of the least distance, and that distance
pub record Least (d : ℕ → Float) (n : ℕ) (b : Near) : Type 0 where
  pub within : b.index < n
  pub dist : b.dist ≡ d b.index
  pub none_less : (j : ℕ) → j < n → lt (d j) b.dist ≡ false
  pub first : (j : ℕ) → j < b.index → lt b.dist (d j) ≡ true

-- b's next is, among the indexes below n other than b's first, the lowest of the least distance, and the second is that distance
pub record RunnerUp (d : ℕ → Float) (n : ℕ) (b : Two) : Type 0 where
  pub within : b.next < n
  pub other : b.next ≡ b.index → ⊥
  pub dist : b.second ≡ d b.next
  pub none_less : (j : ℕ) → j < n → (j ≡ b.index → ⊥) → lt (d j) b.second ≡ false
  pub first : (j : ℕ) → j < b.next → (j ≡ b.index → ⊥) → lt b.second (d j) ≡ true

-- The greatest and the least of n values by IEEE 754's total order: over any values d 0 .. d (n - 1). Definitions only. Assumes nothing.
use Rattle.std.specs.Prelude.{ℕ, zero, suc, ◌<◌, not, cond, T, Float}
use Rattle.std.specs.Float.Ieee.{is_nan}
use Rattle.ieee.specs.Terms.{tle}

-- no value is NaN
abbrev pub NoNan : (ℕ → Float) → ℕ → Type 0
NoNan d n = (i : ℕ) → i < n → T (not (is_nan (d i)))

-- the greatest of the first n: one that is not before the greatest so far is taken, so of equals the last
unfoldable pub argmax_of : (ℕ → Float) → ℕ → ℕ
argmax_of d zero = 0
argmax_of d (suc n) = let b = argmax_of d n in cond (tle (d b) (d n)) n b

-- the least of the first n: the least so far is kept unless it is after the next, so of equals the first
unfoldable pub argmin_of : (ℕ → Float) → ℕ → ℕ
argmin_of d zero = 0
argmin_of d (suc n) = let b = argmin_of d n in cond (tle (d b) (d n)) b n

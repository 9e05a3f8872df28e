-- The first index at which a test fails, as a search meets it. Assumes nothing.
use Prim.Native.Nat.{ℕ, zero, suc, ◌≤◌}
use mathlib.Core.Path.{◌≡◌, refl}
use mathlib.Core.Bool.{Bool, true, false, cond, ◌&&◌}
use native.Mathlib.Omega.{arith}
use Rattle.lists.specs.Every.{every}
use Rattle.job.specs.Checks.{first_not}

module _ (f : ℕ → Bool) where
  pub first-bound : (n : ℕ) → first_not f n ≤ n
  unfolding first_not
  first-bound zero = omega arith
  first-bound (suc n) = by (every f n) (f n) (first-bound n)
    where
      by : (a b : Bool) → first_not f n ≤ n → cond a (cond b (suc n) n) (first_not f n) ≤ suc n
      by true true l = omega arith
      by true false l = omega arith
      by false b l = omega arith

  -- there is none, and so every test passes
  pub none_first : (n : ℕ) → first_not f n ≡ n → every f n ≡ true
  unfolding first_not every
  none_first zero h = refl
  none_first (suc n) h = by (every f n) (f n) h (first-bound n)
    where
      by : (a b : Bool) → cond a (cond b (suc n) n) (first_not f n) ≡ suc n → first_not f n ≤ n → a && b ≡ true
      by true true h l = refl
      by true false h l = absurd (omega arith)
      by false b h l = absurd (omega arith)

-- The sum that is chosen, the greatest or the smallest, is one of the part that is asked for. Assumes nothing.
use Prim.Native.Nat.{ℕ, ◌+◌, ◌≤◌, ◌<◌}
use mathlib.Core.Path.{subst}
use mathlib.Core.List.{List}
use native.Mathlib.Omega.{arith}
use lib.ListN.{length}
use lib.Ieee.{Float}
use Rattle.stats.specs.Stats.{value_at}
use Rattle.stats_extremes.proofs.Choices.{max_below, min-below}
use Rattle.quantizer.specs.Sums.{sums_at, greatest, smallest}
use Rattle.quantizer.proofs.Lists.{length-sums}

module _ (d : List Float) (from size : ℕ) (h : from + size ≤ length d) (some : 1 ≤ size) where
  pub greatest-below : greatest (sums_at d from size) < size
  greatest-below =
      subst (λ (n : ℕ). greatest (sums_at d from size) < n) (length-sums d from size h)
      (max_below (value_at (sums_at d from size)) (length (sums_at d from size)) (omega (arith, length-sums d from size h)))

  pub smallest-below : smallest (sums_at d from size) < size
  smallest-below =
      subst (λ (n : ℕ). smallest (sums_at d from size) < n) (length-sums d from size h)
      (min-below (value_at (sums_at d from size)) (length (sums_at d from size)) (omega (arith, length-sums d from size h)))

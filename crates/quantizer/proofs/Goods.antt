-- Sums of values that are no NaN and have no sign are such too, so that a choice among them may be made. Assumes nothing.
use Prim.Native.Nat.{ℕ, ◌+◌, ◌≤◌, ◌<◌}
use mathlib.Core.Path.{subst⁻¹}
use mathlib.Core.Bool.{not}
use mathlib.Core.List.{List}
use native.Mathlib.Omega.{arith}
use lib.ListN.{length}
use lib.Dec.{T}
use lib.Ieee.{Float, nan, binary32, is_nan, of_bits}
use lib.Ieee.Bits.{of_bits-fits}
use Rattle.ieee.specs.Terms.{Good}
use Rattle.ieee.proofs.Plus.{plus-real}
use Rattle.ieee.proofs.Goods.{add-good}
use Rattle.lists.proofs.Runs.{all_set}
use Rattle.stats.specs.Stats.{value_at}
use Rattle.stats_extremes.specs.Extremes.{NoNan}
use Rattle.quantizer.specs.Sums.{bump, zeros, sums_at}
use Rattle.quantizer.proofs.Lists.{zeros-all, length-sums, sum-at}
use Rattle.quantizer.specs.Goods.{AllGood}

pub zeros-good : (n : ℕ) → AllGood (zeros n)
zeros-good n = zeros-all (Good binary32) (record { fit = of_bits-fits binary32 0; pos = unfold of_bits in tt }) n

pub bump-good : (d : List Float) (i : ℕ) (x : Float) → i < length d → Good binary32 x → AllGood d → AllGood (bump d i x)
bump-good d i x l g h = all_set nan (Good binary32) d i _ (add-good binary32 _ _ (h i l) g) h

-- `size` of them from `from` on
pub sums_no_nan : (d : List Float) (from size : ℕ) → from + size ≤ length d → AllGood d → NoNan (value_at (sums_at d from size)) (length (sums_at d from size))
sums_no_nan d from size h g i l =
    let k : i < size = omega (arith, length-sums d from size h) in
    subst⁻¹ (λ (x : Float). T (not (is_nan x))) (sum-at d from size h i k) (plus-real _ (g (from + i) (omega arith)).pos)

-- The subpalettes that tiles go to in replacing, as the code reads them: off the hints that the best two left. Assumes nothing.
use Prim.Native.Nat.{ℕ, zero, suc, ◌≤◌, ◌<◌}
use mathlib.Core.Path.{◌≡◌, subst⁻¹, ◌∙◌}
use mathlib.Core.List.{List}
use native.Mathlib.Decide.{ℕ_discrete}
use native.Mathlib.Omega.{arith}
use lib.ListN.{get_or, length, set}
use lib.Seq.{get_or-set_same, get_or-set_other}
use lib.Ieee.{Float}
use Rattle.job.specs.Job.{Job}
use Rattle.palette_tile.specs.Walk.{walk}
use Rattle.quantizer.specs.Replacing.{pair_at, pair_hints}
use Rattle.quantizer.proofs.Lengths.{length-pair_hints}

module _ (J : Job) (pal : List Float) (h : List ℕ) where
  -- the hint of a tile that was asked for is its winner
  pub pair-hint : (m : ℕ) → m ≤ length h → (t : ℕ) → t < m → get_or (pair_hints J pal h m) t 0 ≡ (pair_at J pal t).index
  unfolding walk
  pair-hint zero e t l = absurd (none l)
    where
      none : t < 0 → ⊥
      none l = omega arith
  pair-hint (suc m) e t l = by (ℕ_discrete t m) (λ k. pair-hint m (omega arith) t k)
    where
      by : Dec (t ≡ m) → (t < m → get_or (pair_hints J pal h m) t 0 ≡ (pair_at J pal t).index) → get_or (set (pair_hints J pal h m) m (pair_at J pal m).index) t 0 ≡ (pair_at J pal t).index
      by (yes p) ih =
          subst⁻¹ (λ (k : ℕ). get_or (set (pair_hints J pal h m) m (pair_at J pal m).index) k 0 ≡ (pair_at J pal k).index) p
          (get_or-set_same (pair_hints J pal h m) m (pair_at J pal m).index 0 (omega (arith, length-pair_hints J pal h m)))
      by (no p) ih = get_or-set_other (pair_hints J pal h m) m t (pair_at J pal m).index 0 p ∙ ih (omega (arith, p))

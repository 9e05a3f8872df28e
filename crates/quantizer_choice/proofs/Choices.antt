-- The places that are chosen are among the sums. Assumes nothing.
use Prim.Native.Nat.{ℕ, ◌<◌}
use mathlib.Core.Path.{◌≡◌, subst⁻¹}
use mathlib.Core.List.{List}
use native.Mathlib.Omega.{arith}
use lib.ListN.{length}
use lib.Ieee.{Float}
use Rattle.stats.specs.Stats.{value_at}
use Rattle.stats_extremes.proofs.Choices.{max_below, min-below}
use Rattle.quantizer.specs.Sums.{greatest, smallest}
use Rattle.quantizer_choice.specs.Choosing.{Choosing}

module _ (had lost : List Float) (from to : ℕ) (p : from ≡ greatest had) (q : to ≡ smallest lost) where
  pub places_in : Choosing had lost → (from < length had) × (to < length lost)
  places_in C = (
    subst⁻¹ (λ (i : ℕ). i < length had) p (max_below (value_at had) (length had) C.some),
    subst⁻¹ (λ (i : ℕ). i < length lost) q (min-below (value_at lost) (length lost) (omega (arith, C.some, C.pairs))),
  )

-- The nearest colour of a subpalette that has one: an index of it, at that index's distance, which is bounded where the colours are. Assumes nothing.
use Prim.Native.Nat.{◌/◌, ◌≤◌, ◌<◌}
use mathlib.Core.Path.{◌≡◌, subst⁻¹}
use mathlib.Core.List.{List}
use lib.ListN.{length}
use lib.Dec.{T}
use lib.Ieee.{Float}
use lib.Ieee.Positive.{positive}
use Rattle.ieee.specs.Terms.{Within}
use Rattle.color.specs.declared.Oklab.{Oklab}
use Rattle.color.specs.Color.{colour_at, Real, Sized, Finite, Bounded}
use Rattle.color.proofs.Sizes.{sized-real, bounded-finite, colour-sized}
use Rattle.color.proofs.Distances.{sqdist_within}
use Rattle.stats.proofs.Scan.{least-below, least_has}
use Rattle.palette.specs.Palette.{gap, nearest_of}
use Rattle.palette.proofs.Sums.{gap-good}

module _ (s : List Float) (q : Oklab) (w : Float) (S : 1 ≤ length s / 3) where
  pub nearest-below : (nearest_of s q w).index < length s / 3
  nearest-below = least-below (gap s q w) (length s / 3) S

  pub nearest-at : Finite s → Real q → T (positive w) → (nearest_of s q w).dist ≡ gap s q w (nearest_of s q w).index
  nearest-at F Q W = (least_has (gap s q w) (length s / 3) S (gap-good s w F W q Q)).dist

  pub nearest-within : Bounded s 4 → Sized q 2 → T (positive w) → Within w 16 1 → Within (nearest_of s q w).dist 1188 1
  unfolding gap
  nearest-within B Q W H =
      subst⁻¹ (λ (x : Float). Within x 1188 1) (nearest-at (bounded-finite s 4 B) (sized-real q 2 Q) W)
      (sqdist_within (colour_at s (nearest_of s q w).index) q w (colour-sized s 4 (nearest_of s q w).index B nearest-below) Q H)

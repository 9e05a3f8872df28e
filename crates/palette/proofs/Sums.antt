-- Distances and sums of them are no NaN and have no sign, where colours are finite, the weight is above 0 and counts are at least 1;
-- and a sum over more colours is no smaller. Assumes nothing.
use Prim.Native.Nat.{ℕ, zero, suc, ◌+◌, ◌-◌, ◌*◌, ◌/◌, ◌≤◌, ◌<◌}
use mathlib.Core.Path.{◌≡◌, subst, subst⁻¹}
use mathlib.Core.List.{List}
use native.Mathlib.Nat.{le_trans, le_refl}
use native.Mathlib.Omega.{arith}
use lib.ListN.{get_or, length}
use lib.Dec.{T}
use lib.Ieee.{Float, binary32, of_bits}
use lib.Ieee.Positive.{positive}
use lib.Ieee.Bits.{of_bits-fits}
use Rattle.ieee.specs.Terms.{Good, key32}
use Rattle.ieee.proofs.Goods.{add-good, times-good, count-positive}
use Rattle.ieee.proofs.Grows.{add-grows}
use Rattle.color.specs.declared.Oklab.{Oklab}
use Rattle.color.specs.Color.{colour_at, Real, Finite}
use Rattle.color.proofs.Sizes.{colour-real}
use Rattle.color.proofs.Distances.{sqdist_good}
use Rattle.stats.proofs.Scan.{least-good}
use Rattle.palette.specs.Palette.{Palette, Tile, sub_of, gap, nearest_of, term_of, total_of, tile_distance, dist_at, Present, Counted}
use Rattle.palette.proofs.Parts.{sub-finite}

module _ (s : List Float) (w : Float) (F : Finite s) (W : T (positive w)) where
  pub gap-good : (q : Oklab) → Real q → (i : ℕ) → i < length s / 3 → Good binary32 (gap s q w i)
  unfolding gap
  gap-good q r i l = sqdist_good (colour_at s i) q w (colour-real s i F l) r W

  pub nearest-good : (q : Oklab) → Real q → Good binary32 (nearest_of s q w).dist
  nearest-good q r = least-good (gap s q w) (length s / 3) (gap-good q r)

  -- ---- a tile
  module _ (X : Tile) (C : Counted X) where
    pub tile-real : (k : ℕ) → k < length X.counts → Real (colour_at X.colours k)
    tile-real k l = colour-real X.colours k C.finite (third (length X.colours) C.three)
      where
        third : (z : ℕ) → z ≡ 3 * length X.counts → k < z / 3
        third z e = omega arith

    term_good : (k : ℕ) → k < length X.counts → Good binary32 (term_of s X w k)
    term_good k l = times-good binary32 _ _ (nearest-good (colour_at X.colours k) (tile-real k l)) (count-positive binary32 (get_or X.counts k 0) (C.low k l) (C.high k l))

    pub total-good : (k : ℕ) → k ≤ length X.counts → Good binary32 (total_of s X w k)
    unfolding total_of
    total-good zero l = record { fit = of_bits-fits binary32 0; pos = unfold of_bits in tt }
    total-good (suc k) l = add-good binary32 _ _ (total-good k (omega arith)) (term_good k l)

    total-grows : (k : ℕ) → k < length X.counts → key32 (total_of s X w k) ≤ key32 (total_of s X w (suc k))
    unfolding total_of
    total-grows k l = add-grows binary32 _ _ (total-good k (omega arith)) (term_good k l)

    total_rises : (k d : ℕ) → k + d ≤ length X.counts → key32 (total_of s X w k) ≤ key32 (total_of s X w (k + d))
    total_rises k zero l = subst⁻¹ (λ (n : ℕ). key32 (total_of s X w k) ≤ key32 (total_of s X w n)) (plus-zero k) (le_refl _)
      where
        plus-zero : (k : ℕ) → k + zero ≡ k
        plus-zero k = omega arith
    total_rises k (suc d) l =
        le_trans (total_rises k d (omega arith))
        (subst⁻¹ (λ (n : ℕ). key32 (total_of s X w (k + d)) ≤ key32 (total_of s X w n)) (plus_suc k d) (total-grows (k + d) (omega arith)))
      where
        plus_suc : (k d : ℕ) → k + suc d ≡ suc (k + d)
        plus_suc k d = omega arith

    -- from any place to the end
    pub total_end : (k : ℕ) → k ≤ length X.counts → key32 (total_of s X w k) ≤ key32 (tile_distance s X w)
    total_end k l = subst (λ (n : ℕ). key32 (total_of s X w k) ≤ key32 (total_of s X w n)) (rest (length X.counts) k l) (total_rises k (length X.counts - k) (omega arith))
      where
        rest : (n k : ℕ) → k ≤ n → k + (n - k) ≡ n
        rest n k h = omega arith

-- ---- a palette
pub dist-good : (P : Palette) (X : Tile) (w : Float) → Present P → Counted X → T (positive w) → (i : ℕ) → i < P.subs → Good binary32 (dist_at P X w i)
unfolding dist_at
dist-good P X w R C W i l = total-good (sub_of P.flat P.stride P.have i) w (sub-finite P R i l) W X C (length X.counts) (le_refl (length X.counts))

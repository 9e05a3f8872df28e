-- A walk over a tile's matches, at the code's `k + 1`: where a match's sum stands, and what one match more comes to. Assumes nothing.
use Prim.Native.Nat.{ℕ, ◌+◌, ◌/◌, ◌<◌}
use mathlib.Core.Path.{◌≡◌, refl, sym, ap, subst⁻¹, ◌∙◌}
use mathlib.Core.List.{List}
use native.Mathlib.Numerals.{add-one}
use native.Mathlib.Omega.{arith}
use lib.ListN.{get_or, length}
use lib.IntN.{pos}
use lib.Ieee.{Float, binary32, mul, of_int}
use Rattle.color.specs.declared.Oklab.{Oklab}
use Rattle.color.specs.Color.{colour_at}
use Rattle.stats.specs.declared.Near.{Near}
use Rattle.stats.proofs.Scan.{least-below}
use Rattle.palette.specs.Palette.{Tile, gap, nearest_of}
use Rattle.quantizer.specs.Sums.{bump}
use Rattle.quantizer.specs.Growing.{tile_needs}
use Rattle.quantizer.proofs.Lengths.{length-tile_needs}
use Rattle.quantizer_matches.specs.Matches.{Matched}

module _ (s : List Float) (X : Tile) (w : Float) (base : ℕ) (d : List Float) (M : Matched s X base (length d)) where
  pub needs_start : d ≡ tile_needs s X w base d 0
  unfolding tile_needs
  needs_start = refl

  module _ (now·d : List Float) (k : ℕ) (e : now·d ≡ tile_needs s X w base d k) where
    pub needs_length : length now·d ≡ length d
    needs_length = ap length e ∙ length-tile_needs s X w base d k

    module _ (q : Oklab) (g : q ≡ colour_at X.colours k) (r : Near) (p : r ≡ nearest_of s q w) where
      pub near_place : base + r.index < length d
      near_place = omega (arith, M.place, subst⁻¹ (λ (x : Near). x.index < length s / 3) p (least-below (gap s q w) (length s / 3) M.some))

      pub needs_more : bump now·d (base + r.index) (mul binary32 r.dist (of_int binary32 (pos (get_or X.counts k 0)))) ≡ tile_needs s X w base d (k + 1)
      unfolding tile_needs
      needs_more =
          ap (λ (x : Near). bump now·d (base + x.index) (mul binary32 x.dist (of_int binary32 (pos (get_or X.counts k 0))))) (p ∙ ap (λ (y : Oklab). nearest_of s y w) g)
          ∙ ap (λ (z : List Float). bump z (base + (nearest_of s (colour_at X.colours k) w).index) (mul binary32 (nearest_of s (colour_at X.colours k) w).dist (of_int binary32 (pos (get_or X.counts k 0))))) e
          ∙ sym (ap (tile_needs s X w base d) (add-one k))

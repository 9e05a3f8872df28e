-- Sums by subpalette while the tiles are walked over: what a tile's turn asks, and what it adds. Assumes nothing.
use Prim.Native.Nat.{ℕ, ◌+◌, ◌<◌}
use mathlib.Core.Path.{◌≡◌, ap, subst⁻¹, ◌∙◌}
use mathlib.Core.List.{List}
use native.Mathlib.Omega.{arith}
use lib.ListN.{length, set}
use lib.Ieee.{Float}
use Rattle.stats.specs.declared.Two.{Two}
use Rattle.job.specs.Job.{Job, most_subpalettes}
use Rattle.palette_tile.specs.Tiles.{Shown}
use Rattle.palette_tile.proofs.Present.{pair-below}
use Rattle.palette_tile.proofs.Walks.{Walked, walked_more, walked_has}
use Rattle.quantizer.specs.Replacing.{Shares, no_shares, share_with, pair_at}
use Rattle.quantizer.proofs.Lengths.{length-pair_hints}
use Rattle.quantizer.proofs.Indexes.{shown-subs}

-- what the walk holds: the sums, and the hints after the best two
abbrev pub Pairing : Job → List Float → List ℕ → List ℕ → Shares → ℕ → Type 0
Pairing J pal first hints B t =
    Walked J.T (λ i. share_with (pair_at J pal i)) (no_shares most_subpalettes) B t × Walked J.T (λ i g. set g i (pair_at J pal i).index) first hints t

module _ (J : Job) (pal : List Float) (S : Shown J pal J.S J.C) (first hints : List ℕ) (B : Shares) (t : ℕ) (G : Pairing J pal first hints B t) where
  pub pairing_length : length hints ≡ length first
  pairing_length = walked_has G.1 (λ i h. length h ≡ length first) (λ i l. length-pair_hints J pal first i)

  -- r is the tile's best two
  module _ (r : Two) (p : r ≡ pair_at J pal t) where
    pub pairing_below : r.index < most_subpalettes
    pairing_below = subst⁻¹ (λ (x : Two). x.index < most_subpalettes) p (omega (arith, pair-below J pal J.S J.C S t, shown-subs J pal J.S J.C S))

    pub pairing_more : t < J.T → (after : List ℕ) (C : Shares) → C ≡ share_with r B → after ≡ set hints t r.index → Pairing J pal first after C (t + 1)
    pairing_more l after C e g = (walked_more G.0 l (e ∙ ap (λ (x : Two). share_with x B) p), walked_more G.1 l (g ∙ ap (λ (x : Two). set hints t x.index) p))

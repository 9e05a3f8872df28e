-- What the calls of `tile_fit` and `tile_two` ask, and what they come to, from the parts that are the tile's. Assumes nothing.
use Prim.Native.Nat.{ℕ, ◌≤◌}
use mathlib.Core.Path.{◌≡◌, ap, ◌∙◌}
use mathlib.Core.List.{List}
use native.Mathlib.Omega.{arith}
use lib.ListN.{length}
use lib.Ieee.{Float}
use Rattle.job.specs.Job.{Job, Inside}
use Rattle.job.proofs.Tiles.{colours-placed, counts-placed, counts-length}
use Rattle.stats.specs.declared.Near.{Near}
use Rattle.stats.specs.declared.Two.{Two}
use Rattle.palette.specs.Palette.{Palette, Tile, best_fit, Fits, Hinted}
use Rattle.palette_two.specs.PaletteTwo.{best_two}
use Rattle.palette_tile.specs.Tiles.{tile_at, present_in, fit_at, two_at, Paired, Fitted}
use Rattle.palette_tile.proofs.Present.{tile_fits_lem, tile-hinted}

module _ (J : Job) (pal : List Float) (n have : ℕ) (hints : List ℕ) (t : ℕ) (K : Paired J pal n have hints t) where
  pub colours_asked : Inside 3 J.tiles t (length J.colours)
  colours_asked = colours-placed J K.shown.ready t K.tile

  pub counts_asked : Inside 1 J.tiles t (length J.counts)
  counts_asked = counts-placed J K.shown.ready t K.tile

  module _ (P : Palette) (X : Tile) (e : P ≡ present_in J pal n have) (g : X ≡ tile_at J t) where
    pub two_asked : Fits P X J.weight × Hinted P.subs hints t
    two_asked = (
      rw (e, g) (tile_fits_lem J pal n have K.shown t K.tile),
      rw e (tile-hinted J pal n have K.shown t K.tile hints K.each),
    )

    pub two-done : (r : Two) → r ≡ best_two P X J.weight → r ≡ two_at J pal n have t
    unfolding two_at
    two-done r p = p ∙ ap (λ (x : Palette). best_two x X J.weight) e ∙ ap (λ (x : Tile). best_two (present_in J pal n have) x J.weight) g

    pub fit-done : (r : Near) → r ≡ best_fit P X J.weight → r ≡ fit_at J pal n have t
    unfolding fit_at
    fit-done r p = p ∙ ap (λ (x : Palette). best_fit x X J.weight) e ∙ ap (λ (x : Tile). best_fit (present_in J pal n have) x J.weight) g

pub fit_asked : (J : Job) (pal : List Float) (n have : ℕ) (hints : List ℕ) (t : ℕ) → Fitted J pal n have hints t → (P : Palette) (X : Tile) → P ≡ present_in J pal n have → X ≡ tile_at J t
    → Fits P X J.weight × ((1 ≤ length X.counts) × Hinted P.subs hints t)
fit_asked J pal n have hints t K P X e g =
    let A = two_asked J pal n have hints t K.paired P X e g in
    (A.0, (omega (arith, ap (λ (x : Tile). length x.counts) g, counts-length J K.paired.shown.ready t K.paired.tile, K.full), A.1))

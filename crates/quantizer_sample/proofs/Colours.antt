-- What the calls of `sample_colour` ask, and what they come to, from the tile and the place that are read. Assumes nothing.
use Prim.Native.Nat.{ℕ, ◌+◌, ◌*◌, ◌≤◌, ◌<◌}
use mathlib.Core.Path.{◌≡◌, ap, subst⁻¹, ◌∙◌}
use mathlib.Core.List.{List}
use native.Mathlib.Omega.{arith}
use lib.ListN.{get_or, length, take, drop, length-take, length-drop}
use lib.Ieee.{Float}
use Rattle.color.specs.declared.Oklab.{Oklab}
use Rattle.color.specs.Color.{colour_at}
use Rattle.job.specs.Job.{first_of, size_of, colours_part, Inside}
use Rattle.quantizer_sample.specs.Samples.{Told}

length_part : (s : List Float) (a m : ℕ) → a + m ≤ length s → length (take m (drop a s)) ≡ m
length_part s a m h = simp (length-take, length-drop) (omega arith)

module _ (tiles : List ℕ) (colours : List Float) (samples : List ℕ) (i : ℕ) (K : Told tiles colours samples i) (t : ℕ) (e : t ≡ get_or samples (2 * i) 0) where
  pub tile_asked : Inside 3 tiles t (length colours)
  tile_asked = subst⁻¹ (λ (x : ℕ). Inside 3 tiles x (length colours)) e K.tile

  module _ (tile : List Float) (f : tile ≡ colours_part tiles colours t) (k : ℕ) (g : k ≡ get_or samples (2 * i + 1) 0) where
    inside : k < size_of tiles t
    inside = subst⁻¹ (λ (x : ℕ). x < size_of tiles t) g (subst⁻¹ (λ (x : ℕ). get_or samples (2 * i + 1) 0 < size_of tiles x) e K.place)

    pub colour_asked : 3 * k + 2 < length tile
    colour_asked = omega (arith, inside, ap length f ∙ length_part colours (3 * first_of tiles t) (3 * size_of tiles t) (omega (arith, tile_asked.inside)))

    pub colour-done : (q : Oklab) → q ≡ colour_at tile k → q ≡ colour_at (colours_part tiles colours (get_or samples (2 * i) 0)) (get_or samples (2 * i + 1) 0)
    colour-done q h =
        h
        ∙ ap (λ (x : List Float). colour_at x k) f
        ∙ ap (λ (x : ℕ). colour_at (colours_part tiles colours x) k) e
        ∙ ap (colour_at (colours_part tiles colours (get_or samples (2 * i) 0))) g

-- The sums in f64 follow the definitions: one colour more, at the code's `k + 1`; and the mean by its two cases. Assumes nothing.
use Prim.Native.Nat.{ℕ, ◌+◌, ◌<◌}
use mathlib.Core.Path.{◌≡◌, sym, ap, subst⁻¹, ◌∙◌}
use mathlib.Core.Bool.{not, ◌&&◌}
use mathlib.Core.List.{List}
use native.Mathlib.Numerals.{add-one}
use lib.ListN.{get_or, length}
use lib.IntN.{pos}
use lib.Dec.{T}
use lib.Ieee.{Float, binary32, binary64, add, mul, of_int, fits, is_nan}
use lib.Ieee.Fits.{and_i, fits_widens}
use Rattle.ieee.proofs.Plus.{plus-real}
use Rattle.ieee.specs.Terms.{Good}
use Rattle.color.specs.declared.Oklab.{Oklab}
use Rattle.color.specs.Color.{colour_at}
use Rattle.palette.specs.Palette.{Tile, nearest_of}
use Rattle.palette_mse.specs.declared.Tally.{Tally}
use Rattle.palette_mse.specs.Mse.{step_tally, tile_tally, Summed}
use Rattle.palette_mse.proofs.Fine.{near_good}

-- an f64 holds every f32
widens : (x : Float) → Good binary32 x → T (fits binary64 x && not (is_nan x))
widens x g = and_i (fits binary64 x) (not (is_nan x)) (fits_widens x g.fit) (plus-real x g.pos)

pub near_widens : (s : List Float) (X : Tile) (w : Float) → Summed s X w → (k : ℕ) → k < length X.counts → (q : Oklab) (d : Float) → q ≡ colour_at X.colours k → d ≡ (nearest_of s q w).dist → T (fits binary64 d && not (is_nan d))
near_widens s X w R k l q d g e =
    subst⁻¹ (λ (x : Float). T (fits binary64 x && not (is_nan x))) (e ∙ ap (λ (y : Oklab). (nearest_of s y w).dist) g) (widens _ (near_good s X w R k l))

pub tally_step_lem : (s : List Float) (X : Tile) (w : Float) (a : Tally) (k : ℕ) (x : Float) (n : ℕ) (q : Oklab) (d : Float) → record { total = x; count = n } ≡ tile_tally s X w a k → q ≡ colour_at X.colours k → d ≡ (nearest_of s q w).dist
    → record { total = add binary64 x (mul binary64 d (of_int binary64 (pos (get_or X.counts k 0)))); count = n + get_or X.counts k 0 } ≡ tile_tally s X w a (k + 1)
unfolding tile_tally
tally_step_lem s X w a k x n q d h g e =
    ap (λ (z : Tally). step_tally z (mul binary64 d (of_int binary64 (pos (get_or X.counts k 0)))) (get_or X.counts k 0)) h
    ∙ ap (λ (z : Float). step_tally (tile_tally s X w a k) (mul binary64 z (of_int binary64 (pos (get_or X.counts k 0)))) (get_or X.counts k 0)) (e ∙ ap (λ (y : Oklab). (nearest_of s y w).dist) g)
    ∙ sym (ap (tile_tally s X w a) (add-one k))

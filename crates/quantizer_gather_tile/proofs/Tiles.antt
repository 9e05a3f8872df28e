-- One addition, and a walk over a tile's colours: what their calls ask, and what they come to. Assumes nothing.
use Prim.Native.Nat.{ℕ, ◌+◌, ◌≤◌, ◌<◌}
use mathlib.Core.Path.{◌≡◌, sym, ap, subst⁻¹, ◌∙◌}
use mathlib.Core.List.{List}
use native.Mathlib.Numerals.{add-one}
use native.Mathlib.Omega.{arith}
use lib.ListN.{get_or, length, set}
use lib.Ieee.{Float}
use Rattle.color.specs.declared.Oklab.{Oklab}
use Rattle.color.specs.Color.{colour_at, put_at, plus_times}
use Rattle.stats.specs.declared.Near.{Near}
use Rattle.palette.specs.Palette.{Tile, nearest_of}
use Rattle.quantizer.specs.Sums.{places}
use Rattle.quantizer.specs.declared.Gather.{Gather}
use Rattle.quantizer.specs.Refining.{gather, add_at, tile_gather}
use Rattle.quantizer_gather_tile.specs.Gathers.{Adding, Gathering}
use Rattle.quantizer_gather_tile.proofs.Through.{place_in, pixels-part, through}

pub added : (sums after : List Float) (cnts : List ℕ) (p m : ℕ) (q x y : Oklab) → x ≡ colour_at sums p → y ≡ plus_times x q m → after ≡ put_at sums p y
    → gather after (set cnts p (get_or cnts p 0 + m)) ≡ add_at (gather sums cnts) p q m
unfolding add_at
added sums after cnts p m q x y e f g = ap (λ (z : List Float). gather z (set cnts p (get_or cnts p 0 + m))) (g ∙ ap (put_at sums p) (f ∙ ap (λ (z : Oklab). plus_times z q m) e))

module _ (s : List Float) (X : Tile) (w : Float) (base : ℕ) (A : Gather) (G : Gathering s X base A) where
  -- ---- a turn, for colour k
  module _ (k : ℕ) (l : k < length X.counts) (B : Gather) (e : B ≡ tile_gather s X w base A k) (q : Oklab) (f : q ≡ colour_at X.colours k) (d : Near) (g : d ≡ nearest_of s q w) where
    near_is : d.index ≡ (nearest_of s q w).index
    near_is = ap (λ (x : Near). x.index) g

    pub turn-place : base + d.index < places
    turn-place = omega (arith, place_in s X w base A G q, near_is)

    pub turn_adding : Adding B (base + d.index) (get_or X.counts k 0)
    turn_adding =
        let T = through s X w base A G k (omega arith) in
        subst⁻¹ (λ (Y : Gather). Adding Y (base + d.index) (get_or X.counts k 0)) e
        (record {
          whole = T.held.whole;
          all = T.held.all;
          place = turn-place;
          small = omega (arith, pixels-part X k l, G.few (base + d.index));
          few = omega (arith, T.few (base + d.index), pixels-part X k l, G.few (base + d.index));
        })

    pub turn_more : (after : Gather) → after ≡ add_at B (base + d.index) q (get_or X.counts k 0) → after ≡ tile_gather s X w base A (k + 1)
    unfolding tile_gather
    turn_more after h =
        h
        ∙ ap (λ (Y : Gather). add_at Y (base + d.index) q (get_or X.counts k 0)) e
        ∙ ap (λ (i : ℕ). add_at (tile_gather s X w base A k) (base + i) q (get_or X.counts k 0)) near_is
        ∙ ap (λ (x : Oklab). add_at (tile_gather s X w base A k) (base + (nearest_of s x w).index) x (get_or X.counts k 0)) f
        ∙ sym (ap (tile_gather s X w base A) (add-one k))

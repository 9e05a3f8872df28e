-- What a job and a palette that are shown give: fits of their tiles can be asked for, the winner is among the subpalettes present,
-- a subpalette has a colour and is bounded, and so is a tile's nearest distance. Assumes nothing.
use Prim.Native.Nat.{ℕ, ◌+◌, ◌*◌, ◌/◌, ◌≤◌, ◌<◌}
use mathlib.Core.Path.{◌≡◌, sym, subst, ◌∙◌}
use mathlib.Core.List.{List}
use native.Mathlib.Nat.{le_trans, le_of_eq, mul-le-mul_right, mul_left_comm}
use native.Mathlib.Omega.{arith}
use lib.ListN.{length}
use lib.Ieee.{Float}
use Rattle.ieee.specs.Terms.{Within}
use Rattle.color.specs.declared.Oklab.{Oklab}
use Rattle.color.specs.Color.{colour_at, Sized, Bounded}
use Rattle.color.proofs.Sizes.{bounded-finite, nth_sized}
use Rattle.job.specs.Job.{Job, size_of, tile_of}
use Rattle.job.proofs.Tiles.{tile-length, tile-three, tile-bounded, tile-finite}
use Rattle.stats.proofs.Scan.{least-below}
use Rattle.stats.proofs.BestTwo.{first_of, two-first, two-below, next-below as two-next-below}
use Rattle.palette.specs.Palette.{sub_of, nearest_of, dist_at, Present, Counted, Fits, Hinted}
use Rattle.palette.proofs.Parts.{sub-room, sub-length, sub-colours, sub-bounded}
use Rattle.palette.proofs.Near.{nearest-below, nearest-within}
use Rattle.palette_tile.specs.Tiles.{tile_at, present_in, fit_at, winner, two_at, Shown}

-- the first of the best two is the best fit
pub first_of-two : (J : Job) (pal : List Float) (n have t : ℕ) → first_of (two_at J pal n have t) ≡ fit_at J pal n have t
unfolding two_at fit_at
first_of-two J pal n have t = two-first (dist_at (present_in J pal n have) (tile_at J t) J.weight) n

module _ (J : Job) (pal : List Float) (n have : ℕ) (S : Shown J pal n have) where
  pub shown-present : Present (present_in J pal n have)
  shown-present =
      record {
        room = le_trans (mul-le-mul_right (3 * J.C) S.most) (le_of_eq (mul_left_comm J.S 3 J.C ∙ sym S.room));
        present = S.present;
        finite = bounded-finite pal 4 S.bounded;
      }

  pub winner-below : (t : ℕ) → winner J pal n have t < n
  unfolding fit_at
  winner-below t = least-below (dist_at (present_in J pal n have) (tile_at J t) J.weight) n S.subs

  pub pair-below : (t : ℕ) → (two_at J pal n have t).index < n
  unfolding two_at
  pair-below t = two-below (dist_at (present_in J pal n have) (tile_at J t) J.weight) n S.subs

  pub next-below : (t : ℕ) → (two_at J pal n have t).next < n
  unfolding two_at
  next-below t = two-next-below (dist_at (present_in J pal n have) (tile_at J t) J.weight) n S.subs

  -- ---- subpalette i
  module _ (i : ℕ) (l : i < n) where
    pub shown-part : (have ≤ J.C) × (i * (3 * J.C) + 3 * J.C ≤ length pal)
    shown-part = (S.present, sub-room (present_in J pal n have) shown-present i l)

    pub part_length : length (sub_of pal J.C have i) ≡ 3 * have
    part_length = sub-length (present_in J pal n have) shown-present i l

    pub part-colours : length (sub_of pal J.C have i) / 3 ≡ have
    part-colours = sub-colours (present_in J pal n have) shown-present i l

    pub part-some : 1 ≤ length (sub_of pal J.C have i) / 3
    part-some = omega (arith, part-colours, S.some)

    pub part-bounded : Bounded (sub_of pal J.C have i) 4
    part-bounded = sub-bounded (present_in J pal n have) shown-present i l 4 S.bounded

    -- its nearest colour to any is one that is present
    pub part-nearest : (q : Oklab) → (nearest_of (sub_of pal J.C have i) q J.weight).index < have
    part-nearest q = subst (λ (k : ℕ). (nearest_of (sub_of pal J.C have i) q J.weight).index < k) part-colours (nearest-below (sub_of pal J.C have i) q J.weight part-some)

    pub part-within : (q : Oklab) → Sized q 2 → Within (nearest_of (sub_of pal J.C have i) q J.weight).dist 1188 1
    part-within q Q = nearest-within (sub_of pal J.C have i) q J.weight part-some part-bounded Q S.ready.weight S.ready.heavy

  -- ---- tile t
  module _ (t : ℕ) (l : t < J.T) where
    pub tile-counted : Counted (tile_at J t)
    tile-counted =
        record {
          three = tile-three J S.ready t l;
          finite = tile-finite J S.ready t l;
          low = λ k m. S.ready.low t k l m;
          high = λ k m. omega (arith, S.ready.high t k l m, S.ready.sizes.small);
        }

    pub tile_fits_lem : Fits (present_in J pal n have) (tile_at J t) J.weight
    tile_fits_lem = record { palette = shown-present; tile = tile-counted; weight = S.ready.weight }

    pub tile_sized_lem : (k : ℕ) → k < size_of J.tiles t → Sized (colour_at (tile_of J t) k) 2
    tile_sized_lem k = nth_sized (tile_of J t) 2 (size_of J.tiles t) k (tile-bounded J S.ready t l) (tile-length J S.ready t l)

    pub tile-hinted : (hints : List ℕ) → length hints ≡ J.T → Hinted n hints t
    tile-hinted hints e = record { subs = S.subs; few = omega (arith, S.most, S.ready.sizes.few); at = omega arith }

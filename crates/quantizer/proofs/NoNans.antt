-- The sums that the stages choose among have no NaN and no sign, so that a choice among them may be made. Assumes nothing.
use Prim.Native.Nat.{ℕ, zero, suc, ◌+◌, ◌*◌, ◌/◌, ◌≤◌, ◌<◌}
use mathlib.Core.Path.{◌≡◌}
use mathlib.Core.Bool.{Bool, true, false, cond}
use mathlib.Core.List.{List}
use native.Mathlib.Nat.{le_refl}
use native.Mathlib.Omega.{arith}
use lib.ListN.{get_or, length}
use lib.Dec.{T}
use lib.IntN.{pos}
use lib.Ieee.{Float, binary32, mul, of_int}
use lib.Ieee.Positive.{positive}
use Rattle.ieee.specs.Terms.{Good}
use Rattle.ieee.proofs.Goods.{times-good, count-positive, inf-good}
use Rattle.color.specs.Color.{colour_at}
use Rattle.stats.proofs.Seconds.{two-all}
use Rattle.stats.proofs.Scan.{least-good}
use Rattle.job.specs.Job.{Job, is_empty}
use Rattle.palette_tile.specs.Walk.{walk}
use Rattle.palette.specs.Palette.{dist_at, gap, sub_of, nearest_of, term_of}
use Rattle.palette.proofs.Parts.{sub-finite}
use Rattle.palette.proofs.Sums.{gap-good, tile-real, dist-good}
use Rattle.palette_two.specs.PaletteTwo.{nearest_two_of}
use Rattle.palette_tile.specs.Tiles.{tile_at, present_in, fit_at, winner, two_at, Shown}
use Rattle.palette_tile.proofs.Present.{shown-present, winner-below, pair-below, part-nearest, tile-counted}
use Rattle.quantizer.specs.Sums.{bump, places}
use Rattle.quantizer.specs.Seeding.{distance_step, distances_of}
use Rattle.quantizer.specs.Growing.{tile_needs, need_step, needs_of}
use Rattle.quantizer.specs.Replacing.{Shares, pair_at, shares_of, tile_shares, spread_step, spread_of}
use Rattle.quantizer.specs.Goods.{AllGood}
use Rattle.quantizer.proofs.Goods.{zeros-good, bump-good}
use Rattle.quantizer.specs.Lengths.{Wide}
use Rattle.quantizer.proofs.Lengths.{tile-wide, length-distances, length-tile_needs, length_needs, shares-wide, spread_wide}
use Rattle.quantizer.proofs.Indexes.{shown-subs, place-placed, part-nearest-two}

module _ (J : Job) (pal : List Float) (n have : ℕ) (S : Shown J pal n have) (t : ℕ) (l : t < J.T) where
  -- ---- a tile's distances, the least of them, and the second least
  to_each-good : (i : ℕ) → i < n → Good binary32 (dist_at (present_in J pal n have) (tile_at J t) J.weight i)
  to_each-good i m = dist-good (present_in J pal n have) (tile_at J t) J.weight (shown-present J pal n have S) (tile-counted J pal n have S t l) S.ready.weight i m

  pub fit-good : Good binary32 (fit_at J pal n have t).dist
  unfolding fit_at
  fit-good = least-good (dist_at (present_in J pal n have) (tile_at J t) J.weight) n to_each-good

  pub two_good : Good binary32 (two_at J pal n have t).dist × Good binary32 (two_at J pal n have t).second
  unfolding two_at
  two_good = two-all (Good binary32) (dist_at (present_in J pal n have) (tile_at J t) J.weight) n (inf-good binary32) to_each-good

  -- ---- a tile that goes to subpalette i
  module _ (i : ℕ) (m : i < n) where
    count-good : (k : ℕ) → k < length (tile_at J t).counts → T (positive (of_int binary32 (pos (get_or (tile_at J t).counts k 0))))
    count-good k o = count-positive binary32 (get_or (tile_at J t).counts k 0) (S.ready.low t k l o) (omega (arith, S.ready.high t k l o, S.ready.sizes.small))

    gaps-good : (k : ℕ) → k < length (tile_at J t).counts → (j : ℕ) → j < length (sub_of pal J.C have i) / 3 → Good binary32 (gap (sub_of pal J.C have i) (colour_at (tile_at J t).colours k) J.weight j)
    gaps-good k o j p =
        let F = sub-finite (present_in J pal n have) (shown-present J pal n have S) i m in
        gap-good (sub_of pal J.C have i) J.weight F S.ready.weight (colour_at (tile_at J t).colours k)
        (tile-real (sub_of pal J.C have i) J.weight F S.ready.weight (tile_at J t) (tile-counted J pal n have S t l) k o) j p

    pub tile_needs-good : (d : List Float) → length d ≡ places → AllGood d → (k : ℕ) → k ≤ length (tile_at J t).counts → AllGood (tile_needs (sub_of pal J.C have i) (tile_at J t) J.weight (i * J.C) d k)
    unfolding tile_needs
    tile_needs-good d e g zero h = g
    tile_needs-good d e g (suc k) h =
        let s = sub_of pal J.C have i in
        let q = colour_at (tile_at J t).colours k in
        let p = place-placed J pal n have S i (nearest_of s q J.weight).index m (part-nearest J pal n have S i m q) in
        bump-good (tile_needs s (tile_at J t) J.weight (i * J.C) d k) (i * J.C + (nearest_of s q J.weight).index) (term_of s (tile_at J t) J.weight k)
        (omega (arith, p, length-tile_needs s (tile_at J t) J.weight (i * J.C) d k))
        (times-good binary32 _ _ (least-good (gap s q J.weight) (length s / 3) (gaps-good k h)) (count-good k h))
        (tile_needs-good d e g k (omega arith))

    pub tile_shares-good : (A : Shares) → Wide A places → AllGood A.had × AllGood A.lost → (k : ℕ) → k ≤ length (tile_at J t).counts
        → AllGood (tile_shares (sub_of pal J.C have i) (tile_at J t) J.weight (i * J.C) A k).had × AllGood (tile_shares (sub_of pal J.C have i) (tile_at J t) J.weight (i * J.C) A k).lost
    unfolding tile_shares
    tile_shares-good A W g zero h = g
    tile_shares-good A W g (suc k) h =
        let s = sub_of pal J.C have i in
        let q = colour_at (tile_at J t).colours k in
        let r = nearest_two_of s q J.weight in
        let B = tile_shares s (tile_at J t) J.weight (i * J.C) A k in
        let wide = tile-wide s (tile_at J t) J.weight (i * J.C) A places W k in
        let before = tile_shares-good A W g k (omega arith) in
        let p = place-placed J pal n have S i r.index m (part-nearest-two J pal n have S i m q) in
        let both = two-all (Good binary32) (gap s q J.weight) (length s / 3) (inf-good binary32) (gaps-good k h) in
        let f = of_int binary32 (pos (get_or (tile_at J t).counts k 0)) in (
          bump-good B.had (i * J.C + r.index) (mul binary32 r.dist f) (omega (arith, p, wide.had)) (times-good binary32 r.dist f both.0 (count-good k h)) before.0,
          bump-good B.lost (i * J.C + r.index) (mul binary32 r.second f) (omega (arith, p, wide.lost)) (times-good binary32 r.second f both.1 (count-good k h)) before.1,
        )

-- ---- seeding
pub distances-good : (J : Job) (pal : List Float) (n : ℕ) → Shown J pal n 1 → (t : ℕ) → t ≤ J.T → AllGood (distances_of J pal n t)
unfolding walk distance_step
distances-good J pal n S zero h = zeros-good 16
distances-good J pal n S (suc t) h = either (is_empty J t) (distances-good J pal n S t (omega arith))
  where
    either : (b : Bool) → AllGood (distances_of J pal n t) → AllGood (cond b (distances_of J pal n t) (bump (distances_of J pal n t) (fit_at J pal n 1 t).index (fit_at J pal n 1 t).dist))
    either true g = g
    either false g = bump-good (distances_of J pal n t) (fit_at J pal n 1 t).index (fit_at J pal n 1 t).dist (omega (arith, winner-below J pal n 1 S t, shown-subs J pal n 1 S, length-distances J pal n t)) (fit-good J pal n 1 S t h) g

-- ---- growing
pub needs_good : (J : Job) (pal : List Float) (have : ℕ) → Shown J pal J.S have → (t : ℕ) → t ≤ J.T → AllGood (needs_of J pal have t)
unfolding walk need_step
needs_good J pal have S zero h = zeros-good places
needs_good J pal have S (suc t) h =
    tile_needs-good J pal J.S have S t h (winner J pal J.S have t) (winner-below J pal J.S have S t) (needs_of J pal have t) (length_needs J pal have t)
    (needs_good J pal have S t (omega arith)) (length (tile_at J t).counts) (le_refl _)

-- ---- replacing
module _ (J : Job) (pal : List Float) (S : Shown J pal J.S J.C) where
  pub shares-good : (t : ℕ) → t ≤ J.T → AllGood (shares_of J pal t).had × AllGood (shares_of J pal t).lost
  unfolding walk
  shares-good zero h = (zeros-good 16, zeros-good 16)
  shares-good (suc t) h =
      let before = shares-good t (omega arith) in
      let wide = shares-wide J pal t in
      let r = pair_at J pal t in
      let good = two_good J pal J.S J.C S t h in
      let l : r.index < 16 = omega (arith, pair-below J pal J.S J.C S t, shown-subs J pal J.S J.C S) in (
        bump-good (shares_of J pal t).had r.index r.dist (omega (arith, wide.had)) good.0 before.0,
        bump-good (shares_of J pal t).lost r.index r.second (omega (arith, wide.lost)) good.1 before.1,
      )

  pub spread_good : (owner : ℕ → ℕ) → ((t : ℕ) → t < J.T → owner t < J.S) → (t : ℕ) → t ≤ J.T → AllGood (spread_of J pal owner t).had × AllGood (spread_of J pal owner t).lost
  unfolding walk spread_step
  spread_good owner o zero h = (zeros-good places, zeros-good places)
  spread_good owner o (suc t) h =
      tile_shares-good J pal J.S J.C S t h (owner t) (o t h) (spread_of J pal owner t) (spread_wide J pal owner t) (spread_good owner o t (omega arith)) (length (tile_at J t).counts) (le_refl _)

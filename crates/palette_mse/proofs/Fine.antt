-- The sum in f64 is finite, has no sign, and is at most 1188 for each pixel counted; and the error is an f32 that is finite, has no sign and is at most 1188.
-- Assumes nothing.
use Prim.Native.Nat.{ℕ, zero, suc, ◌+◌, ◌*◌, ◌≤◌, ◌<◌, zero-le}
use mathlib.Core.Path.{◌≡◌, subst, subst⁻¹}
use mathlib.Core.Bool.{Bool, true, false, cond}
use mathlib.Core.Logic.{inl, inr}
use mathlib.Core.List.{List}
use native.Mathlib.Nat.{le_refl, mul-add, eq-zero-or-pos}
use native.Mathlib.Omega.{arith}
use lib.ListN.{get_or, length}
use lib.IntN.{pos}
use lib.Dec.{T, eqb, eqb→eq, ltb→lt, lit≤}
use lib.Ieee.{Float, nan, inf, fin, Format, binary32, binary64, add, mul, div, of_int, of_bits, round, up, down}
use lib.Ieee.Fits.{fits_widens}
use lib.Ieee.Bits.{of_bits-fits}
use lib.Ieee.Positive.{positive}
use borrow.Author.Tests.{eq-eqb, ne_eqb}
use Rattle.ieee.specs.Terms.{plus, Within, Good}
use Rattle.ieee.proofs.Plus.{round-plus}
use Rattle.ieee.proofs.Within.{whole-exact, add-whole, mul-whole, div-whole, value-within, int_value}
use Rattle.ieee.proofs.Goods.{add-good, times-good, count-positive}
use Rattle.ieee.specs.Narrow.{narrow_of}
use Rattle.ieee.proofs.Narrows.{narrow_within, narrow_good}
use Rattle.color.specs.Color.{colour_at, Sized}
use Rattle.color.proofs.Sizes.{bounded-finite, nth_sized, sized-real}
use Rattle.job.specs.Job.{Job, size_of, is_empty, most_tile_size}
use Rattle.job.proofs.Tiles.{counts-length, tile-three, tile-bounded}
use Rattle.palette.specs.Palette.{Tile, sub_of, nearest_of}
use Rattle.palette.proofs.Sums.{nearest-good}
use Rattle.palette.proofs.Near.{nearest-within}
use Rattle.palette_tile.specs.Tiles.{tile_at, winner, Shown}
use Rattle.palette_tile.proofs.Walks.{walk-keeps}
use Rattle.palette_tile.proofs.Present.{winner-below, part-some, part-bounded}
use Rattle.palette_mse.specs.declared.Tally.{Tally}
use Rattle.palette_mse.specs.Mse.{error_of, step_tally, tile_tally, tally_step, nothing, tally_of, mean_error, mse_of, Summed}

pub record Fine (a : Tally) (b : ℕ) : Type 0 where
  pub good : Good binary64 a.total
  pub size : Within a.total (1188 * a.count) 1
  pub few : a.count ≤ b

-- ---- a colour
step_fine : (a : Tally) (b : ℕ) (d : Float) (n : ℕ) → Fine a b → Good binary32 d → Within d 1188 1 → 1 ≤ n → n ≤ most_tile_size → b ≤ 1099511627776 → Fine (step_tally a (mul binary64 d (of_int binary64 (pos n))) n) (b + most_tile_size)
step_fine a b d n F g v lo hi B =
    record {
      good = add-good binary64 _ _ F.good (times-good binary64 d _ (record { fit = fits_widens d g.fit; pos = g.pos }) (count-positive binary64 n lo (omega arith)));
      size = subst⁻¹ (λ (z : ℕ). Within (add binary64 a.total (mul binary64 d (of_int binary64 (pos n)))) z 1) (mul-add 1188 a.count n)
          (add-whole binary64 a.total (mul binary64 d (of_int binary64 (pos n))) (1188 * a.count) (1188 * n) (omega (arith, F.few)) F.size
          (mul-whole binary64 d (of_int binary64 (pos n)) 1188 n (omega arith) v (value-within (of_int binary64 (pos n)) false n 1 (int_value binary64 n (omega arith)))));
      few = omega (arith, F.few);
    }

-- ---- a tile
module _ (s : List Float) (X : Tile) (w : Float) (R : Summed s X w) where
  pub target_sized : (k : ℕ) → k < length X.counts → Sized (colour_at X.colours k) 2
  target_sized k = nth_sized X.colours 2 (length X.counts) k R.bounded R.three

  pub near_good : (k : ℕ) → k < length X.counts → Good binary32 (nearest_of s (colour_at X.colours k) w).dist
  near_good k l = nearest-good s w (bounded-finite s 4 R.sub) R.weight (colour_at X.colours k) (sized-real (colour_at X.colours k) 2 (target_sized k l))

  tile_fine : (a : Tally) (b k : ℕ) → k ≤ length X.counts → b + most_tile_size * k ≤ 1099511627776 → Fine a b → Fine (tile_tally s X w a k) (b + most_tile_size * k)
  unfolding tile_tally
  tile_fine a b zero h B F = subst (Fine a) (none b) F
    where
      none : (b : ℕ) → b ≡ b + most_tile_size * 0
      none b = omega arith
  tile_fine a b (suc k) h B F =
      subst (Fine (step_tally (tile_tally s X w a k) (error_of s X w k) (get_or X.counts k 0))) (more b k)
      (step_fine (tile_tally s X w a k) (b + most_tile_size * k) (nearest_of s (colour_at X.colours k) w).dist (get_or X.counts k 0) (tile_fine a b k (omega arith) (omega arith) F)
      (near_good k h) (nearest-within s (colour_at X.colours k) w R.some R.sub (target_sized k h) R.weight R.heavy) (R.low k h) (R.high k h) (omega arith))
    where
      more : (b k : ℕ) → b + most_tile_size * k + most_tile_size ≡ b + most_tile_size * suc k
      more b k = omega arith

-- ---- a job
module _ (J : Job) (pal : List Float) (n have : ℕ) (S : Shown J pal n have) where
  pub summed : (t : ℕ) → t < J.T → (i : ℕ) → i < n → Summed (sub_of pal J.C have i) (tile_at J t) J.weight
  summed t l i m =
      record {
        some = part-some J pal n have S i m;
        sub = part-bounded J pal n have S i m;
        weight = S.ready.weight;
        heavy = S.ready.heavy;
        three = tile-three J S.ready t l;
        bounded = tile-bounded J S.ready t l;
        low = λ k v. S.ready.low t k l v;
        high = λ k v. omega (arith, S.ready.high t k l v, S.ready.sizes.small);
      }

  start : Fine nothing (most_tile_size * most_tile_size * 0)
  unfolding of_bits
  start = record { good = record { fit = of_bits-fits binary64 0; pos = tt }; size = lit≤ tt; few = lit≤ tt }

  looser : (a : Tally) (b d : ℕ) → b ≤ d → Fine a b → Fine a d
  looser a b d h F = record { good = F.good; size = F.size; few = omega (arith, F.few) }

  turn_fine : (t : ℕ) → t < J.T → (a : Tally) → Fine a (most_tile_size * most_tile_size * t) → Fine (tally_step J pal n have t a) (most_tile_size * most_tile_size * suc t)
  unfolding tally_step
  turn_fine t l a F = by (is_empty J t)
    where
      k : ℕ
      k = size_of J.tiles t

      by : (e : Bool) → Fine (cond e a (tile_tally (sub_of pal J.C have (winner J pal n have t)) (tile_at J t) J.weight a (size_of J.tiles t))) (most_tile_size * most_tile_size * suc t)
      by true = looser a (most_tile_size * most_tile_size * t) (most_tile_size * most_tile_size * suc t) (omega arith) F
      by false =
          looser _ (most_tile_size * most_tile_size * t + most_tile_size * size_of J.tiles t) (most_tile_size * most_tile_size * suc t) (omega (arith, S.ready.short t l, S.ready.sizes.small))
          (tile_fine (sub_of pal J.C have (winner J pal n have t)) (tile_at J t) J.weight (summed t l (winner J pal n have t) (winner-below J pal n have S t)) a (most_tile_size * most_tile_size * t) (size_of J.tiles t)
          (omega (arith, counts-length J S.ready t l)) (omega (arith, S.ready.short t l, S.ready.sizes.small, S.ready.sizes.tiles)) F)

  pub tally_fine : (t : ℕ) → t ≤ J.T → Fine (tally_of J pal n have t) (most_tile_size * most_tile_size * t)
  tally_fine = walk-keeps (λ t a. Fine a (most_tile_size * most_tile_size * t)) J.T (tally_step J pal n have) nothing start turn_fine

-- ---- the mean
div-plus : (f : Format) (x y : Float) (k : ℕ) → T (plus x) → Within x k 1 → T (positive y) → T (plus (div f x y))
unfolding div
div-plus f nan y k p v q = absurd v
div-plus f (inf s) y k p v q = absurd v
div-plus f (fin true m e) y k p v q = absurd p
div-plus f (fin false m e) nan k p v q = absurd q
div-plus f (fin false m e) (inf t) k p v q = absurd q
div-plus f (fin false m e) (fin true n d) k p v q = absurd q
div-plus f (fin false m e) (fin false n d) k p v q = each_case (eqb n 0) (eqb→eq n 0) (ltb→lt 0 n q)
  where
    no : (n : ℕ) → n ≡ 0 → 0 < n → ⊥
    no n e l = omega arith

    each_case : (z : Bool) → (T z → n ≡ 0) → 0 < n → T (plus (cond z (cond (eqb m 0) nan (inf false)) (round f false (m * up e * down d) (n * up d * down e))))
    each_case true h l = absurd (no n (h tt) l)
    each_case false h l = round-plus f (m * up e * down d) (n * up d * down e)

module _ (a : Tally) (b : ℕ) (B : b ≤ 1099511627776) (F : Fine a b) (N : a.count ≡ 0 → ⊥) where
  pub mean_plus : T (plus (div binary64 a.total (of_int binary64 (pos a.count))))
  mean_plus = div-plus binary64 a.total (of_int binary64 (pos a.count)) (1188 * a.count) F.good.pos F.size (count-positive binary64 a.count (omega arith) (omega (arith, F.few)))

  mean_size : Within (div binary64 a.total (of_int binary64 (pos a.count))) 1188 1
  mean_size = div-whole binary64 a.total 1188 a.count (omega arith) (omega (arith, F.few)) (lit≤ tt) F.size

-- ---- the error
pub record Error (x : Float) : Type 0 where
  pub good : Good binary32 x
  pub size : Within x 1188 1

no_error : Error (of_bits binary32 0)
unfolding of_bits
no_error = record { good = record { fit = of_bits-fits binary32 0; pos = tt }; size = zero-le }

mean_error_lem : (a : Tally) (b : ℕ) → b ≤ 1099511627776 → Fine a b → Error (mean_error a)
mean_error_lem a b B F = elim (eq-zero-or-pos a.count) [
  | inl z ↦ subst⁻¹ (λ (t : Bool). Error (cond t (of_bits binary32 0) (narrow_of (div binary64 a.total (of_int binary64 (pos a.count)))))) (eq-eqb a.count 0 z) no_error
  | inr p ↦
      subst⁻¹ (λ (t : Bool). Error (cond t (of_bits binary32 0) (narrow_of (div binary64 a.total (of_int binary64 (pos a.count)))))) (ne_eqb a.count 0 (λ e. no p e))
      (record {
        good = narrow_good _ (mean_plus a b B F (λ e. no p e));
        size = narrow_within _ 1188 1 (whole-exact binary32 1188 (lit≤ tt)) (mean_size a b B F (λ e. no p e));
      })
]
  where
    no : 0 < a.count → a.count ≡ 0 → ⊥
    no p e = omega arith

pub mse_error : (J : Job) (pal : List Float) (n have : ℕ) → Shown J pal n have → Error (mse_of J pal n have)
unfolding mse_of
mse_error J pal n have S = mean_error_lem (tally_of J pal n have J.T) (most_tile_size * most_tile_size * J.T) (omega (arith, S.ready.sizes.tiles)) (tally_fine J pal n have S J.T (le_refl J.T))

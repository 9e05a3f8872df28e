-- Sums of colours within k are within k times their number, and their mean is within k. Assumes nothing.
use Prim.Native.Nat.{ℕ, zero, suc, ◌+◌, ◌*◌, ◌^◌, ◌≤◌, ◌<◌}
use mathlib.Core.Path.{sym, subst}
use mathlib.Core.Bool.{false}
use native.Mathlib.Omega.{arith}
use native.Mathlib.Nat.{le_refl, mul-add, mul-suc, mul-le-mul_left}
use lib.Dec.{lit≤}
use lib.IntN.{pos}
use lib.Ieee.{Float, binary32, add, mul, of_int, of_bits}
use Rattle.ieee.specs.Terms.{Within}
use Rattle.ieee.proofs.Within.{add-whole, mul-whole, div-whole, value-within, int_value}
use Rattle.color.specs.declared.Oklab.{Oklab}
use Rattle.color.specs.Color.{black, plus_of, plus_times, over_of, sum_of, mean_of, Sized}

pub black-sized : (k : ℕ) → Sized black k
unfolding of_bits
black-sized k = record { sl = omega arith; sa = omega arith; sb = omega arith }

-- ---- one colour more
pub plus-sized : (x q : Oklab) (j k : ℕ) → j + k ≤ 2 ^ 24 → Sized x j → Sized q k → Sized (plus_of x q) (j + k)
plus-sized x q j k h X Q =
    record { sl = add-whole binary32 x.l q.l j k h X.sl Q.sl; sa = add-whole binary32 x.a q.a j k h X.sa Q.sa; sb = add-whole binary32 x.b q.b j k h X.sb Q.sb }

-- m pixels more of a colour within k
module _ (x q : Oklab) (k n m : ℕ) (M : m ≤ 2 ^ 24) (N : k * (n + m) ≤ 2 ^ 24) (X : Sized x (k * n)) (Q : Sized q k) where
  grown : (y z : Float) → Within y (k * n) 1 → Within z k 1 → Within (add binary32 y (mul binary32 z (of_int binary32 (pos m)))) (k * (n + m)) 1
  grown y z v w =
      let both : k * n + k * m ≤ 2 ^ 24 = omega (arith, mul-add k n m) in
      subst (λ (t : ℕ). Within (add binary32 y (mul binary32 z (of_int binary32 (pos m)))) t 1) (sym (mul-add k n m))
      (add-whole binary32 y _ (k * n) (k * m) both v
      (mul-whole binary32 z (of_int binary32 (pos m)) k m (omega arith) w (value-within (of_int binary32 (pos m)) false m 1 (int_value binary32 m M))))

  pub times-sized : Sized (plus_times x q m) (k * (n + m))
  times-sized = record { sl = grown x.l q.l X.sl Q.sl; sa = grown x.a q.a X.sa Q.sa; sb = grown x.b q.b X.sb Q.sb }

-- ---- the quotient
pub over_sized : (x : Oklab) (k n : ℕ) → 0 < n → n ≤ 2 ^ 24 → k ≤ 2 ^ 24 → Sized x (k * n) → Sized (over_of x n) k
over_sized x k n a b c X = record { sl = div-whole binary32 x.l k n a b c X.sl; sa = div-whole binary32 x.a k n a b c X.sa; sb = div-whole binary32 x.b k n a b c X.sb }

-- ---- the first n colours
module _ (c : ℕ → Oklab) (k n : ℕ) (N : k * n ≤ 2 ^ 24) (C : (i : ℕ) → i < n → Sized (c i) k) where
  pub sum-sized : (m : ℕ) → m ≤ n → Sized (sum_of c m) (k * m)
  unfolding sum_of
  sum-sized zero h = black-sized (k * zero)
  sum-sized (suc m) h =
      subst (Sized (plus_of (sum_of c m) (c m))) (sym (mul-suc k m))
      (plus-sized (sum_of c m) (c m) (k * m) k (omega (arith, mul-suc k m, mul-le-mul_left k h)) (sum-sized m (omega arith)) (C m h))

  pub mean_sized : 0 < n → n ≤ 2 ^ 24 → k ≤ 2 ^ 24 → Sized (mean_of c n) k
  mean_sized a b d = over_sized (sum_of c n) k n a b d (sum-sized n (le_refl n))

-- a mean of a job's colours
pub mean_within : (c : ℕ → Oklab) (n : ℕ) → 0 < n → n ≤ 8388608 → ((i : ℕ) → i < n → Sized (c i) 2) → Sized (mean_of c n) 2
mean_within c n a b h = mean_sized c 2 n (omega arith) h a (omega arith) (lit≤ tt)

-- A squared distance of finite colours is no NaN and has no sign; of bounded colours it is finite and bounded. Assumes nothing.
use Prim.Native.Nat.{ℕ, zero, suc, ◌+◌, ◌*◌, ◌^◌, ◌≤◌}
use mathlib.Core.Path.{sym}
use native.Mathlib.Omega.{arith}
use native.Mathlib.Nat.{le_trans, le_of_eq, one-mul, mul-le-mul_right}
use lib.Dec.{T, lit≤}
use lib.Ieee.{Float, binary32, sub, mul}
use lib.Ieee.Positive.{positive}
use Rattle.ieee.specs.Terms.{Good, Within}
use Rattle.ieee.proofs.Goods.{sub-real, square_good, add-good, scaled_good}
use Rattle.ieee.proofs.Within.{add-whole, sub-whole, mul-whole}
use Rattle.color.specs.declared.Oklab.{Oklab}
use Rattle.color.specs.Color.{sqdist_of, Real, Sized}

le_square : (n : ℕ) → n ≤ n * n
le_square zero = omega arith
le_square (suc n) = le_trans (le_of_eq (sym (one-mul (suc n)))) (mul-le-mul_right (suc n) (omega arith))

pub sqdist_good : (p q : Oklab) (w : Float) → Real p → Real q → T (positive w) → Good binary32 (sqdist_of p q w)
sqdist_good p q w P Q W =
    let f = binary32 in
    add-good f _ _ (square_good f _ (sub-real f _ _ P.rl Q.rl))
    (scaled_good f _ _ W (add-good f _ _ (square_good f _ (sub-real f _ _ P.ra Q.ra)) (square_good f _ (sub-real f _ _ P.rb Q.rb))))

-- components within a and within b, weight within k: the differences are within a + b
module _ (a b k : ℕ) (D : (a + b) * (a + b) + (a + b) * (a + b) ≤ 2 ^ 24) (S : (a + b) * (a + b) + k * ((a + b) * (a + b) + (a + b) * (a + b)) ≤ 2 ^ 24) where
  square_bound : (x y : Float) → Within x a 1 → Within y b 1 → Within (mul binary32 (sub binary32 x y) (sub binary32 x y)) ((a + b) * (a + b)) 1
  square_bound x y X Y =
      let d = sub-whole binary32 x y a b (le_trans (le_square (a + b)) (omega arith)) X Y in
      mul-whole binary32 _ _ (a + b) (a + b) (omega arith) d d

  pub sqdist_bound : (p q : Oklab) (w : Float) → Sized p a → Sized q b → Within w k 1 → Within (sqdist_of p q w) ((a + b) * (a + b) + k * ((a + b) * (a + b) + (a + b) * (a + b))) 1
  sqdist_bound p q w P Q W =
      let chroma = add-whole binary32 _ _ ((a + b) * (a + b)) ((a + b) * (a + b)) D (square_bound _ _ P.sa Q.sa) (square_bound _ _ P.sb Q.sb) in
      add-whole binary32 _ _ ((a + b) * (a + b)) (k * ((a + b) * (a + b) + (a + b) * (a + b))) S (square_bound _ _ P.sl Q.sl)
      (mul-whole binary32 _ _ k ((a + b) * (a + b) + (a + b) * (a + b)) (omega arith) W chroma)

-- a palette's colour and a job's: 36 + 16 * (36 + 36)
pub sqdist_within : (p q : Oklab) (w : Float) → Sized p 4 → Sized q 2 → Within w 16 1 → Within (sqdist_of p q w) 1188 1
sqdist_within = sqdist_bound 4 2 16 (lit≤ tt) (lit≤ tt)

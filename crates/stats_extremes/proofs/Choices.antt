-- `argmax_of` and `argmin_of` as one choice: of one value more the new one is taken where the order rises to it, for the greatest, and where it does not, for the least.
-- What is chosen is one of the values. Assumes nothing.
use Prim.Native.Nat.{ℕ, zero, suc, ◌≤◌, ◌<◌}
use mathlib.Core.Path.{◌≡◌, refl, subst⁻¹}
use mathlib.Core.Bool.{Bool, true, false, cond, beq}
use native.Mathlib.Omega.{arith}
use lib.Ieee.{Float}
use Rattle.ieee.specs.Terms.{tle}
use Rattle.stats_extremes.specs.Extremes.{argmax_of, argmin_of}

unfoldable pub chosen : Bool → (ℕ → Float) → ℕ → ℕ
chosen greatest d n = cond greatest (argmax_of d n) (argmin_of d n)

pub none : (greatest : Bool) (d : ℕ → Float) → 0 ≡ chosen greatest d 0
unfolding chosen argmax_of argmin_of
none true d = refl
none false d = refl

pub one_more : (greatest : Bool) (d : ℕ → Float) (n : ℕ)
    → chosen greatest d (suc n) ≡ cond (beq (tle (d (chosen greatest d n)) (d n)) greatest) n (chosen greatest d n)
unfolding chosen argmax_of argmin_of
one_more true d n = by (tle (d (argmax_of d n)) (d n))
  where
    by : (t : Bool) → cond t n (argmax_of d n) ≡ cond (beq t true) n (argmax_of d n)
    by true = refl
    by false = refl
one_more false d n = by (tle (d (argmin_of d n)) (d n))
  where
    by : (t : Bool) → cond t (argmin_of d n) n ≡ cond (beq t false) n (argmin_of d n)
    by true = refl
    by false = refl

cond_below : (t : Bool) (a b n : ℕ) → a < n → b < n → cond t a b < n
cond_below true a b n p q = p
cond_below false a b n p q = q

module _ (greatest : Bool) (d : ℕ → Float) where
  next-below : (n : ℕ) → chosen greatest d n < suc n → chosen greatest d (suc n) < suc n
  next-below n l =
      subst⁻¹ (λ (k : ℕ). k < suc n) (one_more greatest d n)
      (cond_below (beq (tle (d (chosen greatest d n)) (d n)) greatest) n (chosen greatest d n) (suc n) (omega arith) l)

  pub chosen_within : (n : ℕ) → chosen greatest d n ≤ n
  chosen_within zero = omega (arith, none greatest d)
  chosen_within (suc n) = omega (arith, next-below n (omega (arith, chosen_within n)))

  pub chosen_below : (n : ℕ) → 1 ≤ n → chosen greatest d n < n
  chosen_below zero h = absurd (omega arith)
  chosen_below (suc n) h = next-below n (omega (arith, chosen_within n))

pub max_below : (d : ℕ → Float) (n : ℕ) → 1 ≤ n → argmax_of d n < n
unfolding chosen
max_below = chosen_below true

pub min-below : (d : ℕ → Float) (n : ℕ) → 1 ≤ n → argmin_of d n < n
unfolding chosen
min-below = chosen_below false

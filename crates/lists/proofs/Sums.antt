-- Sums over the indexes below n: of two sequences, and of how often a test holds. Assumes nothing.
use mathlib.Core.Path.{◌≡◌, refl, ap}
use Prim.Native.Nat.{ℕ, zero, suc, ◌+◌, ◌≤◌, ◌<◌}
use native.Mathlib.Omega.{arith}
use native.Mathlib.Decide.{ℕ_discrete}
use mathlib.Core.Bool.{Bool, true, false, ◌&&◌}
use lib.Dec.{eqb}
use borrow.Author.Tests.{eq-eqb, ne_eqb}
use Rattle.lists.specs.Count.{hit}
use Rattle.lists.specs.Every.{sum}

pub sum_both : (f g : ℕ → ℕ) (n : ℕ) → sum (λ k. f k + g k) n ≡ sum f n + sum g n
unfolding sum
sum_both f g zero = refl
sum_both f g (suc n) = omega (arith, sum_both f g n)

-- ---- how often a test holds
pub hit_and : (s t : Bool) → t ≡ true → hit (s && t) ≡ hit s
hit_and true t e = ap hit e
hit_and false t e = refl

pub hit_and_not : (s t : Bool) → t ≡ false → hit (s && t) ≡ 0
unfolding hit
hit_and_not true t e = ap hit e
hit_and_not false t e = refl

hit-most : (b : Bool) → hit b ≤ 1
unfolding hit
hit-most true = omega arith
hit-most false = omega arith

-- no more often than there are indexes
pub holds_few : (f : ℕ → Bool) (n : ℕ) → sum (λ k. hit (f k)) n ≤ n
unfolding sum
holds_few f zero = omega arith
holds_few f (suc n) = omega (arith, holds_few f n, hit-most (f n))

-- of the indexes below n one is s, if s is below n
pub holds_once : (b : Bool) (s n : ℕ) → s < n → sum (λ k. hit (b && eqb s k)) n ≡ hit b
unfolding sum
holds_once b s zero h = absurd (omega arith)
holds_once b s (suc n) h = by (ℕ_discrete s n) (holds_once b s n)
  where
    none : (m : ℕ) → m ≤ s → sum (λ k. hit (b && eqb s k)) m ≡ 0
    none zero l = refl
    none (suc m) l = omega (arith, none m (omega arith), hit_and_not b (eqb s m) (ne_eqb s m (λ (e : s ≡ m). omega arith)))

    by : Dec (s ≡ n) → (s < n → sum (λ k. hit (b && eqb s k)) n ≡ hit b) → sum (λ k. hit (b && eqb s k)) n + hit (b && eqb s n) ≡ hit b
    by (yes e) ih = omega (arith, none n (omega arith), hit_and b (eqb s n) (eq-eqb s n e))
    by (no d) ih = omega (arith, ih (omega arith), hit_and_not b (eqb s n) (ne_eqb s n d))

-- How many samples have come up how often: after t draws of n samples, t % n of them t / n + 1 times and the others t / n times. Assumes nothing.
use mathlib.Core.Logic.{◌⊎◌, inl, inr}
use mathlib.Core.Path.{◌≡◌, refl, ◌∙◌}
use Prim.Native.Nat.{ℕ, zero, suc, ◌+◌, ◌-◌, ◌*◌, ◌/◌, ◌%◌, ◌≤◌, ◌<◌}
use native.Mathlib.Nat.{mul-suc, mul-zero, not-suc-le-zero, div-add-mod'}
use native.Mathlib.Decide.{ℕ_discrete}
use native.Mathlib.Omega.{arith}
use lib.Dec.{eqb}
use Rattle.lists.specs.Count.{hit, count}
use Rattle.lists.proofs.Counting.{hit_same, hit_other}
use Rattle.lists.specs.Every.{sum}
use Rattle.lists.specs.Firsts.{firsts, hits}
use Rattle.lists.proofs.Hits.{hits-suc}
use Rattle.cycle.specs.Cycle.{draw_at}
use Rattle.cycle.proofs.Rounds.{draw-below}
use Rattle.cycle.proofs.Even.{even, down_or_up}

-- ---- a sequence of numbers below n meets, in t values, the numbers below n t times in all

sum-zero : (n : ℕ) → sum (λ i. 0) n ≡ 0
unfolding sum
sum-zero zero = refl
sum-zero (suc n) = omega (arith, sum-zero n)

sum-add : (f g : ℕ → ℕ) (n : ℕ) → sum (λ i. f i + g i) n ≡ sum f n + sum g n
unfolding sum
sum-add f g zero = refl
sum-add f g (suc n) = omega (arith, sum-add f g n)

-- a number below n is one of those below n
sum_past : (x n : ℕ) → n ≤ x → sum (λ i. hit (eqb x i)) n ≡ 0
unfolding sum
sum_past x zero h = refl
sum_past x (suc n) h = omega (arith, sum_past x n (omega arith), hit_other x n (omega arith))

sum_one : (x n : ℕ) → x < n → sum (λ i. hit (eqb x i)) n ≡ 1
unfolding sum
sum_one x zero h = absurd (not-suc-le-zero h)
sum_one x (suc n) h = by (ℕ_discrete x n) (sum_one x n)
  where
    by : Dec (x ≡ n) → (x < n → sum (λ i. hit (eqb x i)) n ≡ 1) → sum (λ i. hit (eqb x i)) n + hit (eqb x n) ≡ 1
    by (yes e) ih = omega (arith, hit_same x n e, sum_past x n (omega arith))
    by (no d) ih = omega (arith, hit_other x n d, ih (omega arith))

hits-all : (f : ℕ → ℕ) (n t : ℕ) → ((k : ℕ) → f k < n) → sum (λ i. hits f i t) n ≡ t
unfolding firsts count
hits-all f n zero below = sum-zero n
hits-all f n (suc t) below =
    let parts : sum (λ i. hits f i (suc t)) n ≡ sum (λ i. hits f i t) n + sum (λ i. hit (eqb (f t) i)) n =
    (λ j. sum (λ i. hits-suc f i t j) n) ∙ sum-add (λ i. hits f i t) (λ i. hit (eqb (f t) i)) n in
    omega (arith, hits-all f n t below, sum_one (f t) n (below t))

-- ---- numbers that are all q or q + 1
module _ (g : ℕ → ℕ) (q : ℕ) where
  sum_of-two : (n : ℕ) → ((i : ℕ) → i < n → (g i ≡ q) ⊎ (g i ≡ q + 1)) → (sum g n ≡ q * n + hits g (q + 1) n) × (hits g q n + hits g (q + 1) n ≡ n)
  unfolding sum firsts count
  sum_of-two zero two = (omega (arith, mul-zero q), refl)
  sum_of-two (suc n) two = by (two n (omega arith)) (sum_of-two n (λ i h. two i (omega arith)))
    where
      by : (g n ≡ q) ⊎ (g n ≡ q + 1) → (sum g n ≡ q * n + hits g (q + 1) n) × (hits g q n + hits g (q + 1) n ≡ n)
          → (sum g n + g n ≡ q * suc n + hits g (q + 1) (suc n)) × (hits g q (suc n) + hits g (q + 1) (suc n) ≡ suc n)
      by (inl e) ih =
          let less : hit (eqb (g n) q) ≡ 1 = hit_same (g n) q e in
          let more : hit (eqb (g n) (q + 1)) ≡ 0 = hit_other (g n) (q + 1) (omega arith) in
          (omega (arith, ih.0, mul-suc q n, hits-suc g (q + 1) n), omega (arith, ih.1, hits-suc g q n, hits-suc g (q + 1) n))
      by (inr e) ih =
          let less : hit (eqb (g n) q) ≡ 0 = hit_other (g n) q (omega arith) in
          let more : hit (eqb (g n) (q + 1)) ≡ 1 = hit_same (g n) (q + 1) e in
          (omega (arith, ih.0, mul-suc q n, hits-suc g (q + 1) n), omega (arith, ih.1, hits-suc g q n, hits-suc g (q + 1) n))

-- ---- the samples
module _ (n seed t : ℕ) (some : 0 < n) where
  two-shares : (i : ℕ) → i < n → (hits (draw_at n seed) i t ≡ t / n) ⊎ (hits (draw_at n seed) i t ≡ t / n + 1)
  two-shares i h = elim (down_or_up n t (hits (draw_at n seed) i t) (even n seed i t h)) [ inl down ↦ inl down | inr up ↦ inr up.0 ]

  parts : (sum (λ i. hits (draw_at n seed) i t) n ≡ t / n * n + hits (λ i. hits (draw_at n seed) i t) (t / n + 1) n)
      × (hits (λ i. hits (draw_at n seed) i t) (t / n) n + hits (λ i. hits (draw_at n seed) i t) (t / n + 1) n ≡ n)
  parts = sum_of-two (λ i. hits (draw_at n seed) i t) (t / n) n two-shares

  pub share_up : hits (λ i. hits (draw_at n seed) i t) (t / n + 1) n ≡ t % n
  share_up = omega (arith, parts.0, hits-all (draw_at n seed) n t (draw-below n seed some), div-add-mod' t n)

  pub share_down : hits (λ i. hits (draw_at n seed) i t) (t / n) n ≡ n - t % n
  share_down = omega (arith, parts.1, share_up)

-- The draws are even: after t draws each of the n samples has been drawn t / n times, rounded down or up, and none waits past 2 * n - 1 draws.
-- Assumes nothing.
use mathlib.Core.List.{List}
use mathlib.Core.Logic.{◌⊎◌, inl, inr}
use mathlib.Core.Path.{◌≡◌, ap}
use Prim.Native.Nat.{ℕ, ◌+◌, ◌-◌, ◌*◌, ◌/◌, ◌%◌, ◌≤◌, ◌<◌}
use native.Mathlib.Nat.{div-add-mod', le-div_iff_mul-le, add-mul}
use native.Mathlib.Decide.{ℕ_discrete}
use native.Mathlib.Omega.{arith}
use lib.ListN.{take}
use Rattle.lists.specs.Count.{count}
use Rattle.lists.proofs.Counting.{count-take}
use Rattle.cycle.specs.Cycle.{draw_at, round_at}
use Rattle.cycle.proofs.Rounds.{round-size, round_once, draw_at_lem}
use Rattle.lists.specs.Firsts.{hits}
use Rattle.lists.proofs.Hits.{met, hits-is}
use Rattle.cycle.specs.Even.{Even}

pub even : (n seed i t : ℕ) → i < n → Even n t (hits (draw_at n seed) i t)
unfolding count
even n seed i t h =
    let pos : 0 < n = omega arith in
    let round : ℕ → List ℕ = λ j. (round_at n seed j).order in
    let rest : ℕ = count i (take (t % n) (round (t / n))) in
    let is : hits (draw_at n seed) i t ≡ t / n + rest = hits-is (draw_at n seed) n i round pos (draw_at_lem n seed pos) (round-size n seed) (round_once n seed i h) t in
    let one : rest ≤ 1 = omega (arith, count-take i (t % n) (round (t / n)), round_once n seed i h (t / n)) in
    record {
      least = omega arith;
      most = omega arith;
      exact = λ e. let none : rest ≡ 0 = ap (λ (r : ℕ). count i (take r (round (t / n)))) e in omega arith;
    }

-- the same, by cases: rounded down, or rounded up
pub down_or_up : (n t h : ℕ) → Even n t h → (h ≡ t / n) ⊎ ((h ≡ t / n + 1) × (0 < t % n))
down_or_up n t h e = by (ℕ_discrete h (t / n)) (ℕ_discrete (t % n) 0)
  where
    by : Dec (h ≡ t / n) → Dec (t % n ≡ 0) → (h ≡ t / n) ⊎ ((h ≡ t / n + 1) × (0 < t % n))
    by (yes p) d = inl p
    by (no p) (yes z) = inl (e.exact z)
    by (no p) (no z) = inr (omega (arith, p, e.least, e.most), omega (arith, z))

-- ---- the wait

-- a count that is even over n grows in any 2 * n - 1 steps
grows : (n k a b : ℕ) → 0 < n → Even n k a → Even n (k + (2 * n - 1)) b → a < b
grows n k a b pos p q = by (ℕ_discrete (k % n) 0)
  where
    by : Dec (k % n ≡ 0) → a < b
    by (yes e) =
        let low : k / n + 1 ≤ (k + (2 * n - 1)) / n = (le-div_iff_mul-le pos).1 (omega (arith, div-add-mod' k n, add-mul (k / n) 1 n)) in
        omega (arith, p.exact e, q.least)
    by (no d) =
        let low : k / n + 2 ≤ (k + (2 * n - 1)) / n = (le-div_iff_mul-le pos).1 (omega (arith, div-add-mod' k n, add-mul (k / n) 2 n)) in
        omega (arith, p.most, q.least)

-- of any 2 * n - 1 draws in a row, from draw k on, one is i
pub waits : (n seed i k : ℕ) → i < n → (m : ℕ) × (k ≤ m) × (m < k + (2 * n - 1)) × (draw_at n seed m ≡ i)
waits n seed i k h =
    met (draw_at n seed) i k (2 * n - 1)
    (grows n k (hits (draw_at n seed) i k) (hits (draw_at n seed) i (k + (2 * n - 1))) (omega arith) (even n seed i k h) (even n seed i (k + (2 * n - 1)) h))

-- The next of the least two has the property `RunnerUp`; where there is one distance it is the least's own index; and where
-- all are infinite it is 1. Over any distances that are no NaN and have no sign. Assumes nothing.
use Prim.Native.Nat.{ℕ, ◌≤◌, ◌<◌}
use mathlib.Core.Path.{◌≡◌, sym, ap}
use mathlib.Core.Bool.{false}
use mathlib.Core.Logic.{◌⊎◌, inl, inr}
use native.Mathlib.Nat.{eq-or-lt_of_le}
use native.Mathlib.Omega.{arith}
use lib.Ieee.{Float, inf, binary32}
use Rattle.ieee.specs.Terms.{Good}
use Rattle.ieee.proofs.Goods.{inf-good}
use Rattle.ieee.proofs.Ranks.{yes_lt, no_lt}
use Rattle.stats.specs.declared.Two.{Two}
use Rattle.stats.specs.Stats.{least_two}
use Rattle.stats.specs.Least.{RunnerUp}
use Rattle.stats.proofs.Runner.{Alone, Other, Runner}
use Rattle.stats.proofs.ScanTwo.{run-whole}
use Rattle.stats.proofs.Level.{level_one, level_more}

module _ (d : ℕ → Float) (n : ℕ) (G : (j : ℕ) → j < n → Good binary32 (d j)) (N : n < 18446744073709551616) where
  pub next_has : 2 ≤ n → RunnerUp d n (least_two d n)
  next_has h = by (run-whole d n G (omega arith) N).met
    where
      R : Runner d n 0 n (least_two d n)
      R = run-whole d n G (omega arith) N

      same : (k : ℕ) → 0 ≡ k → 1 ≡ k → ⊥
      same k p q = omega arith

      by : Alone 0 n (least_two d n) ⊎ Other d n (least_two d n) → RunnerUp d n (least_two d n)
      by (inl z) = absurd (same _ (z.each-only 0 (omega arith)) (z.each-only 1 (omega arith)))
      by (inr o) =
          record {
            within = o.within;
            other = o.other;
            dist = o.dist;
            none_less = λ (j : ℕ) (l : j < n) (f : j ≡ (least_two d n).index → ⊥). no_lt (d j) (least_two d n).second (G j l) R.good (omega (arith, R.to_each j l f, o.within));
            first = λ (j : ℕ) (l : j < (least_two d n).next) (f : j ≡ (least_two d n).index → ⊥).
                let k : j < n = omega (arith, o.within) in
                yes_lt (least_two d n).second (d j) R.good (G j k) (omega (arith, R.to_each j k f));
          }

  pub next_alone : n ≡ 1 → ((least_two d n).next ≡ (least_two d n).index) × ((least_two d n).second ≡ inf false)
  next_alone e = by (run-whole d n G (omega arith) N).met
    where
      by : Alone 0 n (least_two d n) ⊎ Other d n (least_two d n) → ((least_two d n).next ≡ (least_two d n).index) × ((least_two d n).second ≡ inf false)
      by (inl z) = (z.own, z.none)
      by (inr o) = absurd (o.other (omega (arith, o.within, (run-whole d n G (omega arith) N).lead.within)))

-- where all are infinite
pub infinite_first : (d : ℕ → Float) (n : ℕ) → 1 ≤ n → ((j : ℕ) → j < n → d j ≡ inf false) → (least_two d n).index ≡ 0
infinite_first d n h e = elim (eq-or-lt_of_le h) [
  | inl o ↦ ap (λ (b : Two). b.index) (level_one (inf false) (inf-good binary32) d n e (sym o))
  | inr l ↦ ap (λ (b : Two). b.index) (level_more (inf false) (inf-good binary32) d n e l)
]

pub infinite_next : (d : ℕ → Float) (n : ℕ) → 2 ≤ n → ((j : ℕ) → j < n → d j ≡ inf false) → (least_two d n).next ≡ 1
infinite_next d n h e = ap (λ (b : Two). b.next) (level_more (inf false) (inf-good binary32) d n e h)

-- The second of the least two: what holds of every value and of infinity holds of it. Assumes nothing.
use Prim.Native.Nat.{ℕ, zero, suc, ◌<◌}
use mathlib.Core.Path.{refl, subst⁻¹}
use mathlib.Core.Bool.{Bool, true, false}
use native.Mathlib.Omega.{arith}
use lib.Ieee.{Float, inf, binary32, lt}
use Rattle.ieee.specs.Terms.{Good}
use Rattle.ieee.proofs.Goods.{inf-good}
use Rattle.stats.specs.declared.Two.{Two}
use Rattle.stats.specs.Stats.{pick_two, led, followed, step_two, scan_two, least_two}
use Rattle.stats.proofs.Steps.{other-keeps}

module _ (P : Float → Type 0) where
  step-all : (b : Two) (n : ℕ) (x : Float) → P x → P b.dist → P b.second → P (step_two b n x).dist × P (step_two b n x).second
  step-all b n x p q r = by (lt x b.dist) (lt x b.second)
    where
      by : (t u : Bool) → let s = pick_two t (led b n x) (pick_two u (followed b n x) b) in P s.dist × P s.second
      by true u = (p, q)
      by false true = (q, p)
      by false false = (q, r)

  scan_all : (d : ℕ → Float) (n : ℕ) → P (inf false) → ((j : ℕ) → j < n → P (d j)) → P (scan_two d n).dist × P (scan_two d n).second
  unfolding scan_two
  scan_all d zero i h = (i, i)
  scan_all d (suc n) i h = let before = scan_all d n i (λ j l. h j (omega arith)) in step-all (scan_two d n) n (d n) (h n (omega arith)) before.0 before.1

  pub two-all : (d : ℕ → Float) (n : ℕ) → P (inf false) → ((j : ℕ) → j < n → P (d j)) → P (least_two d n).dist × P (least_two d n).second
  unfolding least_two
  two-all d n i h =
      let all = scan_all d n i h in
      (subst⁻¹ P (other-keeps (λ b. b.dist) n (scan_two d n) refl) all.0, subst⁻¹ P (other-keeps (λ b. b.second) n (scan_two d n) refl) all.1)

pub second-good : (d : ℕ → Float) (n : ℕ) → ((j : ℕ) → j < n → Good binary32 (d j)) → Good binary32 (least_two d n).second
second-good d n h = (two-all (Good binary32) d n (inf-good binary32) h).1

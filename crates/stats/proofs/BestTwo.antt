-- The least two: their first is `least_of`, and both are indexes of distances, whatever these are; and the least two of distances that agree.
-- Assumes nothing.
use Prim.Native.Nat.{ℕ, zero, suc, ◌≤◌, ◌<◌}
use mathlib.Core.Path.{◌≡◌, refl, sym, ap, subst⁻¹, ◌∙◌}
use mathlib.Core.Bool.{Bool, true, false, ◌&&◌}
use native.Mathlib.Omega.{arith}
use borrow.Author.Tests.{ltb-true}
use lib.Dec.{eqb, ltb}
use lib.Ieee.{Float, lt}
use Rattle.stats.specs.declared.Two.{Two}
use Rattle.stats.specs.Stats.{pick_near, step_near, least_of, pick_two, led, followed, step_two, scan_two, with_other, least_two}
use Rattle.stats.specs.declared.Near.{Near}
use Rattle.stats.proofs.Steps.{other-keeps}
use Rattle.stats.proofs.Scan.{least-below}

-- the first of the two
abbrev pub first_of : Two → Near
first_of b = record { index = b.index; dist = b.dist }

-- ---- a scan, whatever its tests say
step-first : (b : Two) (i : ℕ) (x : Float) → first_of (step_two b i x) ≡ step_near (first_of b) i x
step-first b i x = by (lt x b.dist) (lt x b.second)
  where
    by : (t u : Bool) → first_of (pick_two t (led b i x) (pick_two u (followed b i x) b)) ≡ pick_near t (record { index = i; dist = x }) (first_of b)
    by true u = refl
    by false true = refl
    by false false = refl

scan_first : (d : ℕ → Float) (n : ℕ) → first_of (scan_two d n) ≡ least_of d n
unfolding scan_two least_of
scan_first d zero = refl
scan_first d (suc n) = step-first (scan_two d n) n (d n) ∙ ap (λ (b : Near). step_near b n (d n)) (scan_first d n)

pub scan_below : (d : ℕ → Float) (n : ℕ) → 1 ≤ n → (scan_two d n).index < n
scan_below d n h = subst⁻¹ (λ (b : Near). b.index < n) (scan_first d n) (least-below d n h)

next-step : (b : Two) (n : ℕ) (x : Float) → b.index < suc n → b.next < suc n → (step_two b n x).next < suc n
next-step b n x i j = by (lt x b.dist) (lt x b.second)
  where
    by : (t u : Bool) → (pick_two t (led b n x) (pick_two u (followed b n x) b)).next < suc n
    by true u = i
    by false true = omega arith
    by false false = j

scan_next-below : (d : ℕ → Float) (n : ℕ) → 1 ≤ n → (scan_two d n).next < n
unfolding scan_two
scan_next-below d zero h = elim h [ ]
scan_next-below d (suc zero) h = next-step (scan_two d 0) 0 (d 0) (omega arith) (omega arith)
scan_next-below d (suc (suc m)) h = next-step (scan_two d (suc m)) (suc m) (d (suc m)) (omega (arith, scan_below d (suc m) (omega arith))) (omega (arith, scan_next-below d (suc m) (omega arith)))

-- only index 0 is its own next
lone_step : (b : Two) (n : ℕ) (x : Float) → (1 ≤ n → b.index < n) → (b.next ≡ b.index → b.index ≡ 0) → (step_two b n x).next ≡ (step_two b n x).index → (step_two b n x).index ≡ 0
lone_step b zero x l h = by (lt x b.dist) (lt x b.second)
  where
    by : (t u : Bool) → (pick_two t (led b 0 x) (pick_two u (followed b 0 x) b)).next ≡ (pick_two t (led b 0 x) (pick_two u (followed b 0 x) b)).index
        → (pick_two t (led b 0 x) (pick_two u (followed b 0 x) b)).index ≡ 0
    by true u e = refl
    by false true e = sym e
    by false false e = h e
lone_step b (suc n) x l h = by (lt x b.dist) (lt x b.second)
  where
    apart : {A : Type 0} → b.index ≡ suc n → A
    apart e = absurd (never b.index n (l (omega arith)) e)
      where
        never : (k n : ℕ) → k < suc n → k ≡ suc n → ⊥
        never k n p q = omega arith

    by : (t u : Bool) → (pick_two t (led b (suc n) x) (pick_two u (followed b (suc n) x) b)).next ≡ (pick_two t (led b (suc n) x) (pick_two u (followed b (suc n) x) b)).index
        → (pick_two t (led b (suc n) x) (pick_two u (followed b (suc n) x) b)).index ≡ 0
    by true u e = apart e
    by false true e = apart (sym e)
    by false false e = h e

pub scan_lone : (d : ℕ → Float) (n : ℕ) → (scan_two d n).next ≡ (scan_two d n).index → (scan_two d n).index ≡ 0
unfolding scan_two
scan_lone d zero e = refl
scan_lone d (suc n) e = lone_step (scan_two d n) n (d n) (scan_below d n) (scan_lone d n) e

pub scan_same : (d e : ℕ → Float) (n : ℕ) → ((j : ℕ) → j < n → d j ≡ e j) → scan_two d n ≡ scan_two e n
unfolding scan_two
scan_same d e zero f = refl
scan_same d e (suc n) f = ap (λ (b : Two). step_two b n (d n)) (scan_same d e n (λ j l. f j (omega arith))) ∙ ap (step_two (scan_two e n) n) (f n (omega arith))

-- ---- the least two
pub two-first : (d : ℕ → Float) (n : ℕ) → first_of (least_two d n) ≡ least_of d n
unfolding least_two
two-first d n = other-keeps first_of n (scan_two d n) refl ∙ scan_first d n

pub two-below : (d : ℕ → Float) (n : ℕ) → 1 ≤ n → (least_two d n).index < n
two-below d n h = subst⁻¹ (λ (b : Near). b.index < n) (two-first d n) (least-below d n h)

pub next-below : (d : ℕ → Float) (n : ℕ) → 1 ≤ n → (least_two d n).next < n
unfolding least_two
next-below d n h = by (eqb b.next b.index) (ltb 1 n) refl
  where
    b : Two
    b = scan_two d n

    by : (t u : Bool) → ltb 1 n ≡ u → (pick_two (t && u) (followed b 1 b.second) b).next < n
    by true true e = ltb-true 1 n e
    by true false e = scan_next-below d n h
    by false u e = scan_next-below d n h

pub two-same : (d e : ℕ → Float) (n : ℕ) → ((j : ℕ) → j < n → d j ≡ e j) → least_two d n ≡ least_two e n
unfolding least_two
two-same d e n f = ap (with_other n) (scan_same d e n f)

-- What a scan leaves is where a walk from hint 0 ends, so that a walk from any hint ends there. Over any distances that are no NaN and have
-- no sign. Assumes nothing.
use Prim.Native.Nat.{ℕ, zero, suc, ◌+◌, ◌-◌, ◌≤◌, ◌<◌}
use mathlib.Core.Path.{◌≡◌, refl, sym, ap, subst, subst⁻¹, ◌∙◌}
use mathlib.Core.Bool.{Bool, true, false}
use mathlib.Core.Logic.{◌⊎◌, inl, inr}
use native.Mathlib.Nat.{le_antisymm, lt_of_not-le}
use native.Mathlib.Numerals.{add-one}
use native.Mathlib.Omega.{arith}
use borrow.Author.Tests.{eqb-true, eqb-false, ne_eqb, ltb-true, ltb-false}
use lib.Dec.{eqb, ltb}
use lib.Ieee.{Float, inf, binary32, lt}
use Rattle.ieee.specs.Terms.{Good, key32, rank}
use Rattle.ieee.proofs.Ranks.{lt_yes, lt_no}
use Rattle.stats.specs.declared.Two.{Two}
use Rattle.stats.specs.Stats.{pick_two, led, followed, step_two, scan_two, with_other, least_two}
use Rattle.stats.proofs.Scan.{is-inf}
use Rattle.stats.proofs.Steps.{other_apart, other_few, other_named}
use Rattle.stats.proofs.BestTwo.{scan_below, scan_lone}
use Rattle.stats.proofs.Runner.{Alone, Other, Runner, run-start, run_skips, run_drops, run_follows, run_takes, runner_unique}

behind : (i k : ℕ) → 1 ≤ i → ((j : ℕ) → i ≤ j → j ≡ k → j ≡ 0) → k < i
behind i k h f = lt_of_not-le (λ (g : i ≤ k). no (f k g refl) g)
  where
    no : k ≡ 0 → i ≤ k → ⊥
    no e g = omega arith

-- a step that names the first other as soon as it is met
abbrev step_other : Two → ℕ → Float → Two
step_other b n d = pick_two (lt d b.dist) (led b n d) (pick_two (lt d b.second) (followed b n d) (pick_two (eqb b.next b.index) (followed b n b.second) b))

-- it comes to what a scan leaves with the first other named behind it
module _ (b : Two) (i : ℕ) (x : Float) (s : 1 ≤ i) (l : b.index < i) where
  later : (b.index ≡ i) → ⊥
  later e = omega arith

  settled : (y : Two) → (t u : Bool) → with_other (suc i) b ≡ y → with_other (suc i) (pick_two t (led b i x) (pick_two u (followed b i x) b)) ≡ pick_two t (led b i x) (pick_two u (followed b i x) y)
  settled y true u e = other_apart (suc i) (led b i x) later
  settled y false true e = other_apart (suc i) (followed b i x) (λ z. later (sym z))
  settled y false false e = e

  first_named : (b.next ≡ b.index → b.index ≡ 0) → with_other (suc i) (step_two b i x) ≡ step_other (with_other i b) i x
  first_named z = by (eqb b.next b.index) (ltb 1 i) refl refl
    where
      one : (i : ℕ) → 1 ≤ i → i ≤ 1 → i ≡ 1
      one i p q = le_antisymm q p

      behind : 1 < suc i
      behind = omega arith

      same : with_other i b ≡ b → with_other (suc i) b ≡ pick_two (eqb b.next b.index) (followed b i b.second) b → with_other (suc i) (step_two b i x) ≡ step_other (with_other i b) i x
      same e f = settled (pick_two (eqb b.next b.index) (followed b i b.second) b) (lt x b.dist) (lt x b.second) f ∙ sym (ap (λ (y : Two). step_other y i x) e)

      by : (t u : Bool) → eqb b.next b.index ≡ t → ltb 1 i ≡ u → with_other (suc i) (step_two b i x) ≡ step_other (with_other i b) i x
      by false u e f =
          let apart = eqb-false b.next b.index e in
          same (other_apart i b apart) (other_apart (suc i) b apart ∙ sym (ap (λ (t : Bool). pick_two t (followed b i b.second) b) e))
      by true false e f =
          let own = eqb-true b.next b.index e in
          same (other_few i b f)
          (other_named (suc i) b own behind ∙ ap (λ (k : ℕ). followed b k b.second) (sym (one i s (ltb-false 1 i f))) ∙ sym (ap (λ (t : Bool). pick_two t (followed b i b.second) b) e))
      by true true e f =
          let own = eqb-true b.next b.index e in
          settled (followed b 1 b.second) (lt x b.dist) (lt x b.second) (other_named (suc i) b own behind)
          ∙ sym (ap (λ (t : Bool). pick_two (lt x b.dist) (led b i x) (pick_two (lt x b.second) (followed b i x) (pick_two t (followed b i b.second) (followed b 1 b.second))))
          (ne_eqb 1 b.index (not-one (z own))))
          ∙ sym (ap (λ (y : Two). step_other y i x) (other_named i b own (ltb-true 1 i f)))
        where
          not-one : b.index ≡ 0 → 1 ≡ b.index → ⊥
          not-one p q = omega arith

module _ (d : ℕ → Float) (n : ℕ) (G : (j : ℕ) → j < n → Good binary32 (d j)) (H : 0 < n) (N : n < 18446744073709551616) where
  first_run : Runner d n 0 1 (with_other 1 (scan_two d 1))
  unfolding scan_two
  first_run = subst⁻¹ (Runner d n 0 1) (other_few 1 (scan_two d 1) refl) (by (lt (d 0) (inf false)) refl)
    where
      alone : Float → Two
      alone x = record { index = 0; dist = x; next = 0; second = inf false }

      began : Runner d n 0 1 (alone (d 0))
      began = run_skips d n 0 G H N 0 (alone (d 0)) (run-start d n 0 G H N) refl

      by : (t : Bool) → lt (d 0) (inf false) ≡ t → Runner d n 0 1 (pick_two t (alone (d 0)) (pick_two t (followed (alone (inf false)) 0 (d 0)) (alone (inf false))))
      by true p = began
      by false p = subst (λ (x : Float). Runner d n 0 1 (alone x)) (is-inf (d 0) (G 0 H) p) began

  module _ (i : ℕ) (b : Two) (R : Runner d n 0 i b) (l : i < n) (s : 1 ≤ i) where
    best_good : Good binary32 b.dist
    best_good = subst⁻¹ (Good binary32) R.lead.dist (G b.index R.lead.within)

    same : key32 b.dist ≡ key32 (d b.index)
    same = ap key32 R.lead.dist

    lower : b.index < i
    lower = behind i b.index s R.seen

    lower_next : b.next < i
    lower_next = behind i b.next s R.seen_next

    loses : lt (d i) b.dist ≡ false → rank (d b.index) b.index ≤ rank (d i) i
    loses p = omega (arith, lower, same, lt_no (d i) b.dist (G i l) best_good p)

    not_first : i ≡ 0 → ⊥
    not_first e = omega arith

    apart : b.index ≡ i → ⊥
    apart e = omega (arith, lower)

    -- not below the second: the first other than the best, at infinity, or one that comes after next
    left : lt (d i) b.dist ≡ false → lt (d i) b.second ≡ false → (v : Bool) → eqb b.next b.index ≡ v → Alone 0 i b ⊎ Other d n b
        → Runner d n 0 (i + 1) (pick_two v (followed b i b.second) b)
    left p q true e (inl z) =
        subst (λ (x : Float). Runner d n 0 (i + 1) (followed b i x))
        (is-inf (d i) (G i l) (subst (λ (x : Float). lt (d i) x ≡ false) z.none q) ∙ sym z.none)
        (run_follows d n 0 G H N i b R l (loses p) not_first (inl z))
    left p q true e (inr o) = absurd (o.other (eqb-true b.next b.index e))
    left p q false e (inl z) = absurd (eqb-false b.next b.index e z.own)
    left p q false e (inr o) = run_drops d n 0 G H N i b R l (loses p) o (omega (arith, lower_next, lt_no (d i) b.second (G i l) R.good q))

    next-run : Runner d n 0 (i + 1) (step_other b i (d i))
    next-run = by (lt (d i) b.dist) (lt (d i) b.second) refl refl
      where
        by : (t u : Bool) → lt (d i) b.dist ≡ t → lt (d i) b.second ≡ u
            → Runner d n 0 (i + 1) (pick_two t (led b i (d i)) (pick_two u (followed b i (d i)) (pick_two (eqb b.next b.index) (followed b i b.second) b)))
        by true u p q = run_takes d n 0 G H N i b R l (omega (arith, same, lower, lt_yes (d i) b.dist (G i l) best_good p)) apart
        by false true p q = run_follows d n 0 G H N i b R l (loses p) not_first (inr (omega (arith, lt_yes (d i) b.second (G i l) R.good q)))
        by false false p q = left p q (eqb b.next b.index) refl R.met

  scan_two_lem : (m : ℕ) → suc m ≤ n → Runner d n 0 (suc m) (with_other (suc m) (scan_two d (suc m)))
  unfolding scan_two
  scan_two_lem zero h = first_run
  scan_two_lem (suc m) h =
      let b = scan_two d (suc m) in
      subst (λ (k : ℕ). Runner d n 0 k (with_other (suc (suc m)) (scan_two d (suc (suc m))))) (add-one (suc m))
      (subst⁻¹ (Runner d n 0 (suc m + 1)) (first_named b (suc m) (d (suc m)) (omega arith) (scan_below d (suc m) (omega arith)) (scan_lone d (suc m)))
      (next-run (suc m) (with_other (suc m) b) (scan_two_lem m (omega arith)) h (omega arith)))

  pub run-whole : Runner d n 0 n (least_two d n)
  unfolding least_two
  run-whole = subst⁻¹ (λ (k : ℕ). Runner d n 0 k (with_other k (scan_two d k))) (one_more n H) (scan_two_lem (n - 1) (omega arith))
    where
      one_more : (n : ℕ) → 0 < n → n ≡ suc (n - 1)
      one_more n h = omega arith

  -- whatever the hint
  pub run_end : (hint i : ℕ) (b : Two) → i ≤ n → n ≤ i → Runner d n hint i b → b ≡ least_two d n
  run_end hint i b x y R = runner_unique d n G N hint 0 b (least_two d n) (subst (λ (j : ℕ). Runner d n hint j b) (le_antisymm x y) R) run-whole

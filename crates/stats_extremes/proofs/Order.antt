-- `argmax_of` is the last of the greatest and `argmin_of` the first of the least, in the total order, among values of which none is a NaN. One law for both (`chosen`):
-- for the greatest no value before the chosen one is above it, and each after is below; for the least each value before is above it, and none after is below.
-- Assumes nothing.
use Prim.Native.Nat.{ℕ, zero, suc, ◌≤◌, ◌<◌}
use mathlib.Core.Path.{◌≡◌, refl, sym, ap, subst, subst⁻¹, ◌∙◌}
use mathlib.Core.Bool.{Bool, true, false, not, cond, beq}
use mathlib.Core.Logic.{inl, inr}
use native.Mathlib.Nat.{eq-or-lt_of_le, le_of_suc-le-suc, le_refl}
use native.Mathlib.Omega.{arith}
use borrow.Author.Count.{below_none}
use borrow.Author.Tests.{leb-true, leb-false, le-leb, lt-leb}
use lib.Dec.{T, leb}
use lib.Ieee.{Float, binary32, fits, to_bits}
use Rattle.ieee.specs.Terms.{tle, key_of}
use Rattle.ieee.proofs.Cmp.{tle-is-key}
use Rattle.stats_extremes.specs.Extremes.{NoNan}
use Rattle.stats_extremes.proofs.Choices.{chosen, none, one_more, chosen_within, chosen_below}

-- ---- among the first m numbers k 0 .. k (m - 1)
record Best (greatest : Bool) (k : ℕ → ℕ) (m b : ℕ) : Type 0 where
  before : (j : ℕ) → j < b → leb (k j) (k b) ≡ greatest
  after : (j : ℕ) → j < m → b < j → leb (k b) (k j) ≡ not greatest

side : (P : Type 0) (j b : ℕ) → (j < b → P) → (j ≡ b → P) → (b < j → P) → P
side P j b under same above = by (leb j b) refl
  where
    by : (t : Bool) → leb j b ≡ t → P
    by true e = elim (eq-or-lt_of_le (leb-true j b e)) [ inl q ↦ same q | inr q ↦ under q ]
    by false e = above (leb-false j b e)

-- x stands to z as y does, where x stands so to y, or y to x not so
through : (g : Bool) (x y z : ℕ) → leb x y ≡ g → leb y z ≡ g → leb x z ≡ g
through true x y z p q = let l = leb-true x y p in let m = leb-true y z q in le-leb x z (omega arith)
through false x y z p q = let l = leb-false x y p in let m = leb-false y z q in lt-leb x z (omega arith)

back : (g : Bool) (x y z : ℕ) → leb y x ≡ not g → leb y z ≡ g → leb x z ≡ g
back true x y z p q = let l = leb-false y x p in let m = leb-true y z q in le-leb x z (omega arith)
back false x y z p q = let l = leb-true y x p in let m = leb-false y z q in lt-leb x z (omega arith)

tested : (t g b : Bool) → beq t g ≡ b → t ≡ cond b g (not g)
tested t g b e = subst (λ (c : Bool). t ≡ cond c g (not g)) e (by t g)
  where
    by : (t g : Bool) → t ≡ cond (beq t g) g (not g)
    by true true = refl
    by true false = refl
    by false true = refl
    by false false = refl

module _ (greatest : Bool) (k : ℕ → ℕ) (m b : ℕ) (h : Best greatest k m b) where
  next_best : (t : Bool) → beq (leb (k b) (k m)) greatest ≡ t → Best greatest k (suc m) (cond t m b)
  next_best true e =
      let to = tested (leb (k b) (k m)) greatest true e in
      record {
        before = λ j l.
            side (leb (k j) (k m) ≡ greatest) j b (λ s. through greatest (k j) (k b) (k m) (h.before j s) to)
            (λ s. subst⁻¹ (λ (i : ℕ). leb (k i) (k m) ≡ greatest) s to) (λ s. back greatest (k j) (k b) (k m) (h.after j l s) to);
        after = λ j l g. absurd (omega arith);
      }
  next_best false e =
      record {
        before = h.before;
        after = λ j l g. elim (eq-or-lt_of_le (le_of_suc-le-suc l)) [
          | inl s ↦ subst⁻¹ (λ (i : ℕ). leb (k b) (k i) ≡ not greatest) s (tested (leb (k b) (k m)) greatest false e)
          | inr s ↦ h.after j s g
        ];
      }

-- ---- the values
module _ (d : ℕ → Float) (n : ℕ) (F : (i : ℕ) → i < n → T (fits binary32 (d i))) (R : NoNan d n) where
  abbrev place : ℕ → ℕ
  place i = key_of binary32 (to_bits binary32 (d i))

  by_place : (i j : ℕ) → i < n → j < n → tle (d i) (d j) ≡ leb (place i) (place j)
  by_place i j k l = tle-is-key binary32 (d i) (d j) (F i k) (F j l) (R i k) (R j l)

  module _ (greatest : Bool) where
    best : (m : ℕ) → m ≤ n → Best greatest place m (chosen greatest d m)
    best zero h = record { before = λ j l. absurd (omega (arith, none greatest d)); after = below_none _ }
    best (suc m) h =
        let b = chosen greatest d m in
        subst⁻¹ (Best greatest place (suc m)) (one_more greatest d m)
        (next_best greatest place m b (best m (omega arith)) (beq (tle (d b) (d m)) greatest)
        (ap (λ (t : Bool). beq t greatest) (sym (by_place b m (omega (arith, chosen_within greatest d m)) h))))

    module _ (j : ℕ) (l : j < n) where
      abbrev b : ℕ
      b = chosen greatest d n

      pub chosen_before : j < b → tle (d j) (d b) ≡ greatest
      chosen_before s = by_place j b l (chosen_below greatest d n (omega arith)) ∙ (best n (le_refl n)).before j s

      pub chosen_after : b < j → tle (d b) (d j) ≡ not greatest
      chosen_after s = by_place b j (chosen_below greatest d n (omega arith)) l ∙ (best n (le_refl n)).after j l s

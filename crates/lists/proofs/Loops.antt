-- `every` and `sum` as a loop meets them: an index that passes or fails, one turn more, and the end. Assumes nothing.
use Prim.Native.Nat.{ℕ, zero, suc, ◌+◌, ◌≤◌, ◌<◌}
use mathlib.Core.Path.{◌≡◌, refl, sym, subst, subst⁻¹, ◌∙◌}
use mathlib.Core.Bool.{Bool, true, false, not, ◌&&◌}
use mathlib.Core.Logic.{◌⊎◌, inl, inr}
use native.Mathlib.Nat.{le_refl}
use native.Mathlib.Omega.{arith}
use native.Mathlib.Numerals.{add-one}
use lib.Dec.{ltb}
use borrow.Author.Tests.{not-true, not-false, ltb-true, ltb-false}
use Rattle.lists.proofs.Tests.{and_l, and_r, and_i, and_no_r}
use Rattle.lists.specs.Every.{every, sum}

last_or_below : (i n : ℕ) → i < suc n → (i ≡ n) ⊎ (i < n)
last_or_below i n h = by (ltb i n) refl
  where
    by : (b : Bool) → ltb i n ≡ b → (i ≡ n) ⊎ (i < n)
    by true e = inr (ltb-true i n e)
    by false e = inl (omega (arith, ltb-false i n e))

none_below : (i : ℕ) → i < 0 → ⊥
none_below i h = omega arith

module _ (f : ℕ → Bool) where
  pub every-at : (n i : ℕ) → every f n ≡ true → i < n → f i ≡ true
  unfolding every
  every-at zero i h l = absurd (none_below i l)
  every-at (suc n) i h l = by (last_or_below i n l) (λ k. every-at n i (and_l (every f n) (f n) h) k)
    where
      by : (i ≡ n) ⊎ (i < n) → (i < n → f i ≡ true) → f i ≡ true
      by (inl e) lower = subst (λ (k : ℕ). f k ≡ true) (sym e) (and_r (every f n) (f n) h)
      by (inr k) lower = lower k

  pub every-all : (n : ℕ) → ((i : ℕ) → i < n → f i ≡ true) → every f n ≡ true
  unfolding every
  every-all zero h = refl
  every-all (suc n) h = and_i (every f n) (f n) (every-all n (λ i l. h i (omega arith))) (h n (omega arith))

  pub every_fails : (n i : ℕ) (r : Bool) → r ≡ f i → not r ≡ true → i < n → false ≡ every f n
  unfolding every
  every_fails zero i r e h l = absurd (none_below i l)
  every_fails (suc n) i r e h l = by (last_or_below i n l) (λ k. every_fails n i r e h k)
    where
      by : (i ≡ n) ⊎ (i < n) → (i < n → false ≡ every f n) → false ≡ every f n && f n
      by (inl k) lower = sym (and_no_r (every f n) (f n) (subst (λ (z : ℕ). f z ≡ false) k (sym e ∙ not-true r h)))
      by (inr k) lower = rw (← lower k)

  pub every_more : (i : ℕ) (r : Bool) → every f i ≡ true → r ≡ f i → not r ≡ false → every f (i + 1) ≡ true
  unfolding every
  every_more i r a e h = rw (add-one i, a, ← e, not-false r h)

  pub every_end : (n i : ℕ) → every f i ≡ true → i ≤ n → n ≤ i → true ≡ every f n
  every_end n i a l h = subst (λ (k : ℕ). true ≡ every f k) (same i n l h) (sym a)
    where
      same : (i n : ℕ) → i ≤ n → n ≤ i → i ≡ n
      same i n l h = omega arith

pub sum_more : (f : ℕ → ℕ) (i at n : ℕ) → at ≡ sum f i → n ≡ f i → at + n ≡ sum f (i + 1)
unfolding sum
sum_more f i at n a e = rw (add-one i, a, e)

-- a sum over more is no less
pub sum_rises : (f : ℕ → ℕ) (n k : ℕ) → k ≤ n → sum f k ≤ sum f n
unfolding sum
sum_rises f zero zero h = omega arith
sum_rises f zero (suc k) h = absurd (omega arith)
sum_rises f (suc n) k h = by (last_or_below k (suc n) (omega arith)) (λ l. sum_rises f n k l)
  where
    by : (k ≡ suc n) ⊎ (k < suc n) → (k ≤ n → sum f k ≤ sum f n) → sum f k ≤ sum f n + f n
    by (inl e) ih = subst⁻¹ (λ (j : ℕ). sum f j ≤ sum f n + f n) e (le_refl (sum f n + f n))
    by (inr l) ih = omega (arith, ih (omega arith))

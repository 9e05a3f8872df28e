-- The laws of a loop with a test and a bound: whatever the test and the step are. Assumes nothing.
use mathlib.Core.Path.{◌≡◌, refl, sym, ap, ◌∙◌}
use mathlib.Core.Logic.{inl, inr}
use mathlib.Core.Bool.{Bool, true, false, true≢false}
use Prim.Native.Nat.{ℕ, zero, suc, ◌+◌, ◌-◌, ◌≤◌, ◌<◌}
use native.Mathlib.Nat.{zero-add, suc-add, sub-zero}
use native.Mathlib.Omega.{arith}
use Rattle.run_stages.specs.Whilst.{whilst, times}
use Rattle.run_calls.proofs.Cases.{by-test, decide}

module _ {ℓ} {A : Type ℓ} (t : A → Bool) (f : A → A) where
  pub whilst_step : (n : ℕ) (x : A) → t x ≡ true → whilst t f (suc n) x ≡ whilst t f n (f x)
  unfolding whilst
  whilst_step n x h = rw h

  pub whilst_stop : (n : ℕ) (x : A) → t x ≡ false → whilst t f n x ≡ x
  unfolding whilst
  whilst_stop zero x h = refl
  whilst_stop (suc n) x h = rw h

  pub times-step : (n : ℕ) (x : A) → t x ≡ true → times t f (suc n) x ≡ suc (times t f n (f x))
  unfolding times
  times-step n x h = rw h

  pub times_stop : (n : ℕ) (x : A) → t x ≡ false → times t f n x ≡ 0
  unfolding times
  times_stop zero x h = refl
  times_stop (suc n) x h = rw h

  pub whilst_zero : (x : A) → whilst t f 0 x ≡ x
  unfolding whilst
  whilst_zero x = refl

  pub times_zero : (x : A) → times t f 0 x ≡ 0
  unfolding times
  times_zero x = refl

  -- what each step keeps, the loop keeps
  pub whilst_keeps : (P : A → Type 0) → ((x : A) → P x → t x ≡ true → P (f x)) → (n : ℕ) (x : A) → P x → P (whilst t f n x)
  unfolding whilst
  whilst_keeps P k zero x h = h
  whilst_keeps P k (suc n) x h = by-test P (t x) (λ e. whilst_keeps P k n (f x) (k x h e)) (λ e. h)

  -- how a bound is divided makes no difference
  pub whilst_add : (n m : ℕ) (x : A) → whilst t f (n + m) x ≡ whilst t f m (whilst t f n x)
  unfolding whilst
  whilst_add zero m x = rw zero-add
  whilst_add (suc n) m x = elim (decide (t x)) [
    | inl h ↦ rw (suc-add, h) (whilst_add n m (f x))
    | inr h ↦ rw (whilst_stop (suc n + m) x h, whilst_stop (suc n) x h) (sym (whilst_stop m x h))
  ]

  pub times-add : (n m : ℕ) (x : A) → times t f (n + m) x ≡ times t f n x + times t f m (whilst t f n x)
  unfolding whilst times
  times-add zero m x = rw (zero-add m) (sym (zero-add (times t f m x)))
  times-add (suc n) m x = elim (decide (t x)) [
    | inl h ↦ rw (suc-add n m, h, suc-add) (ap suc (times-add n m (f x)))
    | inr h ↦ rw (times_stop (suc n + m) x h, h, times_stop m x h)
  ]

  -- a loop that ends where its test still holds has used its bound up
  pub times-all : (n : ℕ) (x : A) → t (whilst t f n x) ≡ true → times t f n x ≡ n
  unfolding times
  times-all zero x h = refl
  times-all (suc n) x h = elim (decide (t x)) [
    | inl e ↦ rw e (ap suc (times-all n (f x) (sym (ap t (whilst_step n x e)) ∙ h)))
    | inr e ↦ absurd (true≢false (sym h ∙ ap t (whilst_stop (suc n) x e) ∙ e))
  ]

  -- a number that every step raises by one
  pub times-grows : (g : A → ℕ) → ((x : A) → g (f x) ≡ g x + 1) → (n : ℕ) (x : A) → g (whilst t f n x) ≡ g x + times t f n x
  unfolding whilst times
  times-grows g k zero x = omega arith
  times-grows g k (suc n) x = elim (decide (t x)) [
    | inl h ↦ rw h (omega (arith, times-grows g k n (f x), k x))
    | inr h ↦ rw h (omega arith)
  ]

  -- ---- for a loop of the code: of n steps from x₀, m are made and x is reached. Its invariant, with what holds at its start, at a step and at its two ends
  pub record Far (n : ℕ) (x₀ : A) (m : ℕ) (x : A) : Type ℓ where
    pub within : m ≤ n
    pub rest : whilst t f (n - m) x ≡ whilst t f n x₀
    pub count : m + times t f (n - m) x ≡ times t f n x₀

  pub far_start : (n : ℕ) (x : A) → Far n x 0 x
  far_start n x = record { within = omega arith; rest = ap (λ (k : ℕ). whilst t f k x) (sub-zero n); count = zero-add _ ∙ ap (λ (k : ℕ). times t f k x) (sub-zero n) }

  pub far_step : {n : ℕ} {x₀ : A} {m : ℕ} {x : A} → Far n x₀ m x → m < n → t x ≡ true → Far n x₀ (m + 1) (f x)
  far_step {n} {x₀} {m} {x} F h e =
      let q : n - m ≡ suc (n - (m + 1)) = omega arith in
      record {
        within = omega arith;
        rest = sym (whilst_step (n - (m + 1)) x e) ∙ ap (λ (k : ℕ). whilst t f k x) (sym q) ∙ F.rest;
        count = omega (arith, times-step (n - (m + 1)) x e, ap (λ (k : ℕ). times t f k x) q, F.count);
      }

  pub far_stop : {n : ℕ} {x₀ : A} {m : ℕ} {x : A} → Far n x₀ m x → t x ≡ false → (x ≡ whilst t f n x₀) × (m ≡ times t f n x₀)
  far_stop {n} {x₀} {m} {x} F e = (sym (whilst_stop (n - m) x e) ∙ F.rest, omega (arith, times_stop (n - m) x e, F.count))

  pub far_end : {n : ℕ} {x₀ : A} {m : ℕ} {x : A} → Far n x₀ m x → n ≤ m → (x ≡ whilst t f n x₀) × (m ≡ times t f n x₀)
  far_end {n} {x₀} {m} {x} F h =
      let q : n - m ≡ 0 = omega arith in
      (sym (ap (λ (k : ℕ). whilst t f k x) q ∙ whilst_zero x) ∙ F.rest, omega (arith, ap (λ (k : ℕ). times t f k x) q ∙ times_zero x, F.count))

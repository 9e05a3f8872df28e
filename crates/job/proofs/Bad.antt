-- The colour of the first bad component is the first bad colour. Assumes nothing.
use Prim.Native.Nat.{ℕ, zero, suc, ◌+◌, ◌*◌, ◌/◌, ◌≤◌, ◌<◌}
use mathlib.Core.Path.{◌≡◌, refl, sym, subst, ◌∙◌}
use mathlib.Core.Bool.{Bool, true, false, not, cond, ◌&&◌, true≢false}
use mathlib.Core.List.{List, []}
use native.Mathlib.Omega.{arith}
use lib.Ieee.{Float}
use lib.ListN.{length}
use borrow.Author.Tests.{eqb-false}
use Rattle.lists.specs.Every.{every}
use Rattle.lists.proofs.Loops.{every-at}
use Rattle.job.specs.Checks.{first_not, component_fits, first_bad, components_fit}
use Rattle.job.specs.Bad.{bad_colour, FirstBad}
use Rattle.job.proofs.First.{first-bound}

-- no colours, none that is bad
pub none-bad : (m : Float) → components_fit m [] ≡ true
unfolding first_bad first_not
none-bad m = refl

-- ---- the first index at which a test fails
module _ (f : ℕ → Bool) where
  -- it passes at all before
  pub before-first : (n : ℕ) → every f (first_not f n) ≡ true
  unfolding first_not every
  before-first zero = refl
  before-first (suc n) = by (every f n) refl (f n) refl (before-first n)
    where
      by : (a : Bool) → every f n ≡ a → (b : Bool) → f n ≡ b → every f (first_not f n) ≡ true → every f (cond a (cond b (suc n) n) (first_not f n)) ≡ true
      by true e true g lower = rw (e, g)
      by true e false g lower = e
      by false e b g lower = lower

  -- and fails there
  pub first_fails : (n : ℕ) → (first_not f n ≡ n → ⊥) → f (first_not f n) ≡ false
  unfolding first_not
  first_fails zero h = absurd (h refl)
  first_fails (suc n) h = by (every f n) refl (f n) refl h (λ k. first_fails n k)
    where
      by : (a : Bool) → every f n ≡ a → (b : Bool) → f n ≡ b → (cond a (cond b (suc n) n) (first_not f n) ≡ suc n → ⊥)
          → ((first_not f n ≡ n → ⊥) → f (first_not f n) ≡ false) → f (cond a (cond b (suc n) n) (first_not f n)) ≡ false
      by true e true g k lower = absurd (k refl)
      by true e false g k lower = g
      by false e b g k lower = lower (λ z. true≢false (sym (subst (λ (m : ℕ). every f m ≡ true) z (before-first n)) ∙ e))

-- ---- a colour by its three components
module _ (m : Float) (xs : List Float) (h : components_fit m xs ≡ false) where
  abbrev at : ℕ
  at = first_bad m xs

  unlike : first_not (component_fits m xs) (length xs) ≡ length xs → ⊥
  unlike = eqb-false _ _ (unfold first_bad in h)

  fails_there : component_fits m xs at ≡ false
  unfolding first_bad
  fails_there = first_fails (component_fits m xs) (length xs) unlike

  fits-before : (i : ℕ) → i < at → component_fits m xs i ≡ true
  unfolding first_bad
  fits-before i l = every-at (component_fits m xs) at i (before-first (component_fits m xs) (length xs)) l

  inside : at < length xs
  unfolding first_bad
  inside = below (first_not (component_fits m xs) (length xs)) (length xs) (first-bound (component_fits m xs) (length xs)) unlike
    where
      below : (i n : ℕ) → i ≤ n → (i ≡ n → ⊥) → i < n
      below i n l u = omega arith

  -- it is one of its colour's three
  one_of_three : (i : ℕ) → (i ≡ 3 * (i / 3) → ⊥) → (i ≡ 3 * (i / 3) + 1 → ⊥) → (i ≡ 3 * (i / 3) + 2 → ⊥) → ⊥
  one_of_three i a b c = omega arith

  bad-there : bad_colour m xs (at / 3) ≡ true
  bad-there = by _ refl _ refl _ refl
    where
      not_at : (i : ℕ) → component_fits m xs i ≡ true → at ≡ i → ⊥
      not_at i e z = true≢false (sym e ∙ subst (λ (k : ℕ). component_fits m xs k ≡ false) z fails_there)

      by : (a : Bool) → component_fits m xs (3 * (at / 3)) ≡ a → (b : Bool) → component_fits m xs (3 * (at / 3) + 1) ≡ b
          → (c : Bool) → component_fits m xs (3 * (at / 3) + 2) ≡ c → not (a && (b && c)) ≡ true
      by true ea true eb true ec = absurd (one_of_three at (not_at _ ea) (not_at _ eb) (not_at _ ec))
      by true ea true eb false ec = refl
      by true ea false eb c ec = refl
      by false ea b eb c ec = refl

  good-before : (i : ℕ) → i < at / 3 → bad_colour m xs i ≡ false
  good-before i l = rw (fits-before (3 * i) (omega arith), fits-before (3 * i + 1) (omega arith), fits-before (3 * i + 2) (omega arith))

  pub first_bad-colour : FirstBad m xs (at / 3)
  first_bad-colour = record { there = omega (arith, inside); bad = bad-there; before = good-before }

-- Going by the cases of a test. A known test is an equation, `t ≡ true`: that is what a branch of the code hands over, and what `rw` uses. Assumes nothing.
use mathlib.Core.Path.{◌≡◌, refl}
use Prim.Native.Nat.{ℕ, ◌≤◌}
use native.Mathlib.Omega.{arith}
use borrow.Author.Tests.{ne_eqb}
use lib.Dec.{eqb}
use mathlib.Core.Logic.{◌⊎◌, inl, inr}
use mathlib.Core.Bool.{Bool, true, false, cond}
use mathlib.Core.List.{List, [], ◌∷◌}
use Rattle.run_stages.specs.State.{beside}

-- what holds of each branch, given its side of the test, holds of the `cond`
pub by-test {ℓ} : {A : Type ℓ} (P : A → Type 0) (t : Bool) {x y : A} → (t ≡ true → P x) → (t ≡ false → P y) → P (cond t x y)
by-test P true f g = f refl
by-test P false f g = g refl

pub both {ℓ} : {A : Type ℓ} (P : A → Type 0) (t : Bool) {x y : A} → P x → P y → P (cond t x y)
both P true a b = a
both P false a b = b

pub decide : (t : Bool) → (t ≡ true) ⊎ (t ≡ false)
decide true = inl refl
decide false = inr refl

-- ---- tables by stage: 0, 1, 2 and 4 have a value of their own
abbrev pub rows {ℓ} : {A : Type ℓ} → A → A → A → A → List (ℕ × A)
rows a0 a1 a2 a4 = (0, a0) ∷ (1, a1) ∷ (2, a2) ∷ (4, a4) ∷ []

-- what holds of each value holds of the stage's
pub all-stages {ℓ} : {A : Type ℓ} (P : A → Type 0) (k : ℕ) {a0 a1 a2 a4 e : A} → P a0 → P a1 → P a2 → P a4 → P e → P (beside k (rows a0 a1 a2 a4) e)
unfolding beside
all-stages P k p0 p1 p2 p4 p = both P (eqb k 0) p0 (both P (eqb k 1) p1 (both P (eqb k 2) p2 (both P (eqb k 4) p4 p)))

-- at a known stage. (`rw` by `s.stage ≡ 0` itself rewrites inside s, which is written out field by field.)
module _ {ℓ} {A : Type ℓ} (k : ℕ) (a0 a1 a2 a4 e : A) where
  pub stage0 : k ≡ 0 → beside k (rows a0 a1 a2 a4) e ≡ a0
  unfolding beside
  stage0 h = rw h

  pub stage1 : k ≡ 1 → beside k (rows a0 a1 a2 a4) e ≡ a1
  unfolding beside
  stage1 h = rw h

  pub stage2 : k ≡ 2 → beside k (rows a0 a1 a2 a4) e ≡ a2
  unfolding beside
  stage2 h = rw h

  pub stage4 : k ≡ 4 → beside k (rows a0 a1 a2 a4) e ≡ a4
  unfolding beside
  stage4 h = rw h

  pub stage-other : (k ≡ 0 → ⊥) → (k ≡ 1 → ⊥) → (k ≡ 2 → ⊥) → (k ≡ 4 → ⊥) → beside k (rows a0 a1 a2 a4) e ≡ e
  unfolding beside
  stage-other n0 n1 n2 n4 = rw (ne_eqb k 0 n0, ne_eqb k 1 n1, ne_eqb k 2 n2, ne_eqb k 4 n4)

  pub stage-past : 5 ≤ k → beside k (rows a0 a1 a2 a4) e ≡ e
  stage-past h = stage-other (λ (e : k ≡ 0). omega arith) (λ (e : k ≡ 1). omega arith) (λ (e : k ≡ 2). omega arith) (λ (e : k ≡ 4). omega arith)

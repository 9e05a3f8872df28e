-- Walks over tiles: what holds of each step holds after all of them; and a loop that walks, from its start to its end, whatever its step. Assumes nothing.
use Prim.Native.Nat.{ℕ, zero, suc, ◌+◌, ◌≤◌, ◌<◌}
use mathlib.Core.Path.{◌≡◌, sym, ap, subst⁻¹, ◌∙◌}
use native.Mathlib.Nat.{le_antisymm}
use native.Mathlib.Numerals.{add-one}
use native.Mathlib.Omega.{arith}
use Rattle.palette_tile.specs.Walk.{walk}

-- what each step of T keeps, the walk keeps
pub walk-keeps : {A : Type 0} (P : ℕ → A → Type 0) (T : ℕ) (step : ℕ → A → A) (first : A) → P 0 first → ((t : ℕ) → t < T → (a : A) → P t a → P (suc t) (step t a)) → (t : ℕ) → t ≤ T → P t (walk step first t)
unfolding walk
walk-keeps P T step first p more zero h = p
walk-keeps P T step first p more (suc t) h = more t h (walk step first t) (walk-keeps P T step first p more t (omega arith))

-- ---- a loop that holds what the walk over the first t of T tiles leaves
pub record Walked {A : Type 0} (T : ℕ) (step : ℕ → A → A) (first now : A) (t : ℕ) : Type 0 where
  pub within : t ≤ T
  pub is : now ≡ walk step first t

pub walked_start : {A : Type 0} {T : ℕ} {step : ℕ → A → A} {first now : A} → now ≡ first → Walked T step first now 0
unfolding walk
walked_start e = record { within = omega arith; is = e }

module _ {A : Type 0} {T : ℕ} {step : ℕ → A → A} {first now : A} {t : ℕ} (W : Walked T step first now t) where
  pub walked_more : t < T → {next : A} → next ≡ step t now → Walked T step first next (t + 1)
  unfolding walk
  walked_more l e = record { within = omega arith; is = e ∙ ap (step t) W.is ∙ sym (ap (walk step first) (add-one t)) }

  pub walked_end : T ≤ t → now ≡ walk step first T
  walked_end h = W.is ∙ ap (walk step first) (le_antisymm W.within h)

  -- what holds of the walk holds of what the loop holds
  pub walked_has : (P : ℕ → A → Type 0) → ((t : ℕ) → t ≤ T → P t (walk step first t)) → P t now
  walked_has P p = subst⁻¹ (P t) W.is (p t W.within)

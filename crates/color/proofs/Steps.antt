-- The code's sums follow the definitions: one colour more, at `i + 1`. Assumes nothing.
use Prim.Native.Nat.{ℕ, ◌+◌, ◌≤◌}
use mathlib.Core.Path.{◌≡◌, refl, ap, sym, ◌∙◌}
use native.Mathlib.Numerals.{add-one}
use native.Mathlib.Nat.{le_antisymm}
use Rattle.color.specs.declared.Oklab.{Oklab}
use Rattle.color.specs.Color.{black, plus_of, over_of, sum_of, mean_of}

module _ (c : ℕ → Oklab) where
  pub sum-none : black ≡ sum_of c 0
  unfolding sum_of
  sum-none = refl

  pub sum_more : (i : ℕ) (x q r : Oklab) → x ≡ sum_of c i → q ≡ c i → r ≡ plus_of x q → r ≡ sum_of c (i + 1)
  unfolding sum_of
  sum_more i x q r h e f = f ∙ ap (plus_of x) e ∙ ap (λ (y : Oklab). plus_of y (c i)) h ∙ sym (ap (sum_of c) (add-one i))

  pub mean_done : (n i : ℕ) (x r : Oklab) → i ≤ n → n ≤ i → x ≡ sum_of c i → r ≡ over_of x n → r ≡ mean_of c n
  mean_done n i x r a b h e = e ∙ ap (λ (y : Oklab). over_of y n) (h ∙ ap (sum_of c) (le_antisymm a b))

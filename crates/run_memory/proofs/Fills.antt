-- A list written from the front: what stands before i is what is wanted. Assumes nothing.
use Prim.Native.Nat.{ℕ, ◌+◌, ◌≤◌, ◌<◌}
use mathlib.Core.Path.{◌≡◌, sym, ◌∙◌}
use mathlib.Core.List.{List, ◌∷◌, ◌++◌}
use native.Mathlib.Omega.{arith}
use native.Mathlib.Numerals.{add-one}
use lib.ListN.{length, get_or, set, take}
use lib.Seq.{take-suc, take-suc-set, take_all}

module _ {A : Type 0} (d : A) where
  -- one place more of a copy
  pub copy_more : (from to : List A) (i : ℕ) → length to ≡ length from → i < length from → take i to ≡ take i from → take (i + 1) (set to i (get_or from i d)) ≡ take (i + 1) from
  copy_more from to i e l h = rw (add-one i, take-suc-set to i (get_or from i d) (omega arith), h, take-suc from i d l)

  pub copied : (from to : List A) (i : ℕ) → length to ≡ length from → length from ≤ i → take i to ≡ take i from → to ≡ from
  copied from to i e l h = sym (take_all i to (omega arith)) ∙ h ∙ take_all i from l

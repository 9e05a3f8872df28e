-- How often a number stands in a list, what a permutation is, and a list with two items exchanged. Definitions only. Assumes nothing.
use Rattle.std.specs.Prelude.{Bool, true, false, List, [], ◌∷◌, ◌≡◌, ℕ, ◌+◌, eqb, length, get_or, set}

-- 1 where a test holds, else 0
unfoldable pub hit : Bool → ℕ
hit true = 1
hit false = 0

-- the number of items of xs that are v
unfoldable pub count : ℕ → List ℕ → ℕ
count v [] = 0
count v (x ∷ xs) = hit (eqb x v) + count v xs

-- xs has the items of ys, each as often, in any order
pub record Permutation (xs ys : List ℕ) : Type 0 where
  pub size : length xs ≡ length ys
  pub counts : (v : ℕ) → count v xs ≡ count v ys

-- xs with its items at i and j exchanged
unfoldable pub swapped : ℕ → ℕ → List ℕ → List ℕ
swapped i j xs = set (set xs i (get_or xs j 0)) j (get_or xs i 0)

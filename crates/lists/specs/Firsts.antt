-- The first values of a sequence as a list, and how often a number stands among them. Definitions only. Assumes nothing.
use Rattle.std.specs.Prelude.{List, [], ◌∷◌, ◌++◌, ℕ, zero, suc}
use Rattle.lists.specs.Count.{count}

-- f 0, f 1 .. f (t - 1)
unfoldable pub firsts : (ℕ → ℕ) → ℕ → List ℕ
firsts f zero = []
firsts f (suc t) = firsts f t ++ (f t ∷ [])

-- 0, 1 .. n - 1
abbrev pub up_to : ℕ → List ℕ
up_to n = firsts (λ k. k) n

-- the number of k < t with f k = v
abbrev pub hits : (ℕ → ℕ) → ℕ → ℕ → ℕ
hits f v t = count v (firsts f t)

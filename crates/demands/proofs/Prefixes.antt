-- The first t of more values of a sequence are its first t values. Assumes nothing.
use Prim.Native.Nat.{ℕ, zero, suc, ◌+◌, ◌-◌, ◌≤◌}
use mathlib.Core.Path.{◌≡◌, sym, ap, ◌∙◌}
use mathlib.Core.List.{List, [], ◌∷◌, ◌++◌, append-nil, append_assoc}
use native.Mathlib.Omega.{arith}
use lib.ListN.{take}
use lib.Seq.{take_at}
use Rattle.lists.specs.Firsts.{firsts}
use Rattle.lists.proofs.Hits.{length-firsts}

firsts_more : (f : ℕ → ℕ) (t k : ℕ) → firsts f (t + k) ≡ firsts f t ++ firsts (λ j. f (t + j)) k
unfolding firsts
firsts_more f t zero = let none : t + 0 ≡ t = omega arith in ap (firsts f) none ∙ sym (append-nil (firsts f t))
firsts_more f t (suc k) =
    ap (firsts f) (one_more t k)
    ∙ ap (λ (l : List ℕ). l ++ (f (t + k) ∷ [])) (firsts_more f t k)
    ∙ append_assoc (firsts f t) (firsts (λ j. f (t + j)) k) (f (t + k) ∷ [])
  where
    one_more : (t k : ℕ) → t + suc k ≡ suc (t + k)
    one_more t k = omega arith

pub take-firsts : (f : ℕ → ℕ) (t m : ℕ) → t ≤ m → take t (firsts f m) ≡ firsts f t
take-firsts f t m h = ap (λ (l : ℕ). take t (firsts f l)) (parted t m h) ∙ ap (take t) (firsts_more f t (m - t)) ∙ take_at (firsts f t) (firsts (λ j. f (t + j)) (m - t)) t (length-firsts f t)
  where
    parted : (t m : ℕ) → t ≤ m → m ≡ t + (m - t)
    parted t m h = omega arith

-- A part of a list, as the functions of this crate take it. Assumes nothing.
use Prim.Native.Nat.{ℕ, ◌+◌, ◌-◌}
use mathlib.Core.Path.{◌≡◌}
use mathlib.Core.List.{List}
use native.Mathlib.Omega.{arith}
use lib.ListN.{take, drop}

-- ---- a part from `a` on of n places
pub part-is : {A : Type 0} (xs : List A) (a n b m : ℕ) → a ≡ b → n ≡ m → take (a + n - a) (drop a xs) ≡ take m (drop b xs)
part-is xs a n b m p q = rw (back a n, p, q)
  where
    back : (a z : ℕ) → a + z - a ≡ z
    back a z = omega arith

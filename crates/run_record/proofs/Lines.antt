-- That no product in the table of the stages wraps. Assumes nothing.
use Prim.Native.Nat.{ℕ, ◌*◌, ◌/◌, ◌≤◌}
use mathlib.Core.Path.{◌≡◌}
use native.Mathlib.Nat.{mul-le-mul, div-le_of_le-mul}
use native.Mathlib.Omega.{arith}

-- at most 50 tenths of the samples
pub tenths-small : (n b : ℕ) → b ≡ n / 10 → n ≤ 16384 → (x : ℕ) → x ≤ 50 → x * b ≤ 81950
tenths-small n b e h x f = let few : n / 10 ≤ 1639 = div-le_of_le-mul 10 (omega arith) in rw e (mul-le-mul f few)

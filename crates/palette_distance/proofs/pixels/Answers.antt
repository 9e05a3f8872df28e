-- `palette_distance::pixels` meets its contract: an i32 holds the count, and an f32 holds it exactly. Assumes nothing.
use Prim.Native.Nat.{ℕ, ◌≤◌}
use mathlib.Core.Path.{◌≡◌, ap, subst⁻¹}
use native.Mathlib.Omega.{arith}
use mir.Syntax.{w32}
use mir.Val.{to_z}
use mir.Facts.{to_z_pos}
use lib.Dec.{T}
use lib.IntN.{ℤ, pos}
use lib.Ieee.{binary32, in_float, of_int}
use Rattle.ieee.proofs.Goods.{count-exact}
use Rattle.palette_distance.proofs.pixels.Goals as goal

as-signed : (n : ℕ) → n ≤ 16777216 → to_z w32 n ≡ pos n
as-signed n h = to_z_pos w32 (omega arith)

as-float : (n : ℕ) → n ≤ 16777216 → T (in_float binary32 (to_z w32 n))
as-float n h = subst⁻¹ (λ (i : ℤ). T (in_float binary32 i)) (as-signed n h) (count-exact binary32 n h)

pub int_to_float-result : goal.int_to_float-result
int_to_float-result c = as-float _ c.requires.1

pub returns : goal.returns
returns c = ap (of_int binary32) (as-signed _ c.requires.1)

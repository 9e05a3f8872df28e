-- A colour in range has bits; what the tests of two pixels say of what was read. Assumes nothing.
use mathlib.Core.Path.{◌≡◌}
use mathlib.Core.Bool.{Bool, true, not, ◌&&◌}
use lib.Dec.{T}
use lib.Ieee.{Float, is_nan}
use Rattle.lists.proofs.Tests.{and_l, and_r}
use Rattle.ieee.proofs.Bounds.{within_real}
use Rattle.color.specs.declared.Oklab.{Oklab}
use Rattle.job.specs.Job.{two}
use Rattle.job.specs.Checks.{within}
use Rattle.job.proofs.Ready.{within_limit, two-within}
use Rattle.group_pixels.specs.declared.Rgba.{Rgba}
use Rattle.group_pixels.specs.Pixel.{same_bytes, in_gamut}

-- a component in range is no NaN, so that it has bits
real : (x : Float) → within two x ≡ true → T (not (is_nan x))
real x h = within_real x 2 1 (within_limit two x 2 two-within h)

module _ (o : Oklab) (e : in_gamut o ≡ true) where
  pub l_real : T (not (is_nan o.l))
  unfolding in_gamut
  l_real = real o.l (and_l (within two o.l) (within two o.a && within two o.b) e)

  pub a_real : T (not (is_nan o.a))
  unfolding in_gamut
  a_real = real o.a (and_l (within two o.a) (within two o.b) (and_r (within two o.l) (within two o.a && within two o.b) e))

  pub b_real : T (not (is_nan o.b))
  unfolding in_gamut
  b_real = real o.b (and_r (within two o.a) (within two o.b) (and_r (within two o.l) (within two o.a && within two o.b) e))

-- what a comparison said of what was read, said of what was there
pub same-told : {x y p q : Rgba} {b v : Bool} → x ≡ p → y ≡ q → b ≡ same_bytes x y → b ≡ v → same_bytes p q ≡ v
same-told e f g h = rw (← e, ← f, ← g) h

-- The library rounds an f64 to a format as `narrow_of` does to an f32. Assumes nothing.
use mathlib.Core.Path.{◌≡◌, refl}
use lib.Ieee.{Float, nan, inf, fin, binary32}
use Rattle.std.specs.Float.{round_to_format}
use Rattle.ieee.specs.Narrow.{narrow_of}

pub narrow_is : (x : Float) → round_to_format binary32 x ≡ narrow_of x
unfolding round_to_format narrow_of
narrow_is nan = refl
narrow_is (inf s) = refl
narrow_is (fin s m e) = refl

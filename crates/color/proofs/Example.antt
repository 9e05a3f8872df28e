-- A 0.5 nudge of 0 towards 1 gives 0.5. Assumes nothing.
use mathlib.Core.Path.{◌≡◌, refl}
use lib.Ieee.{binary32, of_bits, add, sub, mul}
use Rattle.color.specs.Blend.{blend}

pub half_way : blend (of_bits binary32 0x3f000000) (of_bits binary32 0) (of_bits binary32 0x3f800000) ≡ of_bits binary32 0x3f000000
unfolding of_bits add sub mul
half_way = refl

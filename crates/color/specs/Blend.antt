-- A colour moved towards another. Definitions only. Assumes nothing.
use Rattle.std.specs.Prelude.{Float}
use Rattle.std.specs.Float.{binary32}
use Rattle.std.specs.Float.Ieee.{add, sub, mul, of_bits}
use Rattle.color.specs.declared.Oklab.{Oklab}

-- (1 - alpha) of c and alpha of t
abbrev pub blend : Float → Float → Float → Float
blend alpha c t = add binary32 (mul binary32 (sub binary32 (of_bits binary32 0x3f800000) alpha) c) (mul binary32 alpha t)

abbrev pub nudged : Float → Oklab → Oklab → Oklab
nudged alpha c t = record { l = blend alpha c.l t.l; a = blend alpha c.a t.a; b = blend alpha c.b t.b }

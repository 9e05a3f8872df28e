-- The draws of a round, which the Rust computes as `(0.1f32 * n as f32) as usize`. Definitions only. Assumes nothing.
use Rattle.std.specs.Prelude.{ℕ, pos, Float}
use Rattle.std.specs.Float.{binary32}
use Rattle.std.specs.Float.Ieee.{mul, of_int, of_bits, to_unsigned}

-- 0.1f32, a little above 1 / 10
unfoldable pub fraction : Float
fraction = of_bits binary32 0x3dcccccd

unfoldable pub tenth : ℕ → ℕ
tenth n = to_unsigned 64 (mul binary32 fraction (of_int binary32 (pos n)))

-- Patterns of f32: finite with magnitude at most 2; above 0 and at most 16. Definitions only. Assumes nothing.
use Rattle.std.specs.Prelude.{ℕ, ◌%◌, ◌^◌, Bool, ◌&&◌, leb, ltb}

abbrev pub small : ℕ → Bool
small b = leb (b % 2 ^ 31) 0x4000_0000

abbrev pub weighs : ℕ → Bool
weighs b = ltb 0 b && leb b 0x4180_0000

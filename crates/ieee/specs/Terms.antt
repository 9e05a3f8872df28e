-- What the laws of this crate speak of. Definitions only. Assumes nothing.
use Rattle.std.specs.Prelude.{ℕ, suc, ◌+◌, ◌-◌, ◌*◌, ◌/◌, ◌^◌, ◌≤◌, ◌<◌, ◌≡◌, Bool, true, false, not, ◌&&◌, ◌||◌, cond, pos, T, ltb, Float}
use Rattle.std.specs.Float.{nan, inf, fin, Format, binary32}
use Rattle.std.specs.Float.Ieee.{prec, emax, low, up, down, size, hid, top, round, mul, lt, eq, le, fits}
use Rattle.std.specs.Float.Ieee.Exact.{HasValue}

-- ---- signs
-- no `nan`, and the sign is clear
abbrev pub plus : Float → Bool
plus nan = false
plus (inf s) = not s
plus (fin s m e) = not s

abbrev pub sgn : Float → Bool
sgn nan = false
sgn (inf s) = s
sgn (fin s m e) = s

abbrev pub abs : Float → Float
abs nan = nan
abs (inf s) = inf false
abs (fin s m e) = fin false m e

abbrev pub zero_f : Float
zero_f = fin false 0 (pos 0)

-- -0, in any form
abbrev pub Minus0 : Float → Type 0
Minus0 nan = ⊥
Minus0 (inf s) = ⊥
Minus0 (fin s m e) = (s ≡ true) × (m * up e ≡ 0)

-- ---- bounds
-- x is finite, and its size is at most k / d
abbrev pub Within : Float → ℕ → ℕ → Type 0
Within nan k d = ⊥
Within (inf s) k d = ⊥
Within (fin s m e) k d = m * up e * d ≤ k * down e

-- x is finite, and its size is at least b / q
abbrev pub AtLeast : Float → ℕ → ℕ → Type 0
AtLeast nan b q = ⊥
AtLeast (inf s) b q = ⊥
AtLeast (fin s m e) b q = b * down e ≤ m * up e * q

-- the format holds k / d
pub record Exact (f : Format) (k d : ℕ) : Type 0 where
  pub above : 0 < d
  pub exact : HasValue (round f false k d) false k d

abbrev pub sq : Format → Float → Float
sq f x = mul f x x

-- ---- sizes as numbers
-- how many of the format's smallest values x is in size, an infinity as the first size that overflows
unfoldable pub key : Format → Float → ℕ
key f nan = 0
key f (inf s) = 2 ^ (low f + suc (emax f))
key f (fin s m e) = m * up e * 2 ^ low f / down e

-- the bits of a size of n smallest values: the exponent's field with the leading digit, then the digits below it
abbrev pub pack : Format → ℕ → ℕ
pack f n = (size n - prec f) * hid f + n / 2 ^ (size n - prec f)

-- the format holds x, which is no `nan` and has the sign clear
pub record Good (f : Format) (x : Float) : Type 0 where
  pub fit : T (fits f x)
  pub pos : T (plus x)

-- ---- values with their indexes, which are below 2 ^ 64: first by value and then by index
abbrev pub rank_of : Format → Float → ℕ → ℕ
rank_of f x j = key f x * 18446744073709551616 + j

abbrev pub key32 : Float → ℕ
key32 x = key binary32 x

abbrev pub rank : Float → ℕ → ℕ
rank x j = rank_of binary32 x j

-- d is over the limit, or equals it where a tie loses
abbrev pub over : Float → Float → Bool → Bool
over d limit lose = lt limit d || (eq d limit && lose)

-- ---- IEEE 754's total order, on what is no `nan`
-- x is not after y: by the sign and then by the size, so -0 comes before +0
abbrev pub tle : Float → Float → Bool
tle x y = cond (sgn x) (cond (sgn y) (le (abs y) (abs x)) true) (cond (sgn y) false (le (abs x) (abs y)))

-- a bit pattern made a number that grows with the total order
abbrev pub key_of : Format → ℕ → ℕ
key_of f b = cond (ltb b (top f)) (b + top f) (2 * top f - suc b)

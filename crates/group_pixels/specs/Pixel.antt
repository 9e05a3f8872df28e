-- A pixel: four bytes, and the Oklab of their reduced colour; which pixels are kept, and which two clash. Definitions only. Assumes nothing.
use Rattle.std.specs.Prelude.{Option, Some, None, ℕ, ◌+◌, ◌*◌, ◌<◌, ◌≡◌, Bool, true, false, not, ◌&&◌, List, eqb, length, get_or, set, Float}
use Rattle.std.specs.Float.{binary32}
use Rattle.std.specs.Float.Ieee.{to_bits}
use Rattle.color.specs.declared.Oklab.{Oklab}
use Rattle.color.specs.Color.{colour_at}
use Rattle.job.specs.Job.{two}
use Rattle.job.specs.Checks.{within}
use Rattle.group_pixels.specs.declared.Rgba.{Rgba}
use Rattle.group_pixels.specs.declared.Rgb.{Rgb}

-- pixel i of a flat list, four bytes a pixel
abbrev pub rgba_at : List ℕ → ℕ → Rgba
rgba_at s i = record { r = get_or s (4 * i) 0; g = get_or s (4 * i + 1) 0; b = get_or s (4 * i + 2) 0; a = get_or s (4 * i + 3) 0 }

-- pixel i becomes x
unfoldable pub put_rgba : List ℕ → ℕ → Rgba → List ℕ
put_rgba s i x = set (set (set (set s (4 * i) x.r) (4 * i + 1) x.g) (4 * i + 2) x.b) (4 * i + 3) x.a

-- colour zero is compared in r, g, b alone
unfoldable pub is_zero : Option Rgb → Rgba → Bool
is_zero (Some z) x = eqb x.r z.r && (eqb x.g z.g && eqb x.b z.b)
is_zero None x = false

-- kept unless its alpha is 0 or it equals colour zero
unfoldable pub kept : Option Rgb → Rgba → Bool
kept cz x = not (eqb x.a 0) && not (is_zero cz x)

-- all four bytes are equal
unfoldable pub same_bytes : Rgba → Rgba → Bool
same_bytes x y = eqb x.r y.r && (eqb x.g y.g && (eqb x.b y.b && eqb x.a y.a))

-- every component is finite, and of magnitude 2 at most
unfoldable pub in_gamut : Oklab → Bool
in_gamut o = within two o.l && (within two o.a && within two o.b)

-- -0 and 0 differ
unfoldable pub same_bits : Oklab → Oklab → Bool
same_bits x y =
    eqb (to_bits binary32 x.l) (to_bits binary32 y.l)
    && (eqb (to_bits binary32 x.a) (to_bits binary32 y.a) && eqb (to_bits binary32 x.b) (to_bits binary32 y.b))

-- pixels i and k have equal bytes and different Oklab bits; whether a pixel is kept goes by its bytes, so both are or neither is (`same_kept` in Alike)
unfoldable pub clash : List ℕ → List Float → ℕ → ℕ → Bool
clash bytes oklab i k = same_bytes (rgba_at bytes i) (rgba_at bytes k) && not (same_bits (colour_at oklab i) (colour_at oklab k))

-- ---- what the functions ask
-- pixel k is there
pub record There (bytes : List ℕ) (oklab : List Float) (k : ℕ) : Type 0 where
  pub bytes_there : 4 * k + 3 < length bytes
  pub oklab_there : 3 * k + 2 < length oklab

-- pixel k, if kept, has passed for its Oklab
abbrev pub Passed : List ℕ → List Float → Option Rgb → ℕ → Type 0
Passed bytes oklab cz k = kept cz (rgba_at bytes k) ≡ true → in_gamut (colour_at oklab k) ≡ true

-- pixel k is kept and has passed, so that its bits can be compared
pub record Kept (bytes : List ℕ) (oklab : List Float) (cz : Option Rgb) (k : ℕ) : Type 0 where
  pub there : There bytes oklab k
  pub is_kept : kept cz (rgba_at bytes k) ≡ true
  pub is_real : in_gamut (colour_at oklab k) ≡ true

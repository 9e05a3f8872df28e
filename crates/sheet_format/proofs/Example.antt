-- The example of docs/SCOPE.md: its bytes and their number in either edition, what one edition's is to the other's reader, and what a bad colour in it is refused
-- with. Assumes nothing.
use mathlib.Core.Path.{◌≡◌, refl}
use mathlib.Core.Bool.{true, false}
use mathlib.Core.List.{[], ◌∷◌}
use Prim.Native.Nat.{ℕ}
use lib.Dec.{T}
use lib.ListN.{length, take}
use Rattle.answer.specs.Refusals.{refusal}
use Rattle.format.specs.Format.{refused, encode}
use Rattle.sheet_format.specs.Sheet.{Sheet, edition1, edition2, sheet, read_sheet}

-- weight 1; subpalettes (0,0,0) and (1,0,u); tiles (0.25,0,0) four times, none, (0.5,v,0) twice, (1,0,0) once
abbrev pub example_with : ℕ → ℕ → Sheet
example_with u v = record {
  subs = 2;
  each = 1;
  tiles = 4;
  weight = 0x3f80_0000;
  palette = 0 ∷ 0 ∷ 0 ∷ 0x3f80_0000 ∷ 0 ∷ u ∷ [];
  content =
      ((4, 0x3e80_0000 ∷ 0 ∷ 0 ∷ []) ∷ [])
      ∷ []
      ∷ ((2, 0x3f00_0000 ∷ v ∷ 0 ∷ []) ∷ [])
      ∷ ((1, 0x3f80_0000 ∷ 0 ∷ 0 ∷ []) ∷ [])
      ∷ [];
}

-- where both are 0
pub example : Sheet
example = example_with 0 0

pub example_bytes : take 8 (encode (sheet edition1) example) ≡ 0x54 ∷ 0x46 ∷ 0x49 ∷ 0x54 ∷ 0x11 ∷ 0x00 ∷ 0x0c ∷ 0xfe ∷ []
unfolding example
example_bytes = refl

pub example_length : length (encode (sheet edition1) example) ≡ 77
unfolding example
example_length = refl

pub example_good : T ((sheet edition1).good example)
unfolding example
example_good = tt

-- the same in edition 2
pub large_bytes : take 8 (encode (sheet edition2) example) ≡ 0x54 ∷ 0x46 ∷ 0x49 ∷ 0x54 ∷ 0x21 ∷ 0x00 ∷ 0x0c ∷ 0xfe ∷ []
unfolding example
large_bytes = refl

pub large_length : length (encode (sheet edition2) example) ≡ 79
unfolding example
large_length = refl

-- which is 12 to a reader of edition 1, and the other way round
pub large_refused : read_sheet edition1 (encode (sheet edition2) example) ≡ refused (refusal 12 0)
unfolding example
large_refused = refl

pub small-refused : read_sheet edition2 (encode (sheet edition1) example) ≡ refused (refusal 12 0)
unfolding example
small-refused = refl

-- one colour 256 times can be written in edition 2, and 257 times not; nor 65 times in edition 1
abbrev many : ℕ → Sheet
many n = record { subs = 1; each = 1; tiles = 1; weight = 0x3f80_0000; palette = 0 ∷ 0 ∷ 0 ∷ []; content = ((n, 0 ∷ 0 ∷ 0 ∷ []) ∷ []) ∷ [] }

pub many-good : ((sheet edition2).good (many 256) ≡ true) × ((sheet edition2).good (many 257) ≡ false) × ((sheet edition1).good (many 65) ≡ false)
many-good = (refl, refl, refl)

-- a NaN is refused with its colour: 1 of the palette's two, and 3, which is the tiles' second
pub bad-palette : read_sheet edition1 (encode (sheet edition1) (example_with 0x7fc0_0000 0)) ≡ refused (refusal 7 1)
bad-palette = refl

pub bad-tile : read_sheet edition1 (encode (sheet edition1) (example_with 0 0x7fc0_0000)) ≡ refused (refusal 7 3)
bad-tile = refl

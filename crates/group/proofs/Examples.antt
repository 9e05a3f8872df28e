-- Worked examples of the definitions, computed. Assumes nothing.
use Prim.Native.Nat.{ℕ, ◌*◌}
use mathlib.Core.Path.{◌≡◌, refl}
use mathlib.Core.List.{List, [], ◌∷◌, ◌++◌}
use lib.ListN.{replicate}
use lib.Ieee.{Float, nan, binary32, of_bits, to_bits, le, neg}
use Rattle.answer.specs.Refusals.{refusal}
use Rattle.answer.specs.Outcome.{outcome, decided}
use Rattle.job.specs.Checks.{tile_sized, within}
use Rattle.group_pixels.specs.Pixel.{is_zero, kept, same_bytes, in_gamut, same_bits, clash}
use Rattle.std.specs.Prelude.{Some, None, Ok, Err}
use Rattle.group_refusal.specs.Refusal.{given, EntryRoom, entry_room, some, first_of, fault, lengths_fit, pixels_fit, refusal_where, group_answer}
use Rattle.group.specs.Entries.{join, place, entries, indexes, bytes_of, oklab_of, counts_of, left}
use Rattle.group.specs.Group.{grouping}

-- pixels, four bytes each
abbrev red : List ℕ
red = 255 ∷ 0 ∷ 0 ∷ 255 ∷ []

abbrev blue : List ℕ
blue = 0 ∷ 0 ∷ 255 ∷ 255 ∷ []

abbrev clear : List ℕ
clear = 255 ∷ 0 ∷ 0 ∷ 0 ∷ []

-- Oklab colours, by the bits of their numbers
abbrev ok : ℕ → ℕ → ℕ → List Float
ok l a b = of_bits binary32 l ∷ of_bits binary32 a ∷ of_bits binary32 b ∷ []

abbrev half : List Float
half = ok 0x3f000000 0 0

-- half, but for a zero with the other sign
abbrev other : List Float
other = ok 0x3f000000 0 0x80000000

abbrev edge : List Float
edge = ok 0x40000000 0xc0000000 0

abbrev outside : List Float
outside = ok 0x40000001 0 0

-- room for n entries, marked
abbrev room : ℕ → EntryRoom
room n = entry_room (replicate (4 * n) 9) (replicate (3 * n) nan) (replicate n 9) (replicate n 9)

-- red, clear, blue, red: the clear pixel leaves its place, and the rest of the room stays as found
pub two-entries : grouping 64 (given 4 (red ++ clear ++ blue ++ red) (half ++ outside ++ edge ++ half) None) (room 4)
    ≡ outcome (Ok 2) (entry_room (red ++ blue ++ replicate 8 9) (half ++ edge ++ replicate 6 nan) (2 ∷ 1 ∷ 9 ∷ 9 ∷ []) (0 ∷ 9 ∷ 1 ∷ 0 ∷ []))
unfolding is_zero kept same_bytes join place entries indexes bytes_of oklab_of counts_of left within in_gamut same_bits clash some first_of fault lengths_fit tile_sized pixels_fit refusal_where grouping decided le neg of_bits to_bits
two-entries = refl

-- with red as colour zero, blue alone is kept, whatever the Oklab of the others
pub one_entry : grouping 64 (given 3 (red ++ blue ++ red) (half ++ half ++ other) (Some (record { r = 255; g = 0; b = 0 }))) (room 3)
    ≡ outcome (Ok 1) (entry_room (blue ++ replicate 8 9) (half ++ replicate 6 nan) (1 ∷ 9 ∷ 9 ∷ []) (9 ∷ 0 ∷ 9 ∷ []))
unfolding is_zero kept same_bytes join place entries indexes bytes_of oklab_of counts_of left within in_gamut same_bits clash some first_of fault lengths_fit tile_sized pixels_fit refusal_where grouping decided le neg of_bits to_bits
one_entry = refl

-- no pixel is accepted
pub none : grouping 64 (given 0 [] [] None) (room 0) ≡ outcome (Ok 0) (room 0)
unfolding entries indexes bytes_of oklab_of counts_of left first_of lengths_fit tile_sized pixels_fit refusal_where grouping decided
none = refl

-- one pixel more than the tile size allows, and a size that there is not
pub too_many : group_answer 64 (given 65 [] [] None) (room 65) ≡ refusal 2 0
unfolding tile_sized pixels_fit refusal_where
too_many = refl

pub too_many_for_large : group_answer 256 (given 257 [] [] None) (room 257) ≡ refusal 2 0
unfolding tile_sized pixels_fit refusal_where
too_many_for_large = refl

pub no_such_size : group_answer 128 (given 0 [] [] None) (room 0) ≡ refusal 2 0
unfolding tile_sized pixels_fit refusal_where
no_such_size = refl

pub too_short : group_answer 64 (given 1 red half None) (room 0) ≡ refusal 3 0
unfolding lengths_fit tile_sized pixels_fit refusal_where
too_short = refl

-- 0 and -0 are different bits
pub other-bits : group_answer 64 (given 2 (red ++ red) (half ++ other) None) (room 2) ≡ refusal 14 0
unfolding is_zero kept same_bytes within in_gamut same_bits clash some first_of fault lengths_fit tile_sized pixels_fit refusal_where le neg of_bits to_bits
other-bits = refl

-- the pixel that is outside differs from the first as well: 7 comes before 14, and names it
pub seven_first : group_answer 64 (given 2 (red ++ red) (half ++ outside) None) (room 2) ≡ refusal 7 1
unfolding is_zero kept same_bytes within in_gamut same_bits clash some first_of fault lengths_fit tile_sized pixels_fit refusal_where le neg of_bits to_bits
seven_first = refl

-- of three that are outside the clear one is not looked at, and the first of the others is named
pub first_named : group_answer 64 (given 4 (red ++ clear ++ blue ++ red) (half ++ outside ++ outside ++ outside) None) (room 4) ≡ refusal 7 2
unfolding is_zero kept same_bytes within in_gamut same_bits clash some first_of fault lengths_fit tile_sized pixels_fit refusal_where le neg of_bits to_bits
first_named = refl

-- A tile halfway between two subpalettes of one colour each gets the first, at the distance 2 · 0.25: the definition computes, and no hint is in it.
-- Assumes nothing.
use mathlib.Core.Path.{◌≡◌, refl}
use mathlib.Core.List.{[], ◌∷◌}
use lib.Ieee.{Float, binary32, of_bits, of_int, add, sub, mul, lt}
use Rattle.stats.specs.Stats.{least_of}
use Rattle.palette.specs.Palette.{Palette, Tile, palette_with, tile_with, gap, total_of, dist_at, best_fit}

abbrev nought : Float
nought = of_bits binary32 0

abbrev one : Float
one = of_bits binary32 0x3f800000

abbrev half : Float
half = of_bits binary32 0x3f000000

-- (0, 0, 0) and (1, 0, 0)
abbrev pub ends : Palette
ends = palette_with (nought ∷ nought ∷ nought ∷ one ∷ nought ∷ nought ∷ []) 1 1 2

-- (0.5, 0, 0) twice
abbrev pub middle : Tile
middle = tile_with (half ∷ nought ∷ nought ∷ []) (2 ∷ [])

pub middle_first : best_fit ends middle one ≡ record { index = 0; dist = half }
unfolding least_of dist_at total_of gap of_bits of_int add sub mul lt
middle_first = refl

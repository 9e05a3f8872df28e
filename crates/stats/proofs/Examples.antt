-- The examples of docs/SCOPE.md, by computation. Assumes nothing.
use mathlib.Core.Path.{◌≡◌, refl}
use mathlib.Core.Bool.{false}
use mathlib.Core.List.{[], ◌∷◌}
use lib.Ieee.{Float, inf, binary32, of_bits, lt}
use Rattle.stats.specs.Stats.{value_at, scan_two, least_two}

abbrev one : Float
one = of_bits binary32 0x3f80_0000

abbrev two : Float
two = of_bits binary32 0x4000_0000

abbrev five : Float
five = of_bits binary32 0x40a0_0000

pub smallest-two_of_2_1_1 : least_two (value_at (two ∷ one ∷ one ∷ [])) 3 ≡ record { index = 1; dist = one; next = 2; second = one }
unfolding least_two scan_two of_bits lt
smallest-two_of_2_1_1 = refl

pub smallest-two_of_5 : least_two (value_at (five ∷ [])) 1 ≡ record { index = 0; dist = five; next = 0; second = inf false }
unfolding least_two scan_two of_bits lt
smallest-two_of_5 = refl

-- values that are all infinite
pub smallest-two_of_infinities : least_two (value_at (inf false ∷ inf false ∷ inf false ∷ [])) 3 ≡ record { index = 0; dist = inf false; next = 1; second = inf false }
unfolding least_two scan_two lt
smallest-two_of_infinities = refl

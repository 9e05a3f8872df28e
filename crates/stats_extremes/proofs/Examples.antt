-- The examples of docs/SCOPE.md, by computation. Assumes nothing.
use mathlib.Core.Path.{◌≡◌, refl}
use mathlib.Core.List.{[], ◌∷◌}
use lib.Ieee.{Float, binary32, of_bits, lt, le}
use Rattle.stats.specs.Stats.{value_at}
use Rattle.stats_extremes.specs.Extremes.{argmax_of, argmin_of}

abbrev one : Float
one = of_bits binary32 0x3f80_0000

abbrev two : Float
two = of_bits binary32 0x4000_0000

abbrev three : Float
three = of_bits binary32 0x4040_0000

pub argmax_of_1_3_3 : argmax_of (value_at (one ∷ three ∷ three ∷ [])) 3 ≡ 2
unfolding argmax_of of_bits le lt
argmax_of_1_3_3 = refl

pub argmin_of_2_1_1 : argmin_of (value_at (two ∷ one ∷ one ∷ [])) 3 ≡ 1
unfolding argmin_of of_bits le lt
argmin_of_2_1_1 = refl

-- A flat palette after one colour is nudged or copied, or a subpalette is copied. Definitions only. Assumes nothing.
use Rattle.std.specs.Prelude.{ℕ, ◌+◌, ◌*◌, List, Float}
use Rattle.lists.specs.Parts.{copied}
use Rattle.color.specs.declared.Oklab.{Oklab}
use Rattle.color.specs.Color.{colour_at, put_at}
use Rattle.color.specs.Blend.{nudged}

-- the colour at a place moves towards t
abbrev pub nudged_at : List Float → ℕ → Oklab → Float → List Float
nudged_at pal place t alpha = put_at pal place (nudged alpha (colour_at pal place) t)

-- colour j of subpalette i stands at the place i·c + j of the whole
abbrev pub place_of : ℕ → ℕ → ℕ → ℕ
place_of c i j = i * c + j

-- colour `to` of subpalette i becomes its colour `from`
abbrev pub colour_copied : List Float → ℕ → ℕ → ℕ → ℕ → List Float
colour_copied pal c i from to = put_at pal (place_of c i to) (colour_at pal (place_of c i from))

-- the present colours of subpalette `to` become those of subpalette `from`; places not in use keep theirs
abbrev pub sub_copied : List Float → ℕ → ℕ → ℕ → ℕ → List Float
sub_copied pal c have from to = copied pal (3 * c) (3 * have) from to

-- The faults of a pixel, 7 with its index before 14, and the first of a tile. Definitions only. Assumes nothing.
use Rattle.std.specs.Prelude.{Option, ℕ, zero, suc, ◌+◌, ◌<◌, Bool, true, false, cond, List, eqb, Float}
use Rattle.answer.specs.Refusals.{Answered, refusal, nothing}
use Rattle.color.specs.Color.{colour_at}
use Rattle.group_pixels.specs.declared.Rgb.{Rgb}
use Rattle.group_pixels.specs.Pixel.{rgba_at, kept, in_gamut, clash, Passed}

-- one of the n numbers from i on passes a test
unfoldable pub some : (ℕ → Bool) → ℕ → ℕ → Bool
some f i zero = false
some f i (suc n) = cond (f i) true (some f (i + 1) n)

-- the first that f gives at the n numbers from i on whose number is not 0, or nothing
unfoldable pub first_of : (ℕ → Answered) → ℕ → ℕ → Answered
first_of f i zero = nothing
first_of f i (suc n) = cond (eqb (f i).number 0) (first_of f (i + 1) n) (f i)

-- pixel k clashes with an earlier one
abbrev pub clashes : List ℕ → List Float → ℕ → Bool
clashes bytes oklab k = some (λ i. clash bytes oklab i k) 0 k

-- what is wrong with pixel k: nothing unless it is kept; 7, which names it, before 14
unfoldable pub fault : List ℕ → List Float → Option Rgb → ℕ → Answered
fault bytes oklab cz k =
    cond (kept cz (rgba_at bytes k)) (cond (in_gamut (colour_at oklab k)) (cond (clashes bytes oklab k) (refusal 14 0) nothing) (refusal 7 k)) nothing

-- every kept pixel before k has passed for its Oklab
abbrev pub Real : List ℕ → List Float → Option Rgb → ℕ → Type 0
Real bytes oklab cz k = (i : ℕ) → i < k → Passed bytes oklab cz i

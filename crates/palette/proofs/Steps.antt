-- The walk over the colours follows the definition: one colour more, at `i + 1`. Assumes nothing.
use Prim.Native.Nat.{ℕ, ◌+◌}
use mathlib.Core.Path.{◌≡◌, ap, ◌∙◌}
use mathlib.Core.List.{List}
use lib.Ieee.{Float}
use Rattle.color.specs.declared.Oklab.{Oklab}
use Rattle.color.specs.Color.{sqdist_of, colour_at}
use Rattle.stats.specs.declared.Near.{Near}
use Rattle.stats.specs.Stats.{step_near, least_of}
use Rattle.stats.proofs.Steps.{near_more}
use Rattle.palette.specs.Palette.{gap}

pub nearest-step : (s : List Float) (q : Oklab) (w : Float) (i : ℕ) (b r : Near) (p : Oklab) (d : Float) → b ≡ least_of (gap s q w) i → p ≡ colour_at s i → d ≡ sqdist_of p q w → r ≡ step_near b i d → r ≡ least_of (gap s q w) (i + 1)
unfolding gap
nearest-step s q w i b r p d h g e f = near_more (gap s q w) i b r d h (e ∙ ap (λ (x : Oklab). sqdist_of x q w) g) f

-- Which colour a job's refusal names: the first with a bad component, palette before tiles. Definitions only. Assumes nothing.
use Rattle.std.specs.Prelude.{ℕ, ◌+◌, ◌-◌, ◌*◌, ◌≤◌, ◌<◌, ◌≡◌, ◌⊎◌, Bool, true, false, not, ◌&&◌, List, [], ◌∷◌, length, Float}
use Rattle.answer.specs.Names.{Table}
use Rattle.job.specs.Job.{Job, most_subpalettes, most_colours, most_tile_colours, two}
use Rattle.job.specs.Checks.{component_fits, components_fit}

-- one of colour k's three components is not finite, or above m in magnitude
abbrev pub bad_colour : Float → List Float → ℕ → Bool
bad_colour m xs k = not (component_fits m xs (3 * k) && (component_fits m xs (3 * k + 1) && component_fits m xs (3 * k + 2)))

-- colour k is the first of a list that is bad
pub record FirstBad (m : Float) (xs : List Float) (k : ℕ) : Type 0 where
  pub there : 3 * k < length xs
  pub bad : bad_colour m xs k ≡ true
  pub before : (i : ℕ) → i < k → bad_colour m xs i ≡ false

-- the first of two lists in one numbering, in which those of the second go on from `cells`: it is in the first list, or all of that is good
abbrev pub FirstOfBoth : Float → ℕ → List Float → List Float → ℕ → Type 0
FirstOfBoth m cells xs ys k = FirstBad m xs k ⊎ ((components_fit m xs ≡ true) × (cells ≤ k) × FirstBad m ys (k - cells))

-- ---- what the index of a job's refusal names: without samples, and with
abbrev pub plain_names : Job → List Float → Table
plain_names J palette = (7, FirstOfBoth two (J.S * J.C) palette J.colours) ∷ []

-- with samples the working colours and those handed in have numbers of their own
abbrev pub sampled_names : Job → (ℕ → Type 0) → (ℕ → Type 0) → Table
sampled_names J working handed = (7, FirstBad two J.colours) ∷ (16, working) ∷ (17, handed) ∷ []

-- no index is greater
abbrev pub most_index : ℕ
most_index = most_subpalettes * most_colours + most_tile_colours

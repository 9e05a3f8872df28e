-- What a single fit answers. Assumes nothing.
use Prim.Native.Nat.{ℕ}
use mathlib.Core.Path.{◌≡◌}
use mathlib.Core.List.{List}
use lib.Ieee.{Float}
use lib.ListN.{length, set}
use Rattle.std.specs.Prelude.{Result, Ok, Err}
use Rattle.answer.specs.Refusals.{Answered}
use Rattle.answer.specs.Outcome.{Outcome, outcome}
use Rattle.answer.proofs.Outcomes.{was_refused, was_done}
use Rattle.stats.specs.declared.Near.{Near}
use Rattle.job.specs.Job.{Job}
use Rattle.palette_tile.specs.Tiles.{fit_at}
use Rattle.fits_outcome.specs.Fits.{single_def}
use Rattle.fits_check.specs.One.{single_answer}

-- what is answered, with the hint that names it
abbrev named : Near → List ℕ → Outcome (Result Near Answered) (List ℕ)
named best hints = outcome (Ok best) (set hints 0 best.index)

written : (best fit : Near) (hints after : List ℕ) → best ≡ fit → after ≡ set hints 0 best.index → outcome (Ok best) after ≡ named fit hints
written best fit hints after f g = rw (g, f)

module _ (J : Job) (palette : List Float) (hints : List ℕ) (r : Answered) (e : r ≡ single_answer J palette (length hints)) where
  -- a refusal writes nothing
  pub single_refused : (r.number ≡ 0 → ⊥) → outcome (Err r) hints ≡ single_def J palette hints
  unfolding single_def
  single_refused h = was_refused r (single_answer J palette (length hints)) e (named (fit_at J palette J.S J.C 0) hints) Err hints h

  pub single_done : r.number ≡ 0 → (best : Near) (after : List ℕ) → best ≡ fit_at J palette J.S J.C 0 → after ≡ set hints 0 best.index
      → outcome (Ok best) after ≡ single_def J palette hints
  unfolding single_def
  single_done z best after f g =
      let fit = fit_at J palette J.S J.C 0 in
      was_done r (single_answer J palette (length hints)) e (named fit hints) Err hints z (outcome (Ok best) after) (written best fit hints after f g)

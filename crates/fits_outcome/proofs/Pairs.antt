-- What `best_two` answers. Assumes nothing.
use Prim.Native.Nat.{ℕ}
use mathlib.Core.Path.{◌≡◌}
use mathlib.Core.List.{List}
use lib.Ieee.{Float}
use lib.ListN.{length, set}
use Rattle.std.specs.Prelude.{Result, Ok, Err}
use Rattle.answer.specs.Refusals.{Answered}
use Rattle.answer.specs.Outcome.{Outcome, outcome}
use Rattle.answer.proofs.Outcomes.{was_refused, was_done}
use Rattle.stats.specs.declared.Two.{Two}
use Rattle.job.specs.Job.{Job}
use Rattle.palette_tile.specs.Tiles.{two_at}
use Rattle.fits_outcome.specs.Pairs.{pair_def}
use Rattle.fits_check.specs.One.{one_answer}

-- what is answered, with the hint that names it
abbrev named : Two → List ℕ → Outcome (Result Two Answered) (List ℕ)
named best hints = outcome (Ok best) (set hints 0 best.index)

written : (best two : Two) (hints after : List ℕ) → best ≡ two → after ≡ set hints 0 best.index → outcome (Ok best) after ≡ named two hints
written best two hints after f g = rw (g, f)

module _ (J : Job) (palette : List Float) (hints : List ℕ) (r : Answered) (e : r ≡ one_answer J palette (length hints)) where
  -- a refusal writes nothing
  pub pair-refused : (r.number ≡ 0 → ⊥) → outcome (Err r) hints ≡ pair_def J palette hints
  unfolding pair_def
  pair-refused h = was_refused r (one_answer J palette (length hints)) e (named (two_at J palette J.S J.C 0) hints) Err hints h

  pub pair-done : r.number ≡ 0 → (best : Two) (after : List ℕ) → best ≡ two_at J palette J.S J.C 0 → after ≡ set hints 0 best.index
      → outcome (Ok best) after ≡ pair_def J palette hints
  unfolding pair_def
  pair-done z best after f g =
      let two = two_at J palette J.S J.C 0 in
      was_done r (one_answer J palette (length hints)) e (named two hints) Err hints z (outcome (Ok best) after) (written best two hints after f g)

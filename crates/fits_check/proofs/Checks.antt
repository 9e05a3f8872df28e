-- What the checks of one tile answer. Assumes nothing.
use Prim.Native.Nat.{ℕ, ◌<◌}
use mathlib.Core.Path.{◌≡◌, refl, sym, ap, subst, ◌∙◌}
use mathlib.Core.Bool.{Bool, true, false, not}
use mathlib.Core.List.{List}
use native.Mathlib.Omega.{arith}
use lib.Dec.{eqb}
use lib.Ieee.{Float}
use lib.ListN.{length}
use borrow.Author.Tests.{eq-eqb, ne_eqb}
use Rattle.answer.specs.Refusals.{Answered, refusal, nothing}
use Rattle.answer.specs.Rules.{numbered}
use Rattle.answer.proofs.Passing.{stops, goes, skips, fails, none}
use Rattle.job.specs.Job.{Job, is_empty}
use Rattle.job.specs.Checks.{plain_answer}
use Rattle.fits_check.specs.One.{one_rules, one_answer, single_answer}
use Rattle.fits_check.proofs.Passes.{one-tile, one_plain}

module _ (J : Job) (palette : List Float) (n : ℕ) where
  -- ---- what the checks answer
  pub one-many : (J.T ≡ 1 → ⊥) → refusal 2 0 ≡ one_answer J palette n
  unfolding one_answer
  one-many h = fails _ _ (ne_eqb _ _ h)

  pub one-checked : J.T ≡ 1 → (r : Answered) → r ≡ plain_answer J palette (eqb n J.T) → r ≡ one_answer J palette n
  unfolding one_answer plain_answer
  one-checked h r e = skips _ _ _ (eq-eqb _ _ h) e

  module _ (a : Answered) (e : a ≡ one_answer J palette n) where
    pub single_stops : (a.number ≡ 0 → ⊥) → a ≡ single_answer J palette n
    unfolding one_answer single_answer numbered
    single_stops h = stops (one_rules J palette n) _ a refl e h

    module _ (z : a.number ≡ 0) where
      answered : (one_answer J palette n).number ≡ 0
      answered = subst (λ (x : Answered). x.number ≡ 0) e z

      pub one-listed : 1 < length J.tiles
      one-listed = omega (arith, one-tile J palette n answered, (one_plain J palette n answered).ready.table)

      -- ---- the single fit's own rule
      pub single_empty : (r : Bool) → r ≡ is_empty J 0 → r ≡ true → refusal 15 0 ≡ single_answer J palette n
      unfolding one_answer single_answer numbered
      single_empty r f h = goes (one_rules J palette n) _ a (refusal 15 0) refl e z (fails _ _ (ap not (sym f ∙ h)))

      pub single_passes : (r : Bool) → r ≡ is_empty J 0 → r ≡ false → nothing ≡ single_answer J palette n
      unfolding one_answer single_answer numbered
      single_passes r f h = goes (one_rules J palette n) _ a nothing refl e z (skips _ _ _ (ap not (sym f ∙ h)) none)

-- What a single fit that passed its checks may ask. Assumes nothing.
use Prim.Native.Nat.{ℕ, suc, zero, ◌≤◌}
use mathlib.Core.Path.{◌≡◌, refl, subst}
use mathlib.Core.Bool.{not, cond}
use mathlib.Core.List.{List, [], ◌∷◌}
use native.Mathlib.Omega.{arith}
use lib.Dec.{eqb}
use lib.Ieee.{Float}
use lib.ListN.{length}
use Rattle.answer.specs.Refusals.{Answered, refusal, nothing}
use Rattle.answer.specs.Rules.{rule, answer, numbered}
use Rattle.answer.proofs.Passing.{both_pass}
use Rattle.job.specs.Job.{Job, size_of, is_empty}
use Rattle.palette_tile.specs.Tiles.{Fitted}
use Rattle.fits.proofs.Shown.{one-paired}
use Rattle.fits_check.specs.One.{one_rules, one_answer, single_answer}

module _ (J : Job) (palette : List Float) (n : ℕ) (a : Answered) (e : a ≡ single_answer J palette n) (z : a.number ≡ 0) where
  both : ((one_answer J palette n).number ≡ 0) × ((answer (rule 15 (not (is_empty J 0)) ∷ [])).number ≡ 0)
  unfolding one_answer single_answer numbered
  both = both_pass (one_rules J palette n) (rule 15 (not (is_empty J 0)) ∷ []) refl (subst (λ (x : Answered). x.number ≡ 0) e z)

  full : 1 ≤ size_of J.tiles 0
  unfolding answer
  full = by (size_of J.tiles 0) both.1
    where
      by : (k : ℕ) → (cond (not (eqb k 0)) nothing (refusal 15 0)).number ≡ 0 → 1 ≤ k
      by zero h = absurd (omega arith)
      by (suc k) h = omega arith

  pub single_asked : (hints : List ℕ) → length hints ≡ n → Fitted J palette J.S J.C hints 0
  single_asked hints l = record { paired = one-paired J palette n (one_answer J palette n) refl both.0 hints l; full = full }

-- The rules of a call with one tile: what the single fit is answered, and what `best_two` is.
-- Definitions only. Assumes nothing.
use Rattle.std.specs.Prelude.{ℕ, not, List, [], ◌∷◌, ◌++◌, eqb, Float}
use Rattle.answer.specs.Refusals.{Answered}
use Rattle.answer.specs.Rules.{Rule, rule, answer}
use Rattle.job.specs.Job.{Job, is_empty}
use Rattle.job.specs.Checks.{plain_rules}

-- one tile, a hint for it, then those of every call without samples
abbrev pub one_rules : Job → List Float → ℕ → List Rule
one_rules J palette hints = rule 2 (eqb J.T 1) ∷ plain_rules J palette (eqb hints J.T)

unfoldable pub one_answer : Job → List Float → ℕ → Answered
one_answer J palette hints = answer (one_rules J palette hints)

-- the single fit wants a colour, after all else
unfoldable pub single_answer : Job → List Float → ℕ → Answered
single_answer J palette hints = answer (one_rules J palette hints ++ (rule 15 (not (is_empty J 0)) ∷ []))

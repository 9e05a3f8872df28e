-- Lengths tested before the sizes are known to be in their ranges, where the answers are the rules'; and the rules that all but start share.
-- Definitions only. Assumes nothing.
use Rattle.std.specs.Prelude.{ℕ, ◌≤◌, ◌≡◌, Bool, true, List, ◌++◌, length}
use Rattle.job.specs.Job.{most_subpalettes, most_colours}
use Rattle.quantizer.specs.Course.{Course}
use Rattle.answer.specs.Refusals.{Answered}
use Rattle.answer.specs.Rules.{answer}
use Rattle.run_stages.specs.Record.{state_rules}
use Rattle.run_stages.specs.Calls.{Memory, record_words, state_of, job_rules}

-- r is the test p, for sizes in their ranges
abbrev pub SameInRange : ℕ → ℕ → Bool → Bool → Type 0
SameInRange s c r p = s ≤ most_subpalettes → c ≤ most_colours → r ≡ p

-- so is the answer on all that is lent; where it is true the record has its words
pub record Lends (s c : ℕ) (r p : Bool) (words : List ℕ) : Type 0 where
  pub same : SameInRange s c r p
  pub recorded : r ≡ true → length words ≡ record_words

-- what a call of a run is answered before its own rules
unfoldable pub run_answer : Course → Memory → Bool → Answered
run_answer K m room = answer (job_rules K room ++ state_rules K (state_of m))

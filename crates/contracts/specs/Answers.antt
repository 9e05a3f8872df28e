-- What the first demand says of the outcome that a caller sees. Definitions only. Assumes nothing.
use Rattle.std.specs.Prelude.{ℕ, ◌/◌, ◌%◌, ◌≡◌, ◌≢◌}
use Rattle.answer.specs.Refusals.{Answered}
use Rattle.answer.specs.Outcome.{Outcome, outcome}
use Rattle.answer.specs.Words.{packed}

-- `table` is what the table of docs/SCOPE.md gives, number and index; `refused e` is that answer with nothing reported, `lent` the memory as it was
pub record Answers {A M : Type 0} (refusal_of : A → Answered) (table : Answered) (refused : Answered → A) (lent : M) (x : Outcome A M) : Type 0 where
  pub numbered : refusal_of x.answer ≡ table
  pub refuses : table.number ≢ 0 → x ≡ outcome (refused table) lent

-- of an export: the answer's remainder by 256 is the number; a refusal's quotient is the index, so no draws, and the memory is as it was lent
pub record Tells {M : Type 0} (table : Answered) (lent : M) (x : Outcome ℕ M) : Type 0 where
  pub numbered : x.answer % 256 ≡ table.number
  pub indexed : table.number ≢ 0 → x.answer / 256 ≡ table.index
  pub refuses : table.number ≢ 0 → x ≡ outcome (packed table.number table.index) lent

-- What the first demand says of one call, whose contract is that its outcome is `definition`. Assumes nothing.
use Rattle.std.specs.Prelude.{◌≡◌, ◌≢◌, List}
use Rattle.answer.specs.Refusals.{Answered}
use Rattle.answer.specs.Rules.{Rule, answer, Passed}
use Rattle.answer.specs.Names.{Table, Names}
use Rattle.answer.specs.Outcome.{Outcome, outcome}

-- `refusal_of` is what an answer says is wrong, `table` what docs/SCOPE.md's table gives: a number and an index; `refused e` is that answer with nothing
-- reported, `lent` the memory as it was
pub record Call {A M : Type 0} (definition : Outcome A M) (refusal_of : A → Answered) (table : Answered) (refused : Answered → A) (lent : M) : Type 0 where
  -- only one outcome meets the contract
  pub only : (x y : Outcome A M) → x ≡ definition → y ≡ definition → x ≡ y
  pub numbers : refusal_of definition.answer ≡ table
  pub refuses : table.number ≢ 0 → definition ≡ outcome (refused table) lent

-- number and index are those of the first rule that fails, and the number is 0 exactly when all pass; the index is that of the entry that `names` says
pub record Ruled {A M : Type 0} (definition : Outcome A M) (refusal_of : A → Answered) (rules : List Rule) (refused : Answered → A) (lent : M) (names : Table) : Type 0 where
  pub call : Call definition refusal_of (answer rules) refused lent
  pub passed : (refusal_of definition.answer).number ≡ 0 → Passed rules
  pub done : Passed rules → (refusal_of definition.answer).number ≡ 0
  pub index : Names names (answer rules)

-- What a call answers and what it leaves in the memory lent to it. Definitions only. Assumes nothing.
use Rattle.std.specs.Prelude.{cond, eqb}
use Rattle.answer.specs.Refusals.{Answered}

pub record Outcome (A M : Type 0) : Type 0 where
  pub answer : A
  pub after : M

abbrev pub outcome : {A M : Type 0} → A → M → Outcome A M
outcome answer after = record { answer = answer; after = after }

-- a call whose rules answer e: `done` where the number is 0, else `refused`, which leaves the memory as it was lent
unfoldable pub decided : {A M : Type 0} → Answered → Outcome A M → A → M → Outcome A M
decided e done refused lent = cond (eqb e.number 0) done (outcome refused lent)

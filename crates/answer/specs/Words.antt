-- The answer word of a call that a host makes. Definitions only. Assumes nothing.
use Rattle.std.specs.Prelude.{ℕ, ◌+◌, ◌*◌, cond, eqb, Result, Ok, Err}
use Rattle.answer.specs.declared.Refusal.{Refusal}
use Rattle.answer.specs.Refusals.{Answered, nothing, numbered_as}
use Rattle.answer.specs.Outcome.{Outcome, outcome}

-- a value times 256, and the number of docs/SCOPE.md's table
abbrev pub packed : ℕ → ℕ → ℕ
packed number value = value * 256 + number

-- the value of a refusal is its index
abbrev pub value_of : Answered → ℕ → ℕ
value_of e value = cond (eqb e.number 0) value e.index

abbrev pub word : Answered → ℕ → ℕ
word e value = packed e.number (value_of e value)

-- the word of a value or a refusal
abbrev pub word_of : Result ℕ Refusal → ℕ
word_of (Ok value) = word nothing value
word_of (Err e) = word (numbered_as e) 0

-- what a host is told of an outcome that is a refusal or done
unfoldable pub told : {M : Type 0} → Outcome Answered M → Outcome ℕ M
told x = outcome (word x.answer 0) x.after

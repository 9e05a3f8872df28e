-- What a call answers: a number and an index, by a list of rules of which the first that fails decides. Definitions only. Assumes nothing.
use Rattle.std.specs.Prelude.{ℕ, ◌≡◌, Bool, true, cond, ◌&&◌, List, [], ◌∷◌, ltb}
use Rattle.answer.specs.Refusals.{Answered, refusal, nothing}

-- a test, and what is answered where it fails
pub record Rule : Type 0 where
  pub refusal : Answered
  pub passed : Bool

abbrev pub rule_at : ℕ → ℕ → Bool → Rule
rule_at number index p = record { refusal = refusal number index; passed = p }

-- one that names no entry
abbrev pub rule : ℕ → Bool → Rule
rule number p = rule_at number 0 p

-- what the first rule that fails answers; nothing where none does
unfoldable pub answer : List Rule → Answered
answer [] = nothing
answer (r ∷ rs) = cond r.passed (answer rs) r.refusal

-- no rule answers 0
unfoldable pub numbered : List Rule → Bool
numbered [] = true
numbered (r ∷ rs) = ltb 0 r.refusal.number && numbered rs

-- every test passes
abbrev pub Passed : List Rule → Type 0
Passed [] = Unit {0}
Passed (r ∷ rs) = (r.passed ≡ true) × Passed rs

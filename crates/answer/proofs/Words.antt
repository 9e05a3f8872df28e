-- A host's word taken apart: the remainder by 256 is the number, and the quotient the value. Assumes nothing.
use Prim.Native.Nat.{ℕ, ◌+◌, ◌*◌, ◌/◌, ◌%◌, ◌<◌}
use mathlib.Core.Path.{◌≡◌, refl, ap, ◌∙◌}
use mathlib.Core.Bool.{Bool, true}
use mathlib.Core.List.{List}
use native.Mathlib.Nat.{add-zero, mod-eq_of_lt, div-eq_of_lt, mul-add-mod_self_right, mul-add-div_right}
use native.Mathlib.Omega.{arith}
use lib.Dec.{ltb}
use borrow.Author.Tests.{ltb-true}
use Rattle.answer.specs.Refusals.{Answered}
use Rattle.answer.specs.Rules.{Rule, answer}
use Rattle.answer.specs.Words.{value_of, word}
use Rattle.answer.proofs.Places.{numbers, number_passes}

-- what a host finds in a word
pub record Apart (word number value : ℕ) : Type 0 where
  pub low : word % 256 ≡ number
  pub rest : word / 256 ≡ value

pub apart : (e : Answered) (value : ℕ) → e.number < 256 → Apart (word e value) e.number (value_of e value)
apart e value h =
    record {
      low = mul-add-mod_self_right (value_of e value) 256 e.number ∙ mod-eq_of_lt h;
      rest = mul-add-div_right (omega arith) (value_of e value) e.number ∙ ap (λ (k : ℕ). value_of e value + k) (div-eq_of_lt h) ∙ add-zero (value_of e value);
    }

-- ---- an answer's number is a rule's, and each of these is below 256
abbrev pub below : ℕ → Bool
below n = ltb n 256

pub answer-small : (rs : List Rule) → numbers below rs ≡ true → (answer rs).number < 256
answer-small rs h = ltb-true (answer rs).number 256 (number_passes below refl rs h)

-- A call that goes by rules keeps the first demand. Assumes nothing.
use mathlib.Core.Path.{◌≡◌, refl, sym, ap, ◌∙◌}
use mathlib.Core.Bool.{Bool, true, false, cond}
use mathlib.Core.List.{List}
use lib.Dec.{eqb}
use borrow.Author.Tests.{eqb-true}
use Rattle.answer.specs.Refusals.{Answered, nothing}
use Rattle.answer.specs.Rules.{Rule, answer, numbered}
use Rattle.answer.specs.Names.{Table, Names}
use Rattle.answer.specs.Outcome.{Outcome, outcome, decided}
use Rattle.answer.proofs.Passing.{all_pass, passed-number, number-nothing}
use Rattle.answer.proofs.Outcomes.{decided-refused}
use Rattle.demands.specs.Calls.{Call, Ruled}

module _ {A M : Type 0} (refusal_of : A → Answered) (refused : Answered → A) (told : (e : Answered) → refusal_of (refused e) ≡ e)
    (work : Outcome A M) (free : refusal_of work.answer ≡ nothing) (lent : M) where
  -- an answer of 0 names no entry
  pub decides : (table : Answered) → (table.number ≡ 0 → nothing ≡ table) → Call (decided table work (refused table) lent) refusal_of table refused lent
  unfolding decided
  decides table clear =
      record { only = λ x y e f. e ∙ sym f; numbers = by (eqb table.number 0) refl; refuses = λ h. decided-refused table work (refused table) lent h }
    where
      by : (t : Bool) → eqb table.number 0 ≡ t → refusal_of (cond t work (outcome (refused table) lent)).answer ≡ table
      by true e = free ∙ clear (eqb-true table.number 0 e)
      by false e = told table

  pub ruled : (rules : List Rule) → numbered rules ≡ true → (names : Table) → Names names (answer rules)
      → Ruled (decided (answer rules) work (refused (answer rules)) lent) refusal_of rules refused lent names
  ruled rules h names placed =
      let c = decides (answer rules) (number-nothing rules h) in
      let number = ap (λ (e : Answered). e.number) c.numbers in
      record { call = c; passed = λ z. all_pass rules h (sym number ∙ z); done = λ p. number ∙ passed-number rules p; index = placed }

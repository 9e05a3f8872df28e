-- An order entry by entry, and what the second palette answers. Assumes nothing.
use Prim.Native.Nat.{ℕ, ◌<◌}
use mathlib.Core.Path.{◌≡◌, refl, sym}
use mathlib.Core.Bool.{Bool, true, false, true≢false}
use Rattle.std.specs.Prelude.{◌↔◌, IsTrue, EachIndex}
use mathlib.Core.List.{List, [], ◌∷◌}
use lib.Ieee.{Float}
use lib.ListN.{length, get_or}
use borrow.Author.Tests.{eq-eqb, ne_eqb, lt-ltb, ltb-true}
use Rattle.lists.specs.Every.{every}
use Rattle.lists.proofs.Loops.{every-at, every-all}
use Rattle.answer.specs.Refusals.{Answered, nothing}
use Rattle.answer.specs.Rules.{Rule, answer}
use Rattle.answer.proofs.Passing.{skips, none}
use Rattle.job.specs.Checks.{colour_rule}
use Rattle.job.proofs.Bad.{none-bad}
use Rattle.run_stages.specs.Record.{four, entry_fits, order_fits, looked_at}

-- ---- an order: what a test of all its entries says
pub order_tested : (n : ℕ) (order : List ℕ) (t : Bool) → (IsTrue t ↔ EachIndex order (λ k. get_or order k 0 < n)) → t ≡ order_fits n order
unfolding order_fits entry_fits
order_tested n order t e = by t (every (entry_fits n order) (length order)) refl e
  where
    by : (t b : Bool) → every (entry_fits n order) (length order) ≡ b → (IsTrue t ↔ EachIndex order (λ k. get_or order k 0 < n)) → t ≡ every (entry_fits n order) (length order)
    by true b h e = sym (every-all (entry_fits n order) (length order) (λ i l. lt-ltb _ _ (e.0 refl i l)))
    by false true h e = absurd (true≢false (sym (e.1 (λ i l. ltb-true _ _ (every-at (entry_fits n order) (length order) i h l)))))
    by false false h e = sym h

-- ---- the second palette, which only stage 2 looks at
module _ (cells stage : ℕ) (xs : List Float) where
  abbrev least_rule : Rule
  least_rule = colour_rule 16 cells four (looked_at stage xs)

  pub not-looked_at : (stage ≡ 2 → ⊥) → nothing ≡ answer (least_rule ∷ [])
  unfolding looked_at
  not-looked_at h = skips least_rule nothing [] (rw (ne_eqb stage 2 h) (none-bad four)) none

  pub looked_at_lem : stage ≡ 2 → (r : Answered) → r ≡ answer (colour_rule 16 cells four xs ∷ []) → r ≡ answer (least_rule ∷ [])
  unfolding looked_at
  looked_at_lem h r e = rw (eq-eqb stage 2 h) e

-- What the record, the working colours and the order answer: the first list of rules with a number decides. Assumes nothing.
use Prim.Native.Nat.{ℕ, ◌*◌}
use mathlib.Core.Path.{◌≡◌, refl}
use mathlib.Core.List.{List, [], ◌∷◌}
use lib.Ieee.{Float}
use Rattle.answer.specs.Refusals.{Answered}
use Rattle.answer.specs.Rules.{rule, answer, numbered}
use Rattle.answer.proofs.Passing.{stops, goes}
use Rattle.quantizer.specs.Course.{Course}
use Rattle.run_stages.specs.declared.Record.{Record}
use Rattle.run_stages.specs.State.{state_with}
use Rattle.run_stages.specs.Record.{order_fits, working_rules, record_rules, state_rules}

-- ---- the record, then the working colours, then the order
module _ (K : Course) (order : List ℕ) (palette least : List Float) (r : Record) (a : Answered) (e : a ≡ answer (record_rules K r)) where
  pub record-stops : (a.number ≡ 0 → ⊥) → a ≡ answer (state_rules K (state_with order [] palette least r))
  unfolding numbered
  record-stops h = stops (record_rules K r) _ a refl e h

  module _ (z : a.number ≡ 0) (b : Answered) (f : b ≡ answer (working_rules (K.job.S * K.job.C) r.stage palette least)) where
    pub working_stops : (b.number ≡ 0 → ⊥) → b ≡ answer (state_rules K (state_with order [] palette least r))
    unfolding numbered
    working_stops h = goes (record_rules K r) _ a b refl e z (stops (working_rules (K.job.S * K.job.C) r.stage palette least) _ b refl f h)

    pub working_goes : b.number ≡ 0 → (d : Answered) → d ≡ answer (rule 9 (order_fits K.n order) ∷ []) → d ≡ answer (state_rules K (state_with order [] palette least r))
    unfolding numbered
    working_goes y d h = goes (record_rules K r) _ a d refl e z (goes (working_rules (K.job.S * K.job.C) r.stage palette least) _ b d refl f y h)

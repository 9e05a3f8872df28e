-- What an advance that is refused, and one that is not, leaves. Assumes nothing.
use mathlib.Core.Path.{◌≡◌, ap, subst}
use mathlib.Core.Bool.{true}
use mathlib.Core.List.{List}
use Prim.Native.Nat.{ℕ}
use lib.Ieee.{Float}
use lib.ListN.{length}
use Rattle.answer.specs.Refusals.{Answered, nothing}
use Rattle.answer.specs.Outcome.{Outcome, outcome}
use Rattle.answer.proofs.Outcomes.{was_refused, was_done}
use Rattle.quantizer.specs.Course.{Course}
use Rattle.run_stages.specs.State.{State, state_with}
use Rattle.run_stages.specs.Stages.{advance, draws_of}
use Rattle.run_stages.specs.Calls.{Memory, record_words, record_of, state_of, memory, memory_of, advanced, advance_answer, advance_call, Advanced}
use Rattle.run_calls.proofs.Accepted.{job-passed}
use Rattle.run_calls.proofs.Answers.{advance_opened}
use Rattle.run_steps.specs.Running.{Running}

module _ (K : Course) (o h : List ℕ) (p l : List Float) (w : List ℕ) (a : Answered) (e : a ≡ advance_answer K (memory o h p l w)) where
  abbrev lent : Memory
  lent = memory o h p l w

  abbrev held : State
  held = state_with o h p l (record_of w)

  -- what an advance comes to that is accepted
  abbrev drawn : ℕ → Outcome Advanced Memory
  drawn allotment = outcome (advanced nothing (draws_of K allotment held)) (memory_of (advance K allotment held))

  pub refused : (allotment : ℕ) → (a.number ≡ 0 → ⊥) → outcome (advanced a 0) lent ≡ advance_call K lent allotment
  unfolding advance_call state_of
  refused allotment n = was_refused a (advance_answer K lent) e (drawn allotment) (λ x. advanced x 0) lent n

  pub work_asks : a.number ≡ 0 → Running K held × (length w ≡ record_words)
  unfolding state_of
  work_asks z =
      let A = (advance_opened K lent (subst (λ (x : Answered). x.number ≡ 0) e z)).0 in
      (record { room = true; passed = job-passed K true A.passed; fit = A.fit }, A.roomy.words)

  pub worked : (allotment : ℕ) → a.number ≡ 0 → (x : Outcome ℕ Memory) → x ≡ outcome (draws_of K allotment held) (memory_of (advance K allotment held))
      → outcome (advanced nothing x.answer) x.after ≡ advance_call K lent allotment
  unfolding advance_call state_of
  worked allotment z x q =
      was_done a (advance_answer K lent) e (drawn allotment) (λ y. advanced y 0) lent z (outcome (advanced nothing x.answer) x.after)
      (ap (λ (y : Outcome ℕ Memory). outcome (advanced nothing y.answer) y.after) q)

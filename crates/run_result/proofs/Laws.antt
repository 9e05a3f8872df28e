-- What a result that is refused, and one that is not, leaves. Assumes nothing.
use Prim.Native.Nat.{◌*◌}
use mathlib.Core.Path.{◌≡◌, sym, ap, subst, ◌∙◌}
use mathlib.Core.List.{List}
use lib.Ieee.{Float}
use lib.ListN.{length}
use borrow.Author.Tests.{eqb-true}
use Rattle.answer.specs.Refusals.{Answered, nothing}
use Rattle.answer.specs.Outcome.{outcome}
use Rattle.answer.proofs.Outcomes.{was_refused, was_done}
use Rattle.quantizer.specs.Course.{Course}
use Rattle.run_stages.specs.Calls.{Memory, colours_room, result_answer, result_call}
use Rattle.run_calls.proofs.Answers.{result_opened}

module _ (K : Course) (m : Memory) (out : List Float) (a : Answered) (e : a ≡ result_answer K m out) where
  pub refused : (a.number ≡ 0 → ⊥) → outcome a out ≡ result_call K m out
  unfolding result_call
  refused h = was_refused a (result_answer K m out) e (outcome nothing m.palette) (λ x. x) out h

  module _ (z : a.number ≡ 0) where
    pub same-room : length out ≡ length m.palette
    unfolding colours_room
    same-room =
        let o = result_opened K m out (subst (λ (x : Answered). x.number ≡ 0) e z) in
        eqb-true (length out) (3 * (K.job.S * K.job.C)) o.2 ∙ sym o.0.roomy.palette

    pub copied : (after : List Float) → after ≡ m.palette → outcome nothing after ≡ result_call K m out
    unfolding result_call
    copied after h = was_done a (result_answer K m out) e (outcome nothing m.palette) (λ x. x) out z (outcome nothing after) (ap (outcome nothing) h)

-- What each step of a hand-in asks and leaves, and what the call leaves, refused or not. Assumes nothing.
use Prim.Native.Nat.{ℕ, ◌*◌, ◌≤◌}
use mathlib.Core.Path.{◌≡◌, refl, sym, ap, subst, subst⁻¹, ◌∙◌}
use mathlib.Core.Logic.{◌≢◌, ◌⊎◌, inl, inr}
use mathlib.Core.Bool.{true, false}
use mathlib.Core.List.{List}
use native.Mathlib.Omega.{arith}
use lib.Dec.{eqb}
use lib.Ieee.{Float}
use lib.ListN.{length}
use borrow.Author.Tests.{eq-eqb, ne_eqb, eqb-true}
use Rattle.answer.specs.Refusals.{Answered, nothing}
use Rattle.answer.specs.Outcome.{outcome}
use Rattle.answer.proofs.Outcomes.{was_refused, was_done}
use Rattle.color.proofs.Sizes.{bounded_wider}
use Rattle.job.specs.Job.{two}
use Rattle.job.proofs.Ready.{two-within, components_within}
use Rattle.quantizer.specs.Course.{Course, b}
use Rattle.run_stages.specs.declared.Record.{Record}
use Rattle.run_stages.specs.State.{State, state_with, placed, beside}
use Rattle.run_stages.specs.Stages.{finish_round, settle, refined_once, hand_in}
use Rattle.run_stages.specs.Calls.{Memory, memory, record_words, record_of, words_of, state_of, memory_of, colours_room, hand_in_answer, hand_in_call}
use Rattle.run_calls.proofs.Cases.{decide}
use Rattle.run_calls.specs.Place.{Placed}
use Rattle.run_calls.proofs.Place.{final_placed, made-at_3}
use Rattle.run_calls.proofs.Settling.{settle-done, settle-more, finish_placed}
use Rattle.run_calls.proofs.Accepted.{job-passed}
use Rattle.run_calls.proofs.Answers.{hand_in_opened}
use Rattle.run_refine.specs.Refines.{refined_times, hints_times, final_draws, Handed}

-- ---- what follows a stop
module _ (K : Course) (o h : List ℕ) (p l : List Float) (r : Record) (A : Handed K (state_with o h p l r)) where
  -- the final draws begin; where there are none their round is over
  module _ (k : r.stage ≡ 3) where
    subs : 1 ≤ K.job.S
    subs = A.refinable.ready.sizes.subs

    some : 1 ≤ K.job.C
    some = A.refinable.ready.sizes.some

    first-placed : Placed K (state_with o h p l (placed r 4 0 (10 * b K)))
    first-placed = final_placed K subs some (state_with o h p l r) (made-at_3 K subs some (state_with o h p l r) A.place k)

    settled : (eqb (10 * b K) 0 ≡ true) ⊎ (eqb (10 * b K) 0 ≡ false) → state_with o h p l (final_draws K.n r) ≡ settle K (state_with o h p l (placed r 4 0 (10 * b K)))
    unfolding final_draws finish_round beside
    settled (inl t) =
        let s = state_with o h p l (placed r 4 0 (10 * b K)) in
        rw t (sym (settle-more K subs some s first-placed t ∙ settle-done K subs some (finish_round K s) (finish_placed K subs some s first-placed t) refl))
    settled (inr t) = rw t (sym (settle-done K subs some (state_with o h p l (placed r 4 0 (10 * b K))) first-placed t))

    pub final : (x : Record) → x ≡ final_draws K.n r → state_with o h p l x ≡ hand_in K p (state_with o h p l r)
    unfolding hand_in
    final x e = rw (eq-eqb r.stage 3 k) (ap (state_with o h p l) e ∙ settled (decide (eqb (10 * b K) 0)))

  pub refined_on : r.stage ≢ 3 → r.stage ≡ 5 → (h2 : List ℕ) (p2 : List Float) → (p2 ≡ refined_times K.job 4 p) × (h2 ≡ hints_times K.job 4 p h)
      → (x : Record) → x ≡ placed r 6 0 0 → state_with o h2 p2 l x ≡ hand_in K p (state_with o h p l r)
  unfolding hand_in refined_once refined_times hints_times
  refined_on a k h2 p2 e x er = rw (ne_eqb r.stage 3 a, eq-eqb r.stage 5 k, e.0, e.1, er)

  pub last_on : r.stage ≢ 3 → r.stage ≢ 5 → (x : Record) → x ≡ placed r 7 0 0 → state_with o h p l x ≡ hand_in K p (state_with o h p l r)
  unfolding hand_in
  last_on a k x er = rw (ne_eqb r.stage 3 a, ne_eqb r.stage 5 k, er)

-- ---- the call
module _ (K : Course) (m : Memory) (reduced : List Float) (a : Answered) (e : a ≡ hand_in_answer K m reduced) where
  pub refused : (a.number ≡ 0 → ⊥) → outcome a m ≡ hand_in_call K m reduced
  unfolding hand_in_call
  refused h = was_refused a (hand_in_answer K m reduced) e (outcome nothing (memory_of (hand_in K reduced (state_of m)))) (λ x. x) m h

  module _ (z : a.number ≡ 0) where
    answered : (hand_in_answer K m reduced).number ≡ 0
    answered = subst (λ (x : Answered). x.number ≡ 0) e z

    sized : length reduced ≡ 3 * (K.job.S * K.job.C)
    unfolding colours_room
    sized = eqb-true (length reduced) (3 * (K.job.S * K.job.C)) (hand_in_opened K m reduced answered).2

    pub same-room : length m.palette ≡ length reduced
    same-room = (hand_in_opened K m reduced answered).0.roomy.palette ∙ sym sized

    pub recorded : length m.words ≡ record_words
    recorded = (hand_in_opened K m reduced answered).0.roomy.words

    module _ (p : List Float) (ep : p ≡ reduced) (r : Record) (er : r ≡ record_of m.words) where
      pub handed : Handed K (state_with m.order m.hints p m.least r)
      unfolding state_of
      handed =
          let o = hand_in_opened K m reduced answered in
          let D = job-passed K true o.0.passed in
          record {
            refinable = record {
              ready = D.ready;
              all = rw ep sized;
              bound = rw ep (bounded_wider reduced 2 4 (omega arith) (components_within two reduced 2 two-within o.3));
              each = o.0.roomy.hints;
            };
            few = D.few;
            place = subst⁻¹ (λ (q : Record). Placed K (state_with m.order m.hints p m.least q)) er o.0.fit.rests.place;
          }

      same-call : hand_in K p (state_with m.order m.hints p m.least r) ≡ hand_in K reduced (state_of m)
      unfolding hand_in state_of
      same-call = rw (ep, er)

      pub accepted : (h2 : List ℕ) (p2 : List Float) (x : Record) → state_with m.order h2 p2 m.least x ≡ hand_in K p (state_with m.order m.hints p m.least r) → (w2 : List ℕ) → w2 ≡ words_of x
          → outcome nothing (memory m.order h2 p2 m.least w2) ≡ hand_in_call K m reduced
      unfolding hand_in_call memory_of
      accepted h2 p2 x f w2 ew =
          was_done a (hand_in_answer K m reduced) e (outcome nothing (memory_of (hand_in K reduced (state_of m)))) (λ y. y) m z
          (outcome nothing (memory m.order h2 p2 m.least w2))
          (ap (λ (w : List ℕ). outcome nothing (memory m.order h2 p2 m.least w)) ew ∙ ap (λ (s : State). outcome nothing (memory_of s)) (f ∙ same-call))

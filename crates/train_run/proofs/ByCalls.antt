-- The public calls that `train` makes are accepted, each at its moment, and come to the training that is defined. Assumes nothing.
use mathlib.Core.Path.{◌≡◌, refl, sym, ap, subst, subst⁻¹, ◌∙◌}
use Prim.Native.Nat.{◌+◌, ◌*◌, ◌≤◌}
use native.Mathlib.Omega.{arith}
use mathlib.Core.Bool.{true, false, true≢false}
use mathlib.Core.Logic.{◌⊎◌, inl, inr}
use mathlib.Core.List.{List}
use lib.ListN.{length}
use lib.Ieee.{Float}
use borrow.Author.Tests.{eq-eqb}
use Rattle.job.specs.Job.{two}
use Rattle.answer.specs.Refusals.{Answered}
use Rattle.answer.specs.Rules.{Passed}
use Rattle.answer.specs.Outcome.{Outcome}
use Rattle.answer.proofs.Outcomes.{decided-refused}
use Rattle.job.specs.Checks.{components_fit}
use Rattle.job.specs.Gives.{Sampled}
use Rattle.quantizer.specs.Course.{Course}
use Rattle.run_stages.specs.State.{State, draws, stops}
use Rattle.run_stages.specs.Stages.{advance, start, hand_in}
use Rattle.run_stages.specs.Calls.{Memory, Advanced, state_of, memory_of, colours_room, job_rules, advance_answer, hand_in_answer, start_call, advance_call}
use Rattle.run_calls.proofs.Cases.{decide}
use Rattle.run_calls.specs.Fit.{Fit}
use Rattle.run_calls.proofs.Fit.{start-fit, advance-fit}
use Rattle.run_calls.proofs.Accepted.{job-passed, holds}
use Rattle.run_calls.specs.Accepted.{Roomy}
use Rattle.run_calls.proofs.Answers.{start_closed, advance_opened, advance_closed, hand_in_closed}
use Rattle.run_calls.proofs.Next.{held-state, start-done, advance-done, hand_in-done, hand_in_leaves}
use Rattle.train_run.specs.Training.{cut, all, to_stop, hand_cut, turn, trained, go_call, stop_call, turn_call, turn_calls, train_calls}
use Rattle.train_run.proofs.Cuts.{length_cut, cut_fits}
use Rattle.train_run.proofs.Stops.{handed_late, handed_refined, handed_last, to_reduction, to_drawn, stays}

module _ (K : Course) (P : Passed (job_rules K true)) where
  D : Sampled K.job K.n K.samples true
  D = job-passed K true P

  -- a memory that holds a state that every call accepts
  record Holds (m : Memory) (s : State) : Type 0 where
    pub is : m ≡ memory_of s
    pub fit : Fit K s

  started : (m : Memory) → Roomy K m → Holds (start_call K m 0).after (start K 0 m.hints)
  started m r = record {
    is = ap (λ (x : Outcome Answered Memory). x.after) (start-done K m 0 (start_closed K m P r));
    fit = start-fit K true D 0 m.hints r.hints;
  }

  -- an advance. At a stop it is refused, and there the definition makes no draw
  gone : {m : Memory} {s : State} → Holds m s → Holds (go_call K m) (to_stop K s)
  unfolding to_stop
  gone {m} {s} H = record { is = ap (go_call K) H.is ∙ by (decide (draws s.rec.stage)); fit = advance-fit K true D all s H.fit }
    where
      by : (draws s.rec.stage ≡ true) ⊎ (draws s.rec.stage ≡ false) → go_call K (memory_of s) ≡ memory_of (advance K all s)
      by (inl d) =
          ap (λ (x : Outcome Advanced Memory). x.after) (advance-done K (memory_of s) all (advance_closed K (memory_of s) (holds K s P H.fit) (rw (held-state s) d)))
          ∙ ap (λ (z : State). memory_of (advance K all z)) (held-state s)
      by (inr d) =
          unfold advance_call in
          ap (λ (x : Outcome Advanced Memory). x.after) (decided-refused (advance_answer K (memory_of s)) _ _ (memory_of s) (λ e. true≢false (sym (rw (held-state s) at (advance_opened K (memory_of s) e).1) ∙ d)))
          ∙ ap memory_of (sym (stays K s d))

  -- a hand-in at a stop
  handed : {m : Memory} {s : State} → Holds m s → stops s.rec.stage ≡ true → Holds (stop_call K m) (hand_cut K s)
  unfolding hand_cut
  handed {m} {s} H d = record { is = ap (stop_call K) H.is ∙ left; fit = subst (Fit K) (ap state_of left ∙ held-state (hand_in K (cut s.palette) s)) (hand_in_leaves K (memory_of s) (cut (memory_of s).palette) taken).fit }
    where
      same : (memory_of s).palette ≡ s.palette
      same = unfold memory_of in refl

      long : colours_room K (cut (memory_of s).palette) ≡ true
      long = unfold colours_room in eq-eqb _ _ (length_cut (memory_of s).palette ∙ ap length same ∙ H.fit.sound.held.size)

      taken : (hand_in_answer K (memory_of s) (cut (memory_of s).palette)).number ≡ 0
      taken =
          hand_in_closed K (memory_of s) (cut (memory_of s).palette) (holds K s P H.fit) (rw (held-state s) d) long
          (cut_fits (memory_of s).palette (rw same H.fit.sound.held.bound))

      left : stop_call K (memory_of s) ≡ memory_of (hand_in K (cut s.palette) s)
      left =
          ap (λ (x : Outcome Answered Memory). x.after) (hand_in-done K (memory_of s) (cut (memory_of s).palette) taken)
          ∙ ap (λ (z : State). memory_of (hand_in K (cut (memory_of s).palette) z)) (held-state s)
          ∙ ap (λ (x : List Float). memory_of (hand_in K (cut x) s)) same

  -- a turn that comes to a stop
  turned : {m : Memory} {s : State} → Holds m s → stops (to_stop K s).rec.stage ≡ true → Holds (turn_call K m) (turn K s)
  unfolding turn turn_call
  turned H d = handed (gone H) d

  -- ---- the stops, one after the other
  few : K.job.S + K.job.C ≤ 32
  few = omega (arith, D.ready.sizes.few, D.ready.sizes.cap)

  module _ (m : Memory) (r : Roomy K m) where
    begun : State
    begun = start K 0 m.hints

    at_reduction : (to_stop K begun).rec.stage ≡ 3
    unfolding begun
    at_reduction = to_reduction K D.ready.sizes.subs D.ready.sizes.some few D.few m.hints

    reduced : Holds (turn_calls K 1 (start_call K m 0).after) (turn K begun)
    unfolding turn_calls begun
    reduced = turned (started m r) (ap stops at_reduction)

    at-drawn : (to_stop K (turn K begun)).rec.stage ≡ 5
    unfolding turn hand_cut
    at-drawn =
        to_drawn K D.ready.sizes.subs D.ready.sizes.some few D.few (turn K begun) reduced.fit.rests
        (handed_late K (cut (to_stop K begun).palette) (to_stop K begun) at_reduction)

    drawn : Holds (turn_calls K 2 (start_call K m 0).after) (turn K (turn K begun))
    unfolding turn_calls
    drawn = turned reduced (ap stops at-drawn)

    -- behind the refinements no draw is left
    at-refined : (to_stop K (turn K (turn K begun))).rec.stage ≡ 6
    at-refined = ap (λ (s : State). s.rec.stage) (stays K (turn K (turn K begun)) (ap draws refined)) ∙ refined
      where
        refined : (turn K (turn K begun)).rec.stage ≡ 6
        refined = unfold turn hand_cut in handed_refined K (cut (to_stop K (turn K begun)).palette) (to_stop K (turn K begun)) at-drawn

    finished : Holds (train_calls K m) (trained K m.hints)
    unfolding turn_calls trained begun
    finished = turned drawn (ap stops at-refined)

    -- ---- the palette that the calls leave
    pub calls_train : (train_calls K m).palette ≡ (trained K m.hints).palette
    unfolding memory_of
    calls_train = ap (λ (x : Memory). x.palette) finished.is

    -- it has its length, and is within 2
    pub trained-fits : (length (trained K m.hints).palette ≡ 3 * (K.job.S * K.job.C)) × (components_fit two (trained K m.hints).palette ≡ true)
    trained-fits = (finished.fit.sound.held.size, subst⁻¹ (λ (x : List Float). components_fit two x ≡ true) last (cut_fits (to_stop K (turn K (turn K begun))).palette (gone drawn).fit.sound.held.bound))
      where
        last : (trained K m.hints).palette ≡ cut (to_stop K (turn K (turn K begun))).palette
        last = unfold trained turn hand_cut begun in handed_last K (cut (to_stop K (turn K (turn K begun))).palette) (to_stop K (turn K (turn K begun))) at-refined

-- How a run ends: what brings the finish nearer, and that short of it a call is accepted. Assumes nothing.
use Prim.Native.Nat.{ℕ, suc, ◌+◌, ◌*◌, ◌≤◌, ◌<◌}
use mathlib.Core.Path.{◌≡◌, refl, sym, ap, ◌∙◌}
use mathlib.Core.Bool.{true, false}
use mathlib.Core.Logic.{◌⊎◌, inl, inr, ◌≢◌}
use mathlib.Core.List.{List}
use native.Mathlib.Decide.{ℕ_discrete}
use native.Mathlib.Omega.{arith}
use lib.ListN.{get_or}
use lib.Ieee.{Float}
use borrow.Author.Tests.{eq-eqb}
use Rattle.job.specs.Job.{two}
use Rattle.job.specs.Checks.{components_fit}
use Rattle.quantizer.specs.Course.{Course, b}
use Rattle.answer.specs.Outcome.{Outcome}
use Rattle.run_stages.specs.Calls.{Advanced}
use Rattle.run_stages.specs.State.{State, draws, stops}
use Rattle.run_stages.specs.Stages.{going, step, advance, draws_of}
use Rattle.run_stages.specs.Calls.{Memory, state_of, colours_room, advance_answer, hand_in_answer, result_answer, advance_call, hand_in_call}
use Rattle.run_calls.proofs.Cases.{decide}
use Rattle.run_calls.proofs.Whilsts.{times-step}
use Rattle.run_calls.specs.Place.{Placed, seeding, growing, replacing, reducing, finishing, over}
use Rattle.run_calls.proofs.Place.{some_left}
use Rattle.run_calls.proofs.Made.{advance-made, hand_in-made, all_spent}
use Rattle.run_calls.specs.HandIns.{hand_ins}
use Rattle.run_calls.proofs.HandIns.{few-hand_ins, advance-hand_ins, hand_in-one}
use Rattle.run_calls.proofs.Settling.{made-few}
use Rattle.run_calls.specs.Accepted.{Accepted}
use Rattle.run_calls.proofs.Answers.{advance_opened, advance_closed, hand_in_opened, hand_in_closed, result_closed}
use Rattle.run_calls.proofs.Next.{advance-done, advanced-state, handed_state, advance_leaves, call-draws}
use Rattle.demands.specs.Ends.{Calls, advanced, ahead, handed_in, none}

module _ (K : Course) where
  -- a run makes no more than (S + C + 18) · b draws
  few-made : (m : Memory) → Accepted K m → get_or m.words 4 0 ≤ (K.job.S + K.job.C + 18) * b K
  unfolding state_of
  few-made m A = omega (arith, made-few K (state_of m) A.fit.rests.place)

  -- an advance brings the finish nearer by the draws that it reports, which are some where it has an allotment
  pub advance_nearer : (m : Memory) (a : ℕ) → (advance_answer K m).number ≡ 0 → ahead K (advance_call K m a).after + (advance_call K m a).answer.draws ≡ ahead K m
  advance_nearer m a h = omega (arith, few-made (advance_call K m a).after (advance_leaves K m a h), call-draws K m a, same)
    where
      same : hand_ins (get_or (advance_call K m a).after.words 1 0) ≡ hand_ins (get_or m.words 1 0)
      same = unfold state_of in ap (λ (s : State). hand_ins s.rec.stage) (advanced-state K m a h) ∙ advance-hand_ins K a (state_of m) (advance_opened K m h).1

  pub advance_draws : (m : Memory) (a : ℕ) → (advance_answer K m).number ≡ 0 → 1 ≤ (advance_call K m (suc a)).answer.draws
  unfolding advance_call
  advance_draws m a h =
      omega (arith, ap (λ (x : Outcome Advanced Memory). x.answer.draws) (advance-done K m (suc a) h), times-step going (step K) a (state_of m) (advance_opened K m h).1)

  -- and where its allotment covers the draws that are missing it ends at a stop
  pub advance_stops : (m : Memory) (a : ℕ) → (advance_answer K m).number ≡ 0 → (K.job.S + K.job.C + 18) * b K ≤ get_or m.words 4 0 + a
      → draws (get_or (advance_call K m a).after.words 1 0) ≡ false
  advance_stops m a h l = elim (decide (draws (get_or (advance_call K m a).after.words 1 0))) [
    | inl t ↦ absurd (omega (arith, l, spent t, made, left t))
    | inr t ↦ t
  ]
    where
      A : Accepted K (advance_call K m a).after
      A = advance_leaves K m a h

      made : get_or (advance_call K m a).after.words 4 0 ≡ get_or m.words 4 0 + draws_of K a (state_of m)
      made = unfold state_of in ap (λ (s : State). s.rec.made) (advanced-state K m a h) ∙ advance-made K a (state_of m)

      spent : draws (get_or (advance_call K m a).after.words 1 0) ≡ true → draws_of K a (state_of m) ≡ a
      spent t = unfold state_of in all_spent K a (state_of m) (sym (ap (λ (s : State). draws s.rec.stage) (advanced-state K m a h)) ∙ t)

      left : draws (get_or (advance_call K m a).after.words 1 0) ≡ true → get_or (advance_call K m a).after.words 4 0 < (K.job.S + K.job.C + 18) * b K
      left t =
          unfold state_of in
          omega (arith, some_left K (state_of (advance_call K m a).after) A.fit.rests t, made-few K (state_of (advance_call K m a).after) A.fit.rests.place)

  pub hand_in_nearer : (m : Memory) (reduced : List Float) → (hand_in_answer K m reduced).number ≡ 0 → suc (ahead K (hand_in_call K m reduced).after) ≡ ahead K m
  hand_in_nearer m reduced h = omega (arith, same, one)
    where
      same : get_or (hand_in_call K m reduced).after.words 4 0 ≡ get_or m.words 4 0
      same = unfold state_of in ap (λ (s : State). s.rec.made) (handed_state K m reduced h) ∙ hand_in-made K reduced (state_of m)

      one : suc (hand_ins (get_or (hand_in_call K m reduced).after.words 1 0)) ≡ hand_ins (get_or m.words 1 0)
      one = unfold state_of in ap (λ (s : State). suc (hand_ins s.rec.stage)) (handed_state K m reduced h) ∙ hand_in-one K reduced (state_of m) (hand_in_opened K m reduced h).1

  -- so no row of calls is longer than what was ahead
  pub ends : {m x : Memory} {k : ℕ} → Calls K m k x → k + ahead K x ≤ ahead K m
  ends none = omega arith
  ends (advanced {k} {x} c a h) = omega (arith, ends c, advance_nearer x (suc a) h, advance_draws x a h)
  ends (handed_in {k} {x} c reduced h) = omega (arith, ends c, hand_in_nearer x reduced h)

  pub few_calls : {m x : Memory} {k : ℕ} → Calls K m k x → k ≤ (K.job.S + K.job.C + 18) * b K + 3
  few_calls {m} c = omega (arith, ends c, few-hand_ins (get_or m.words 1 0))

  -- short of the finish a call is accepted, and at the finish the result is
  pub goes_on : (m : Memory) → Accepted K m → get_or m.words 1 0 ≢ 7
      → ((advance_answer K m).number ≡ 0) ⊎ ((reduced : List Float) → colours_room K reduced ≡ true → components_fit two reduced ≡ true → (hand_in_answer K m reduced).number ≡ 0)
  unfolding state_of
  goes_on m A n = by A.fit.rests.place
    where
      drawn : {k : ℕ} → get_or m.words 1 0 ≡ k → draws k ≡ true → (advance_answer K m).number ≡ 0
      drawn k d = advance_closed K m A (ap draws k ∙ d)

      stopped : {k : ℕ} → get_or m.words 1 0 ≡ k → stops k ≡ true → (reduced : List Float) → colours_room K reduced ≡ true → components_fit two reduced ≡ true → (hand_in_answer K m reduced).number ≡ 0
      stopped k d reduced r f = hand_in_closed K m reduced A (ap stops k ∙ d) r f

      by : Placed K (state_of m)
          → ((advance_answer K m).number ≡ 0) ⊎ ((reduced : List Float) → colours_room K reduced ≡ true → components_fit two reduced ≡ true → (hand_in_answer K m reduced).number ≡ 0)
      by (seeding k r l e) = inl (drawn k refl)
      by (growing k r l e) = inl (drawn k refl)
      by (replacing k r l e) = inl (drawn k refl)
      by (reducing k r l e) = inr (stopped k refl)
      by (finishing k r l e) = inl (drawn k refl)
      by (over k past r l e) = elim (ℕ_discrete (get_or m.words 1 0) 5) [
        | yes q ↦ inr (stopped q refl)
        | no q ↦ inr (stopped {k = 6} (omega (arith, q, n)) refl)
      ]

  pub finished : (m : Memory) → Accepted K m → get_or m.words 1 0 ≡ 7 → (out : List Float) → colours_room K out ≡ true → (result_answer K m out).number ≡ 0
  unfolding state_of
  finished m A e out r = result_closed K m out A (eq-eqb (get_or m.words 1 0) 7 e) r

-- An advance makes no more draws than a whole run, and an index is small: so an answer fits 64 bits. Assumes nothing.
use Prim.Native.Nat.{ℕ, ◌≤◌}
use mathlib.Core.Path.{◌≡◌, refl}
use mathlib.Core.Bool.{Bool, true, false, cond}
use mathlib.Core.List.{List, []}
use native.Mathlib.Omega.{arith}
use lib.Dec.{eqb}
use lib.Ieee.{Float}
use lib.ListN.{length}
use borrow.Author.Tests.{eqb-true}
use Rattle.answer.specs.Refusals.{Answered, nothing}
use Rattle.answer.specs.Rules.{answer}
use Rattle.answer.specs.Outcome.{Outcome, outcome, decided}
use Rattle.job.specs.Job.{Job}
use Rattle.job.specs.Checks.{plain_answer}
use Rattle.job.specs.Bad.{plain_names, most_index}
use Rattle.job.proofs.Indexes.{unplaced, plain-placed}
use Rattle.assign.specs.Assign as assigning
use Rattle.quantizer.specs.Course.{Course}
use Rattle.run_stages.specs.Stages.{advance, draws_of}
use Rattle.run_stages.specs.Calls.{Memory, state_of, start_answer, advance_answer, hand_in_answer, result_answer, start_call, advance_call, hand_in_call, result_call, Advanced}
use Rattle.run_calls.proofs.Cases.{by-test}
use Rattle.run_calls.proofs.Place.{advance-rests}
use Rattle.run_calls.proofs.Made.{advance-made}
use Rattle.run_calls.proofs.Accepted.{job-passed}
use Rattle.run_calls.proofs.Answers.{advance_opened}
use Rattle.run_calls.proofs.Indexes.{start-placed, advance-placed, hand_in-placed, result-placed}
use Rattle.run_draw.proofs.Draws.{few-made}

-- the index of a call that is done or refused
decided-few : {M : Type 0} (e : Answered) (after lent : M) → e.index ≤ most_index → (decided e (outcome nothing after) e lent).answer.index ≤ most_index
unfolding decided
decided-few {M} e after lent h = by (eqb e.number 0)
  where
    by : (b : Bool) → (cond b (outcome nothing after) (outcome e lent)).answer.index ≤ most_index
    by true = omega arith
    by false = h

module _ (K : Course) (m : Memory) where
  pub start-few : (seed : ℕ) → (start_call K m seed).answer.index ≤ most_index
  unfolding start_call
  start-few seed = decided-few (start_answer K m) _ m (start-placed K m).1

  pub hand_in-few : (reduced : List Float) → (hand_in_call K m reduced).answer.index ≤ most_index
  unfolding hand_in_call
  hand_in-few reduced = decided-few (hand_in_answer K m reduced) _ m (hand_in-placed K m reduced).1

  pub result-few : (out : List Float) → (result_call K m out).answer.index ≤ most_index
  unfolding result_call
  result-few out = decided-few (result_answer K m out) _ out (result-placed K m out).1

  pub advance-few : (a : ℕ) → (advance_call K m a).answer.refusal.index ≤ most_index
  unfolding advance_call decided
  advance-few a = by-test (λ (x : Outcome Advanced Memory). x.answer.refusal.index ≤ most_index) (eqb (advance_answer K m).number 0) (λ _. omega arith) (λ _. (advance-placed K m).1)

  pub draws-few : (a : ℕ) → (advance_call K m a).answer.draws ≤ 81950
  unfolding advance_call decided
  draws-few a = by-test (λ (x : Outcome Advanced Memory). x.answer.draws ≤ 81950) (eqb (advance_answer K m).number 0) (λ t. accepted (eqb-true _ _ t)) (λ _. omega arith)
    where
      accepted : (advance_answer K m).number ≡ 0 → draws_of K a (state_of m) ≤ 81950
      accepted z =
          let A = (advance_opened K m z).0 in
          let D = job-passed K true A.passed in
          let R = advance-rests K D.ready.sizes.subs D.ready.sizes.some a (state_of m) A.fit.rests in
          omega (arith, advance-made K a (state_of m), few-made K D.ready.sizes.few D.ready.sizes.cap D.few (advance K a (state_of m)) R.place)

pub assign-few : (J : Job) (palette : List Float) (h : assigning.TileMemory) → (assigning.assign_def J palette h).answer.index ≤ most_index
unfolding assigning.assign_def assigning.assign_answer plain_answer answer
assign-few J palette h =
    decided-few (assigning.assign_answer J palette h) _ h
    (plain-placed J palette (assigning.room_for J.T (length h.hints) (length h.out)) [] (λ _. unplaced (plain_names J palette) 0 refl)).1

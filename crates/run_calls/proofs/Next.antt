-- The calls one after the other: what one leaves is accepted by the next, dividing an allotment makes no difference, the draws reported are the growth
-- of word 4, and a finished run has made (S + C + 18) · b of them. Assumes nothing.
use mathlib.Core.Path.{◌≡◌, refl, sym, ap, subst, ◌∙◌}
use mathlib.Core.Bool.{true, false, ◌||◌}
use mathlib.Core.Logic.{◌≢◌}
use mathlib.Core.List.{List}
use Prim.Native.Nat.{ℕ, ◌+◌, ◌*◌, ◌≤◌}
use native.Mathlib.Omega.{arith}
use lib.ListN.{length, get_or}
use lib.Dec.{eqb}
use lib.Ieee.{Float}
use borrow.Author.Tests.{eqb-true}
use Rattle.lists.proofs.Tests.{or_case}
use Rattle.answer.specs.Refusals.{Answered, nothing}
use Rattle.answer.specs.Outcome.{Outcome, outcome, decided}
use Rattle.answer.proofs.Outcomes.{decided-done}
use Rattle.color.proofs.Sizes.{bounded_wider}
use Rattle.job.specs.Job.{two}
use Rattle.job.proofs.Ready.{two-within, components_within}
use Rattle.quantizer.specs.Course.{Course, b}
use Rattle.run_stages.specs.State.{State, draws, stops}
use Rattle.run_stages.specs.Stages.{advance, draws_of, start, hand_in}
use Rattle.run_stages.specs.Calls.{Memory, state_of, memory_of, advanced, colours_room, start_answer, advance_answer, hand_in_answer, result_answer, start_call, advance_call, hand_in_call, Advanced}
use Rattle.run_calls.proofs.Cases.{by-test}
use Rattle.run_calls.proofs.Split.{advance-add, draws-add}
use Rattle.run_calls.proofs.Place.{made-at_3, made-at_end}
use Rattle.run_calls.proofs.Made.{advance-made, straight}
use Rattle.run_calls.specs.Sound.{Held}
use Rattle.run_calls.proofs.Fit.{advance-fit, start-fit, hand_in-fit}
use Rattle.run_calls.specs.Accepted.{Accepted}
use Rattle.run_calls.proofs.Accepted.{job-passed, holds}
use Rattle.run_calls.proofs.Answers.{start_opened, advance_opened, advance_closed, hand_in_opened, result_opened}

-- a memory holds what was written to it
pub held-state : (s : State) → state_of (memory_of s) ≡ s
unfolding state_of memory_of
held-state s = refl

-- ---- an accepted call, and the state after it
module _ (K : Course) (m : Memory) where
  pub start-done : (seed : ℕ) → (start_answer K m).number ≡ 0 → start_call K m seed ≡ outcome nothing (memory_of (start K seed m.hints))
  unfolding start_call
  start-done seed h = decided-done (start_answer K m) _ _ m h

  pub advance-done : (a : ℕ) → (advance_answer K m).number ≡ 0
      → advance_call K m a ≡ outcome (advanced nothing (draws_of K a (state_of m))) (memory_of (advance K a (state_of m)))
  unfolding advance_call
  advance-done a h = decided-done (advance_answer K m) _ _ m h

  pub hand_in-done : (reduced : List Float) → (hand_in_answer K m reduced).number ≡ 0 → hand_in_call K m reduced ≡ outcome nothing (memory_of (hand_in K reduced (state_of m)))
  unfolding hand_in_call
  hand_in-done reduced h = decided-done (hand_in_answer K m reduced) _ _ m h

  pub started-state : (seed : ℕ) → (start_answer K m).number ≡ 0 → state_of (start_call K m seed).after ≡ start K seed m.hints
  started-state seed h = ap (λ (x : Outcome Answered Memory). state_of x.after) (start-done seed h) ∙ held-state (start K seed m.hints)

  pub advanced-state : (a : ℕ) → (advance_answer K m).number ≡ 0 → state_of (advance_call K m a).after ≡ advance K a (state_of m)
  advanced-state a h = ap (λ (x : Outcome Advanced Memory). state_of x.after) (advance-done a h) ∙ held-state (advance K a (state_of m))

  pub handed_state : (reduced : List Float) → (hand_in_answer K m reduced).number ≡ 0 → state_of (hand_in_call K m reduced).after ≡ hand_in K reduced (state_of m)
  handed_state reduced h = ap (λ (x : Outcome Answered Memory). state_of x.after) (hand_in-done reduced h) ∙ held-state (hand_in K reduced (state_of m))

-- at a stop no draw is due, and the stage is no 2
pub quiet_at : (k : ℕ) → stops k ≡ true → (draws k ≡ false) × (k ≤ 6) × (k ≢ 2)
quiet_at k e =
    or_case (eqb k 3 || eqb k 5) (eqb k 6) e
    (λ d. or_case (eqb k 3) (eqb k 5) d (λ q. known 3 (eqb-true k 3 q) refl (omega arith) (omega arith)) (λ q. known 5 (eqb-true k 5 q) refl (omega arith) (omega arith)))
    (λ q. known 6 (eqb-true k 6 q) refl (omega arith) (omega arith))
  where
    known : (j : ℕ) → k ≡ j → draws j ≡ false → j ≤ 6 → j ≢ 2 → (draws k ≡ false) × (k ≤ 6) × (k ≢ 2)
    known j q d l n = rw q (d, l, n)

-- what an accepted advance comes to, from its draws and the memory that it leaves
abbrev pub made : ℕ → Memory → Outcome Advanced Memory
made n m = outcome (advanced nothing n) m

module _ (K : Course) where
  -- ---- what a call leaves is accepted
  pub start_leaves : (m : Memory) (seed : ℕ) → (start_answer K m).number ≡ 0 → Accepted K (start_call K m seed).after
  start_leaves m seed h =
      let o = start_opened K m h in
      subst (λ (x : Outcome Answered Memory). Accepted K x.after) (sym (start-done K m seed h))
      (holds K (start K seed m.hints) o.0 (start-fit K true (job-passed K true o.0) seed m.hints o.1.hints))

  pub advance_leaves : (m : Memory) (a : ℕ) → (advance_answer K m).number ≡ 0 → Accepted K (advance_call K m a).after
  advance_leaves m a h =
      let A = (advance_opened K m h).0 in
      subst (λ (x : Outcome Advanced Memory). Accepted K x.after) (sym (advance-done K m a h))
      (holds K (advance K a (state_of m)) A.passed (advance-fit K true (job-passed K true A.passed) a (state_of m) A.fit))

  pub hand_in_leaves : (m : Memory) (reduced : List Float) → (hand_in_answer K m reduced).number ≡ 0 → Accepted K (hand_in_call K m reduced).after
  unfolding colours_room
  hand_in_leaves m reduced h =
      let o = hand_in_opened K m reduced h in
      let A = o.0 in
      let q = quiet_at (state_of m).rec.stage o.1 in
      let H : Held K reduced = record { size = eqb-true (length reduced) (3 * (K.job.S * K.job.C)) o.2; bound = bounded_wider reduced 2 4 (omega arith) (components_within two reduced 2 two-within o.3) } in
      subst (λ (x : Outcome Answered Memory). Accepted K x.after) (sym (hand_in-done K m reduced h))
      (holds K (hand_in K reduced (state_of m)) A.passed (hand_in-fit K true (job-passed K true A.passed) reduced (state_of m) H A.fit q.0 q.1 q.2))

  -- ---- two allotments, with no stop between, and their sum
  pub advance_split : (m : Memory) (a c : ℕ) → (advance_answer K m).number ≡ 0 → draws (advance K a (state_of m)).rec.stage ≡ true
      → advance_call K m (a + c)
      ≡ made ((advance_call K m a).answer.draws + (advance_call K (advance_call K m a).after c).answer.draws) (advance_call K (advance_call K m a).after c).after
  advance_split m a c h d =
      let s = state_of m in
      let first = advance-done K m a h in
      let again : (advance_answer K (memory_of (advance K a s))).number ≡ 0 =
      advance_closed K (memory_of (advance K a s)) (subst (λ (x : Outcome Advanced Memory). Accepted K x.after) first (advance_leaves m a h)) (rw (held-state (advance K a s)) d) in
      let second = advance-done K (memory_of (advance K a s)) c again in
      advance-done K m (a + c) h
      ∙ ap (λ (z : State). made (draws_of K (a + c) s) (memory_of z)) (advance-add K a c s)
      ∙ ap (λ (k : ℕ). made k (memory_of (advance K c (advance K a s)))) (draws-add K a c s)
      ∙ sym (joined first (second ∙ ap (λ (z : State). made (draws_of K c z) (memory_of (advance K c z))) (held-state (advance K a s))))
    where
      joined : {x : Outcome Advanced Memory} {i j : ℕ} {n k : Memory} → x ≡ made i n → advance_call K n c ≡ made j k
          → made (x.answer.draws + (advance_call K x.after c).answer.draws) (advance_call K x.after c).after ≡ made (i + j) k
      joined {x} {i} {j} {n} {k} p q =
          ap (λ (y : Outcome Advanced Memory). made (y.answer.draws + (advance_call K y.after c).answer.draws) (advance_call K y.after c).after) p
          ∙ ap (λ (y : Outcome Advanced Memory). made (i + y.answer.draws) y.after) q

  -- ---- the draws reported, refused calls too
  pub call-draws : (m : Memory) (a : ℕ) → get_or (advance_call K m a).after.words 4 0 ≡ get_or m.words 4 0 + (advance_call K m a).answer.draws
  unfolding advance_call decided memory_of state_of
  call-draws m a = by-test (λ (x : Outcome Advanced Memory). get_or x.after.words 4 0 ≡ get_or m.words 4 0 + x.answer.draws) (eqb (advance_answer K m).number 0) (λ _. advance-made K a (state_of m)) (λ _. omega arith)

  -- ---- what a run has made, by its record
  pub accepted-made-at_3 : (m : Memory) → Accepted K m → get_or m.words 1 0 ≡ 3 → get_or m.words 4 0 ≡ (K.job.S + K.job.C + 8) * b K
  unfolding state_of
  accepted-made-at_3 m A e =
      let D = job-passed K true A.passed in
      made-at_3 K D.ready.sizes.subs D.ready.sizes.some (state_of m) A.fit.rests.place e

  pub accepted-made-at_end : (m : Memory) → Accepted K m → 5 ≤ get_or m.words 1 0 → get_or m.words 4 0 ≡ (K.job.S + K.job.C + 18) * b K
  unfolding state_of
  accepted-made-at_end m A l =
      let D = job-passed K true A.passed in
      made-at_end K D.ready.sizes.subs D.ready.sizes.some (state_of m) A.fit.rests.place l

  pub result-made : (m : Memory) (out : List Float) → (result_answer K m out).number ≡ 0 → get_or m.words 4 0 ≡ (K.job.S + K.job.C + 18) * b K
  result-made m out h =
      let o = result_opened K m out h in
      accepted-made-at_end m o.0 (let e : get_or m.words 1 0 ≡ 7 = unfold state_of in eqb-true (get_or m.words 1 0) 7 o.1 in omega arith)

  -- fewer than ten samples: the start goes straight to the stop for reduction
  pub start-straight : b K ≡ 0 → (m : Memory) (seed : ℕ) → (start_answer K m).number ≡ 0 → get_or (start_call K m seed).after.words 1 0 ≡ 3
  unfolding memory_of
  start-straight z m seed h =
      let D = job-passed K true (start_opened K m h).0 in
      ap (λ (x : Outcome Answered Memory). get_or x.after.words 1 0) (start-done K m seed h)
      ∙ straight K D.ready.sizes.subs D.ready.sizes.some z seed m.hints

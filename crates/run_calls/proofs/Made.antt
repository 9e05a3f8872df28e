-- The draws that a call reports are the growth of word 4, only a draw touches the order and the generator, and nothing touches the sizes.
-- Nothing of a leaf is opened. Assumes nothing.
use mathlib.Core.Path.{◌≡◌, refl, sym, ap, ◌∙◌}
use mathlib.Core.Logic.{inl, inr, ◌≢◌}
use mathlib.Core.Bool.{true, false, cond, true≢false}
use mathlib.Core.List.{List}
use Prim.Native.Nat.{ℕ, ◌+◌, ◌-◌, ◌*◌, ◌≤◌}
use native.Mathlib.Nat.{mul-le-mul_right}
use native.Mathlib.Omega.{arith}
use lib.Dec.{ltb, eqb}
use lib.Ieee.{Float, binary32, lt, of_bits}
use borrow.Author.Tests.{eqb-true}
use Rattle.run_calls.proofs.Cases.{by-test, both, decide, all-stages}
use Rattle.cycle.specs.Cycle.{Cycle}
use Rattle.quantizer.specs.Course.{Course, b}
use Rattle.run_stages.specs.State.{State, at, painted, draws, beside}
use Rattle.run_stages.specs.Record.{sizes_word}
use Rattle.run_stages.specs.Stages.{cycle_of, open_seeding, open_growing, open_replacing, noticed, error_of, keep, enter_growing, enter_replacing, enter_reducing, close_seeding, close_growing, judged, close_replacing}
use Rattle.run_stages.specs.Stages.{finish_round, due, settle, draw, draw_with, going, step, advance, draws_of, fresh, start, refined_once, hand_in}
use Rattle.run_calls.proofs.Whilsts.{whilst_keeps, times-grows, times-all}
use Rattle.run_calls.specs.Place.{seeding, growing, replacing, reducing, finishing, over, Placed, Rests}
use Rattle.run_calls.proofs.Place.{some_left, advance-rests, start-rests}

-- what only a draw changes, and what nothing changes
abbrev pub lasting : State → Cycle × ℕ
lasting s = (cycle_of s.order s.rec, s.rec.sizes)

abbrev pub Same : State → State → Type 0
Same s z = lasting z ≡ lasting s

pub same-cycle : (s z : State) → Same s z → cycle_of z.order z.rec ≡ cycle_of s.order s.rec
same-cycle s z e = ap (λ (x : Cycle × ℕ). x.0) e

pub same-made : (s z : State) → Same s z → z.rec.made ≡ s.rec.made
same-made s z e = ap (λ (x : Cycle × ℕ). x.0.made) e

pub same-sizes : (s z : State) → Same s z → z.rec.sizes ≡ s.rec.sizes
same-sizes s z e = ap (λ (x : Cycle × ℕ). x.1) e

module _ (K : Course) where
  enter_replacing-same : (s : State) → Same s (enter_replacing K s)
  unfolding enter_replacing open_replacing keep noticed
  enter_replacing-same s = refl

  pub enter_growing-same : (s : State) → Same s (enter_growing K s)
  unfolding enter_growing open_growing
  enter_growing-same s = both (Same s) (ltb 1 K.job.C) refl (enter_replacing-same s)

  close_seeding-same : (s : State) → Same s (close_seeding K s)
  unfolding close_seeding open_seeding noticed
  close_seeding-same s = both (Same s) (ltb (s.rec.rounds + 1) (K.job.S - 1)) refl (enter_growing-same _)

  close_growing-same : (s : State) → Same s (close_growing K s)
  unfolding close_growing open_growing
  close_growing-same s = both (Same s) (ltb (s.rec.rounds + 1) (K.job.C - 1)) refl (enter_replacing-same s)

  judged-same : (s : State) → Same s (judged K s)
  unfolding judged keep noticed
  judged-same s = both (Same s) (lt (error_of K s) (of_bits binary32 s.rec.error)) refl refl

  close_replacing-same : (s : State) → Same s (close_replacing K s)
  unfolding close_replacing open_replacing enter_reducing
  close_replacing-same s = both (Same s) (ltb (s.rec.rounds + 1) 10) (judged-same s) (judged-same s)

  finish_same : (s : State) → Same s (finish_round K s)
  unfolding finish_round
  finish_same s = all-stages (Same s) s.rec.stage (close_seeding-same s) (close_growing-same s) (close_replacing-same s) refl refl

  pub settle-same : (s : State) → Same s (settle K s)
  unfolding settle
  settle-same s = whilst_keeps due (finish_round K) (Same s) (λ z h _. finish_same z ∙ h) _ s refl

  -- ---- the draws that are counted
  pub step-made : (s : State) → (step K s).rec.made ≡ s.rec.made + 1
  unfolding step draw draw_with
  step-made s = same-made (draw K s) (settle K (draw K s)) (settle-same (draw K s))

  pub advance-made : (a : ℕ) (s : State) → (advance K a s).rec.made ≡ s.rec.made + draws_of K a s
  advance-made = times-grows going (step K) (λ (s : State). s.rec.made) step-made

  -- the start and a hand-in make no draw
  pub start-same : (seed : ℕ) (hints : List ℕ) → Same (fresh K seed hints) (start K seed hints)
  unfolding start open_seeding
  start-same seed hints = settle-same _ ∙ both (Same (fresh K seed hints)) (ltb 1 K.job.S) refl (enter_growing-same (fresh K seed hints))

  pub hand_in-same : (reduced : List Float) (s : State) → Same s (hand_in K reduced s)
  unfolding hand_in refined_once
  hand_in-same reduced s = both (Same s) (eqb s.rec.stage 3) (settle-same (at (painted s s.hints reduced) 4 0 (10 * b K))) (both (Same s) (eqb s.rec.stage 5) refl refl)

  pub start-made : (seed : ℕ) (hints : List ℕ) → (start K seed hints).rec.made ≡ 0
  unfolding fresh
  start-made seed hints = same-made (fresh K seed hints) (start K seed hints) (start-same seed hints)

  pub hand_in-made : (reduced : List Float) (s : State) → (hand_in K reduced s).rec.made ≡ s.rec.made
  hand_in-made reduced s = same-made s (hand_in K reduced s) (hand_in-same reduced s)

  -- ---- the sizes, which no call changes
  pub step-sizes : (s : State) → (step K s).rec.sizes ≡ s.rec.sizes
  unfolding step draw draw_with
  step-sizes s = same-sizes (draw K s) (settle K (draw K s)) (settle-same (draw K s))

  pub start-sizes : (seed : ℕ) (hints : List ℕ) → (start K seed hints).rec.sizes ≡ sizes_word K
  unfolding fresh
  start-sizes seed hints = same-sizes (fresh K seed hints) (start K seed hints) (start-same seed hints)

  pub hand_in-sizes : (reduced : List Float) (s : State) → (hand_in K reduced s).rec.sizes ≡ s.rec.sizes
  hand_in-sizes reduced s = same-sizes s (hand_in K reduced s) (hand_in-same reduced s)

  -- a call that leaves the run in a stage that draws has spent its allotment
  pub all_spent : (a : ℕ) (s : State) → draws (advance K a s).rec.stage ≡ true → draws_of K a s ≡ a
  all_spent = times-all going (step K)

  -- ---- up to the stop for reduction
  abbrev Early : State → Type 0
  Early s = s.rec.stage ≤ 3

  enter_growing_early : (s : State) → Early (enter_growing K s)
  unfolding enter_growing open_growing enter_replacing open_replacing
  enter_growing_early s = both Early (ltb 1 K.job.C) (omega arith) (omega arith)

  close_seeding_early : (s : State) → Early (close_seeding K s)
  unfolding close_seeding open_seeding
  close_seeding_early s = both Early (ltb (s.rec.rounds + 1) (K.job.S - 1)) (omega arith) (enter_growing_early _)

  close_growing_early : (s : State) → Early (close_growing K s)
  unfolding close_growing open_growing enter_replacing open_replacing
  close_growing_early s = both Early (ltb (s.rec.rounds + 1) (K.job.C - 1)) (omega arith) (omega arith)

  close_replacing_early : (s : State) → Early (close_replacing K s)
  unfolding close_replacing open_replacing enter_reducing
  close_replacing_early s = both Early (ltb (s.rec.rounds + 1) 10) (omega arith) (omega arith)

  finish_early : (s : State) → Early s → Early (finish_round K s)
  unfolding finish_round beside
  finish_early s h = both Early (eqb s.rec.stage 0) (close_seeding_early s) (both Early (eqb s.rec.stage 1) (close_growing_early s) (both Early (eqb s.rec.stage 2) (close_replacing_early s)
      (by-test Early (eqb s.rec.stage 4) (λ t. absurd (let e : s.rec.stage ≡ 4 = eqb-true s.rec.stage 4 t in omega arith)) (λ t. h))))

  settle_early : (s : State) → Early s → Early (settle K s)
  unfolding settle
  settle_early s h = whilst_keeps due (finish_round K) Early (λ z k _. finish_early z k) _ s h

  pub step_early : (s : State) → Early s → Early (step K s)
  unfolding step draw draw_with
  step_early s h = settle_early (draw K s) h

  pub advance_early : (a : ℕ) (s : State) → Early s → Early (advance K a s)
  advance_early a s h = whilst_keeps going (step K) Early (λ z k _. step_early z k) a s h

  pub start_early : (seed : ℕ) (hints : List ℕ) → Early (start K seed hints)
  unfolding start
  start_early seed hints = settle_early _ (both Early (ltb 1 K.job.S) (unfold open_seeding in omega arith) (enter_growing_early (fresh K seed hints)))

-- ---- the run's ends
module _ (K : Course) (S1 : 1 ≤ K.job.S) (C1 : 1 ≤ K.job.C) where
  -- up to stage 3, what is made and left is no more than the draws before the stop
  bounded : (s : State) → Placed K s → Early K s → s.rec.made + s.rec.left ≤ (K.job.S + K.job.C + 8) * b K
  bounded s (seeding k r l e) h = rw e (mul-le-mul_right (b K) (omega arith))
  bounded s (growing k r l e) h = rw e (mul-le-mul_right (b K) (omega arith))
  bounded s (replacing k r l e) h = rw e (mul-le-mul_right (b K) (omega arith))
  bounded s (reducing k r l e) h = omega arith
  bounded s (finishing k r l e) h = absurd (omega arith)
  bounded s (over k past r l e) h = absurd (omega arith)

  left_le : (s : State) → Placed K s → Early K s → s.rec.left ≤ b K
  left_le s (seeding k r l e) h = l
  left_le s (growing k r l e) h = l
  left_le s (replacing k r l e) h = l
  left_le s (reducing k r l e) h = omega arith
  left_le s (finishing k r l e) h = absurd (omega arith)
  left_le s (over k past r l e) h = absurd (omega arith)

  stopped : (s : State) → Placed K s → Early K s → draws s.rec.stage ≡ false → s.rec.stage ≡ 3
  stopped s p h D = by p
    where
      drawn : {k : ℕ} → s.rec.stage ≡ k → draws k ≡ true → s.rec.stage ≡ 3
      drawn k t = absurd (true≢false (sym t ∙ sym (ap draws k) ∙ D))

      by : Placed K s → s.rec.stage ≡ 3
      by (seeding k r l e) = drawn k refl
      by (growing k r l e) = drawn k refl
      by (replacing k r l e) = drawn k refl
      by (reducing k r l e) = k
      by (finishing k r l e) = drawn k refl
      by (over k past r l e) = absurd (omega arith)

  -- fewer than ten samples: no draw at all, and the start goes straight to the stop for reduction
  pub straight : b K ≡ 0 → (seed : ℕ) (hints : List ℕ) → (start K seed hints).rec.stage ≡ 3
  straight e seed hints = by (start-rests K S1 C1 seed hints) (start_early K seed hints)
    where
      by : {s : State} → Rests K s → Early K s → s.rec.stage ≡ 3
      by {s} R h = elim (decide (draws s.rec.stage)) [
        | inl t ↦ absurd (omega (arith, some_left K s R t, left_le s R.place h))
        | inr t ↦ stopped s R.place h t
      ]

  -- an allotment that covers what is missing ends at the stop for reduction, with (S + C + 8)·b draws made
  pub reaches : (a : ℕ) (s : State) → Rests K s → Early K s → (K.job.S + K.job.C + 8) * b K ≤ s.rec.made + a → (advance K a s).rec.stage ≡ 3
  reaches a s R h n = by (advance K a s) refl (advance-rests K S1 C1 a s R) (advance_early K a s h)
    where
      by : (z : State) → z ≡ advance K a s → Rests K z → Early K z → (advance K a s).rec.stage ≡ 3
      by z q Z k = ap (λ (x : State). x.rec.stage) (sym q) ∙ (elim (decide (draws z.rec.stage)) [
        | inl t ↦ absurd (omega (arith, some_left K z Z t, bounded z Z.place k, ap (λ (x : State). x.rec.made) q, advance-made K a s, all_spent K a s (ap (λ (x : State). draws x.rec.stage) (sym q) ∙ t)))
        | inr t ↦ stopped z Z.place k t
      ])

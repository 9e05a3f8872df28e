-- The hand-ins that a run has before it: an advance leaves them as they are, a hand-in takes one from them. Assumes nothing.
use Prim.Native.Nat.{ℕ, suc, ◌-◌, ◌*◌, ◌≤◌}
use mathlib.Core.Path.{◌≡◌, sym, ap, subst, ◌∙◌}
use mathlib.Core.Bool.{Bool, true, false, ◌||◌}
use mathlib.Core.List.{List}
use native.Mathlib.Omega.{arith}
use lib.Dec.{ltb, eqb}
use lib.Ieee.{Float}
use borrow.Author.Tests.{eqb-true, ltb-true, ltb-false, lt-ltb, le-ltb}
use Rattle.lists.proofs.Tests.{or_case, or_no}
use Rattle.quantizer.specs.Course.{Course, b}
use Rattle.run_stages.specs.State.{State, at, painted, draws, stops, beside}
use Rattle.run_stages.specs.Stages.{finish_round, due, settle, draw, draw_with, going, step, advance, refined_once, hand_in}
use Rattle.run_calls.proofs.Cases.{by-test, both}
use Rattle.run_calls.proofs.Whilsts.{whilst_keeps}
use Rattle.run_calls.proofs.Made.{advance_early}
use Rattle.run_calls.specs.HandIns.{hand_ins}

-- ---- an advance leaves the hand-ins to come as they are
early : (k : ℕ) → k ≤ 3 → hand_ins k ≡ 3
unfolding hand_ins
early k h = rw (lt-ltb k 4 (omega arith))

late : (k : ℕ) → 4 ≤ k → k ≤ 5 → hand_ins k ≡ 2
unfolding hand_ins
late k h l = rw (le-ltb k 4 h, lt-ltb k 6 (omega arith))

last : (k : ℕ) → 6 ≤ k → hand_ins k ≡ 7 - k
unfolding hand_ins
last k h = rw (le-ltb k 4 (omega arith), le-ltb k 6 h)

pub few-hand_ins : (k : ℕ) → hand_ins k ≤ 3
unfolding hand_ins
few-hand_ins k = by-test (λ (x : ℕ). x ≤ 3) (ltb k 4) (λ _. omega arith) (λ _. by-test (λ (x : ℕ). x ≤ 3) (ltb k 6) (λ _. omega arith) (λ t. omega (arith, ltb-false k 6 t)))

record Final (s : State) : Type 0 where
  pub from : 4 ≤ s.rec.stage
  pub to : s.rec.stage ≤ 5

module _ (K : Course) where
  finish_final : (s : State) → Final s → Final (finish_round K s)
  unfolding finish_round beside
  finish_final s F =
      by-test Final (eqb s.rec.stage 0) (λ t. absurd (omega (arith, F.from, eqb-true s.rec.stage 0 t)))
      (λ _. by-test Final (eqb s.rec.stage 1) (λ t. absurd (omega (arith, F.from, eqb-true s.rec.stage 1 t)))
      (λ _. by-test Final (eqb s.rec.stage 2) (λ t. absurd (omega (arith, F.from, eqb-true s.rec.stage 2 t)))
      (λ _. both Final (eqb s.rec.stage 4) (record { from = omega arith; to = omega arith }) F)))

  settle_final : (s : State) → Final s → Final (settle K s)
  unfolding settle
  settle_final s F = whilst_keeps due (finish_round K) Final (λ z G _. finish_final z G) _ s F

  step_final : (s : State) → Final s → Final (step K s)
  unfolding step draw draw_with
  step_final s F = settle_final (draw K s) (record { from = F.from; to = F.to })

  advance_final : (a : ℕ) (s : State) → Final s → Final (advance K a s)
  advance_final a s F = whilst_keeps going (step K) Final (λ z G _. step_final z G) a s F

  pub advance-hand_ins : (a : ℕ) (s : State) → draws s.rec.stage ≡ true → hand_ins (advance K a s).rec.stage ≡ hand_ins s.rec.stage
  advance-hand_ins a s d = or_case (ltb s.rec.stage 3) (eqb s.rec.stage 4) d first second
    where
      first : ltb s.rec.stage 3 ≡ true → hand_ins (advance K a s).rec.stage ≡ hand_ins s.rec.stage
      first t =
          let l : s.rec.stage ≤ 3 = omega (arith, ltb-true s.rec.stage 3 t) in
          early (advance K a s).rec.stage (advance_early K a s l) ∙ sym (early s.rec.stage l)

      second : eqb s.rec.stage 4 ≡ true → hand_ins (advance K a s).rec.stage ≡ hand_ins s.rec.stage
      second t =
          let F : Final s = record { from = omega (arith, eqb-true s.rec.stage 4 t); to = omega (arith, eqb-true s.rec.stage 4 t) } in
          let G = advance_final a s F in
          late (advance K a s).rec.stage G.from G.to ∙ sym (late s.rec.stage F.from F.to)

  -- ---- and a hand-in takes one from them
  pub hand_in-one : (reduced : List Float) (s : State) → stops s.rec.stage ≡ true → suc (hand_ins (hand_in K reduced s).rec.stage) ≡ hand_ins s.rec.stage
  unfolding hand_in refined_once
  hand_in-one reduced s d =
      by-test One (eqb s.rec.stage 3) (λ t. let F = settle_final (at (painted s s.hints reduced) 4 0 (10 * b K)) (record { from = omega arith; to = omega arith }) in
      ap suc (late _ F.from F.to) ∙ sym (early s.rec.stage (omega (arith, eqb-true s.rec.stage 3 t))))
      (λ t. by-test One (eqb s.rec.stage 5) (λ u. ap suc (last 6 (omega arith)) ∙ sym (late s.rec.stage (omega (arith, eqb-true s.rec.stage 5 u)) (omega (arith, eqb-true s.rec.stage 5 u))))
      (λ u. sixth t u))
    where
      One : State → Type 0
      One z = suc (hand_ins z.rec.stage) ≡ hand_ins s.rec.stage

      sixth : eqb s.rec.stage 3 ≡ false → eqb s.rec.stage 5 ≡ false → suc (hand_ins 7) ≡ hand_ins s.rec.stage
      sixth t u =
          let q : s.rec.stage ≡ 6 = eqb-true s.rec.stage 6 (subst (λ (x : Bool). x || eqb s.rec.stage 6 ≡ true) (or_no (eqb s.rec.stage 3) (eqb s.rec.stage 5) t u) d) in
          ap suc (last 7 (omega arith)) ∙ sym (ap hand_ins q ∙ last 6 (omega arith))

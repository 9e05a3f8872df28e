-- How a loop that closes rounds meets `settle`: a round closed makes no difference to what settling gives, the rounds to go become fewer, and the run
-- stays at a place of its record. Assumes nothing.
use mathlib.Core.Path.{◌≡◌, refl, sym, ap, ◌∙◌}
use mathlib.Core.Bool.{true, false, true≢false}
use Prim.Native.Nat.{ℕ, zero, suc, ◌+◌, ◌-◌, ◌*◌, ◌≤◌, ◌<◌}
use native.Mathlib.Nat.{le_refl, le_trans, mul-le-mul_right}
use native.Mathlib.Omega.{arith}
use borrow.Author.Tests.{eqb-true}
use Rattle.lists.proofs.Tests.{and_l, and_r}
use Rattle.quantizer.specs.Course.{Course, b}
use Rattle.run_stages.specs.Whilst.{whilst}
use Rattle.run_stages.specs.State.{State, draws}
use Rattle.run_stages.specs.Stages.{finish_round, due, settle}
use Rattle.run_calls.proofs.Whilsts.{whilst_step, whilst_stop, whilst_add}
use Rattle.run_calls.specs.Place.{seeding, growing, replacing, reducing, finishing, over, Placed, Rests}
use Rattle.run_calls.proofs.Place.{togo, Ahead, finish_ahead, idle, enough, settling}

module _ (K : Course) (S1 : 1 ≤ K.job.S) (C1 : 1 ≤ K.job.C) (s : State) (p : Placed K s) where
  -- nothing due: the state is settled
  pub settle-done : due s ≡ false → settle K s ≡ s
  unfolding settle
  settle-done h = whilst_stop due (finish_round K) _ s h

  module _ (d : due s ≡ true) where
    spent : s.rec.left ≡ 0
    spent = eqb-true s.rec.left 0 (and_r (draws s.rec.stage) _ d)

    drawing : draws s.rec.stage ≡ true
    drawing = and_l (draws s.rec.stage) _ d

    some_togo : 1 ≤ togo K s
    some_togo = by (togo K s) refl
      where
        by : (n : ℕ) → togo K s ≡ n → 1 ≤ n
        by zero e = absurd (true≢false (sym drawing ∙ idle K S1 C1 s (record { place = p; soon = omega arith })))
        by (suc n) e = omega arith

    closer : Ahead K (togo K s - 1) (finish_round K s)
    closer = finish_ahead K S1 C1 (togo K s - 1) s spent (record { place = p; soon = omega (arith, some_togo) }) drawing

    pub finish_placed : Placed K (finish_round K s)
    finish_placed = closer.place

    pub togo_less : togo K (finish_round K s) < togo K s
    togo_less = omega (arith, closer.soon, some_togo)

    -- one round more or less in the bound makes no difference
    pub settle-more : settle K s ≡ settle K (finish_round K s)
    unfolding settle
    settle-more =
        let F = K.job.S + K.job.C + 20 in
        let R : Rests K (whilst due (finish_round K) F s) = settling K S1 C1 F s (record { place = p; soon = enough K S1 C1 s p }) in
        sym (whilst_stop due (finish_round K) 1 (whilst due (finish_round K) F s) R.done)
        ∙ sym (whilst_add due (finish_round K) F 1 s)
        ∙ ap (λ (n : ℕ). whilst due (finish_round K) n s) (one_more F)
        ∙ whilst_step due (finish_round K) F s d
      where
        one_more : (n : ℕ) → n + 1 ≡ suc n
        one_more n = omega arith

-- ---- the record's words stay small
module _ (K : Course) where
  pub made-few : (s : State) → Placed K s → s.rec.made + s.rec.left ≤ (K.job.S + K.job.C + 18) * b K
  made-few s (seeding k r l e) = rw e (mul-le-mul_right (b K) (omega arith))
  made-few s (growing k r l e) = rw e (mul-le-mul_right (b K) (omega arith))
  made-few s (replacing k r l e) = rw e (mul-le-mul_right (b K) (omega arith))
  made-few s (reducing k r l e) = rw (l, e) (le_trans (fewer ((K.job.S + K.job.C + 8) * b K)) (mul-le-mul_right (b K) (omega arith)))
    where
      fewer : (n : ℕ) → n + 0 ≤ n
      fewer n = omega arith
  made-few s (finishing k r l e) = rw e (le_refl _)
  made-few s (over k past r l e) = rw (l, e) (fewer ((K.job.S + K.job.C + 18) * b K))
    where
      fewer : (n : ℕ) → n + 0 ≤ n
      fewer n = omega arith

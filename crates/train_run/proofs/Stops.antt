-- Where a run stands that is advanced without limit: at the stop for reduction, and after its final draws at the next. Assumes nothing.
use mathlib.Core.Path.{◌≡◌, refl, sym, ap, ◌∙◌}
use Prim.Native.Nat.{ℕ, ◌+◌, ◌*◌, ◌≤◌}
use native.Mathlib.Nat.{mul-le-mul, div-le_self, le_trans}
use native.Mathlib.Omega.{arith}
use mathlib.Core.Bool.{false, true≢false}
use mathlib.Core.Logic.{◌≢◌, inl, inr}
use mathlib.Core.List.{List}
use lib.Dec.{ltb}
use lib.Ieee.{Float}
use borrow.Author.Tests.{eq-eqb, ne_eqb, ltb-true, ltb-false}
use Rattle.quantizer.specs.Course.{Course, b}
use Rattle.run_stages.specs.State.{State, draws, stops}
use Rattle.run_stages.specs.Stages.{going, step, advance, start, refined_once, hand_in}
use Rattle.run_calls.proofs.Cases.{by-test, decide}
use Rattle.run_calls.proofs.Whilsts.{whilst_stop}
use Rattle.run_calls.proofs.Settling.{made-few}
use Rattle.run_calls.specs.Place.{Rests}
use Rattle.run_calls.proofs.Place.{some_left, start-rests, advance-rests}
use Rattle.run_calls.proofs.Made.{advance-made, all_spent, start_early, reaches}
use Rattle.run_calls.specs.HandIns.{hand_ins}
use Rattle.run_calls.proofs.HandIns.{advance-hand_ins, hand_in-one}
use Rattle.train_run.specs.Training.{all, to_stop}

-- two hand-ins to come: the final draws, or the stop behind them
two-left : (k : ℕ) → hand_ins k ≡ 2 → (4 ≤ k) × (k ≤ 5)
unfolding hand_ins
two-left k e =
    by-test (λ (x : ℕ). x ≡ 2 → (4 ≤ k) × (k ≤ 5)) (ltb k 4) (λ _ h. absurd (omega arith))
    (λ t. by-test (λ (x : ℕ). x ≡ 2 → (4 ≤ k) × (k ≤ 5)) (ltb k 6) (λ u h. (omega (arith, ltb-false k 4 t), omega (arith, ltb-true k 6 u))) (λ u h. absurd (omega (arith, ltb-false k 6 u)))) e

drawn-out : (k : ℕ) → hand_ins k ≡ 2 → draws k ≡ false → k ≡ 5
drawn-out k e d = let (l, h) = two-left k e in omega (arith, still)
  where
    still : k ≢ 4
    still q = true≢false (sym (ap draws q) ∙ d)

module _ (K : Course) where
  -- where no draw is to be made, none is
  pub stays : (s : State) → draws s.rec.stage ≡ false → to_stop K s ≡ s
  unfolding to_stop
  stays s d = whilst_stop going (step K) all s d

  pub handed_late : (reduced : List Float) (s : State) → s.rec.stage ≡ 3 → hand_ins (hand_in K reduced s).rec.stage ≡ 2
  handed_late reduced s e = omega (arith, hand_in-one K reduced s (ap stops e), ap hand_ins e ∙ three)
    where
      three : hand_ins 3 ≡ 3
      three = unfold hand_ins in refl

  pub handed_refined : (reduced : List Float) (s : State) → s.rec.stage ≡ 5 → (hand_in K reduced s).rec.stage ≡ 6
  unfolding hand_in refined_once
  handed_refined reduced s e = rw (ne_eqb s.rec.stage 3 (λ (q : s.rec.stage ≡ 3). omega arith), eq-eqb s.rec.stage 5 e)

  pub handed_last : (reduced : List Float) (s : State) → s.rec.stage ≡ 6 → (hand_in K reduced s).palette ≡ reduced
  unfolding hand_in
  handed_last reduced s e = rw (ne_eqb s.rec.stage 3 (λ (q : s.rec.stage ≡ 3). omega arith), ne_eqb s.rec.stage 5 (λ (q : s.rec.stage ≡ 5). omega arith))

module _ (K : Course) (S1 : 1 ≤ K.job.S) (C1 : 1 ≤ K.job.C) (few : K.job.S + K.job.C ≤ 32) (n : K.n ≤ 16384) where
  -- a run's draws are few
  enough : (k : ℕ) → k ≤ 50 → k * b K ≤ all
  enough k l = le_trans (mul-le-mul l (le_trans (div-le_self K.n 10) n)) (omega arith)

  pub to_reduction : (hints : List ℕ) → (to_stop K (start K 0 hints)).rec.stage ≡ 3
  unfolding to_stop
  to_reduction hints =
      reaches K S1 C1 all (start K 0 hints) (start-rests K S1 C1 0 hints) (start_early K 0 hints)
      (omega (arith, enough (K.job.S + K.job.C + 8) (omega arith)))

  pub to_drawn : (s : State) → Rests K s → hand_ins s.rec.stage ≡ 2 → (to_stop K s).rec.stage ≡ 5
  unfolding to_stop
  to_drawn s R h = elim (decide (draws s.rec.stage)) [
    | inl d ↦ for_any (advance K all s) refl (advance-rests K S1 C1 all s R) (advance-hand_ins K all s d ∙ h)
    | inr d ↦ ap (λ (x : State). x.rec.stage) (stays K s d) ∙ drawn-out s.rec.stage h d
  ]
    where
      for_any : (z : State) → z ≡ advance K all s → Rests K z → hand_ins (advance K all s).rec.stage ≡ 2 → (advance K all s).rec.stage ≡ 5
      for_any z q Z k = elim (decide (draws z.rec.stage)) [
        | inl t ↦ absurd (omega (
          arith,
          some_left K z Z t,
          made-few K z Z.place,
          enough (K.job.S + K.job.C + 18) (omega arith),
          ap (λ (x : State). x.rec.made) q,
          advance-made K all s,
          all_spent K all s (ap (λ (x : State). draws x.rec.stage) (sym q) ∙ t),
        ))
        | inr t ↦ drawn-out (advance K all s).rec.stage k (ap (λ (x : State). draws x.rec.stage) (sym q) ∙ t)
      ]

-- Where a run stands, words 1 to 4 of its record: every step keeps the record's rules, whatever the leaves do to the palette. Assumes nothing.
use mathlib.Core.Path.{◌≡◌, refl, sym, ap, ◌∙◌, subst}
use mathlib.Core.Logic.{◌≢◌}
use mathlib.Core.Bool.{Bool, true, false, cond, ◌&&◌, true≢false}
use Prim.Native.Nat.{ℕ, zero, suc, ◌+◌, ◌-◌, ◌*◌, ◌≤◌, ◌<◌}
use native.Mathlib.Nat.{le_refl, suc-mul, add-mul}
use native.Mathlib.Omega.{arith}
use lib.Dec.{ltb, eqb}
use lib.Ieee.{Float, binary32, lt, of_bits}
use mathlib.Core.List.{List}
use borrow.Author.Tests.{ltb-true, ltb-false, eqb-true, eqb-false, eq-eqb, ne_eqb, le-ltb}
use Rattle.lists.proofs.Tests.{and_l, and_r}
use Rattle.run_calls.proofs.Cases.{by-test, both, rows, stage0, stage1, stage2, stage4, stage-past}
use Rattle.run_stages.specs.Whilst.{whilst}
use Rattle.run_calls.proofs.Whilsts.{whilst_keeps}
use Rattle.quantizer.specs.Course.{Course, b}
use Rattle.run_stages.specs.State.{State, at, painted, draws, beside}
use Rattle.run_stages.specs.Stages.{open_seeding, open_growing, open_replacing, noticed, keep, enter_growing, enter_replacing, enter_reducing, close_seeding, close_growing, judged, close_replacing, error_of}
use Rattle.run_stages.specs.Stages.{finish_round, due, settle, draw, draw_with, going, step, advance, fresh, start, refined_once, hand_in}
use Rattle.run_calls.specs.Place.{Placed, Rests, finishing, growing, over, reducing, replacing, seeding}

-- ---- the draws of whole rounds
next-round : (x y m b : ℕ) → y ≡ suc x → m ≡ x * b → m + b ≡ y * b
next-round x y m b e h = rw (e, suc-mul x b, h)

same-rounds : (x y m b : ℕ) → x ≡ y → m ≡ x * b → m ≡ y * b
same-rounds x y m b e h = rw (← e) h

-- ---- no stage from 5 on draws
pub quiet : (k : ℕ) → 5 ≤ k → draws k ≡ false
quiet k h = rw (le-ltb k 3 (omega arith), ne_eqb k 4 (λ (e : k ≡ 4). omega arith))

-- rounds not yet finished, up to the next stop
unfoldable pub togo : Course → State → ℕ
togo K s = beside s.rec.stage (rows (K.job.S - 1 - s.rec.rounds + (K.job.C - 1) + 10) (K.job.C - 1 - s.rec.rounds + 10) (10 - s.rec.rounds) 1) 0

pub record Ahead (K : Course) (f : ℕ) (s : State) : Type 0 where
  pub place : Placed K s
  pub soon : togo K s ≤ f

-- a stage that draws has draws left then
pub some_left : (K : Course) (s : State) → Rests K s → draws s.rec.stage ≡ true → 1 ≤ s.rec.left
some_left K s R D = let z : s.rec.left ≢ 0 = eqb-false s.rec.left 0 (subst (λ (t : Bool). t && eqb s.rec.left 0 ≡ false) D R.done) in omega arith

module _ (K : Course) (S1 : 1 ≤ K.job.S) (C1 : 1 ≤ K.job.C) where
  -- ---- entering a stage
  enter_replacing-ahead : (f : ℕ) (s : State) → s.rec.made ≡ (K.job.S - 1 + (K.job.C - 1)) * b K → 10 ≤ f → Ahead K f (enter_replacing K s)
  unfolding enter_replacing open_replacing keep noticed togo beside
  enter_replacing-ahead f s h n = record {
    place = replacing refl (omega arith) (le_refl (b K)) (next-round (K.job.S - 1 + (K.job.C - 1)) _ s.rec.made (b K) (omega arith) h);
    soon = omega arith;
  }

  enter_growing-ahead : (f : ℕ) (s : State) → s.rec.made ≡ (K.job.S - 1) * b K → K.job.C - 1 + 10 ≤ f → Ahead K f (enter_growing K s)
  unfolding enter_growing open_growing togo beside
  enter_growing-ahead f s h n = by-test (Ahead K f) (ltb 1 K.job.C)
      (λ t. let c : 1 < K.job.C = ltb-true 1 K.job.C t in
      record { place = growing refl (omega arith) (le_refl (b K)) (next-round (K.job.S - 1) _ s.rec.made (b K) (omega arith) h); soon = omega arith })
      (λ t. let c : K.job.C ≤ 1 = ltb-false 1 K.job.C t in
      enter_replacing-ahead f s (same-rounds _ _ s.rec.made (b K) (omega arith) h) (omega arith))

  -- ---- closing a round
  close_seeding-ahead : (f : ℕ) (s : State) → s.rec.rounds < K.job.S - 1 → s.rec.made ≡ suc s.rec.rounds * b K → K.job.S - 1 - s.rec.rounds + (K.job.C - 1) + 10 ≤ suc f
      → Ahead K f (close_seeding K s)
  unfolding close_seeding open_seeding noticed togo beside
  close_seeding-ahead f s r h n = by-test (Ahead K f) (ltb (s.rec.rounds + 1) (K.job.S - 1))
      (λ t. let c : s.rec.rounds + 1 < K.job.S - 1 = ltb-true (s.rec.rounds + 1) (K.job.S - 1) t in
      record { place = seeding refl c (le_refl (b K)) (next-round (suc s.rec.rounds) _ s.rec.made (b K) (omega arith) h); soon = omega arith })
      (λ t. let c : K.job.S - 1 ≤ s.rec.rounds + 1 = ltb-false (s.rec.rounds + 1) (K.job.S - 1) t in
      enter_growing-ahead f _ (same-rounds _ _ s.rec.made (b K) (omega arith) h) (omega arith))

  close_growing-ahead : (f : ℕ) (s : State) → s.rec.rounds < K.job.C - 1 → s.rec.made ≡ (K.job.S - 1 + suc s.rec.rounds) * b K → K.job.C - 1 - s.rec.rounds + 10 ≤ suc f
      → Ahead K f (close_growing K s)
  unfolding close_growing open_growing togo beside
  close_growing-ahead f s r h n = by-test (Ahead K f) (ltb (s.rec.rounds + 1) (K.job.C - 1))
      (λ t. let c : s.rec.rounds + 1 < K.job.C - 1 = ltb-true (s.rec.rounds + 1) (K.job.C - 1) t in
      record { place = growing refl c (le_refl (b K)) (next-round (K.job.S - 1 + suc s.rec.rounds) _ s.rec.made (b K) (omega arith) h); soon = omega arith })
      (λ t. let c : K.job.C - 1 ≤ s.rec.rounds + 1 = ltb-false (s.rec.rounds + 1) (K.job.C - 1) t in
      enter_replacing-ahead f s (same-rounds _ _ s.rec.made (b K) (omega arith) h) (omega arith))

  judged-made : (s : State) → (judged K s).rec.made ≡ s.rec.made
  unfolding judged keep noticed
  judged-made s = both (λ (z : State). z.rec.made ≡ s.rec.made) (lt (error_of K s) (of_bits binary32 s.rec.error)) {x = keep K s} {y = noticed K K.job.S K.job.C s} refl refl

  close_replacing-ahead : (f : ℕ) (s : State) → s.rec.rounds < 10 → s.rec.made ≡ (K.job.S - 1 + (K.job.C - 1) + suc s.rec.rounds) * b K → 10 - s.rec.rounds ≤ suc f
      → Ahead K f (close_replacing K s)
  unfolding close_replacing open_replacing enter_reducing togo beside
  close_replacing-ahead f s r h n =
      let e : (judged K s).rec.made ≡ (K.job.S - 1 + (K.job.C - 1) + suc s.rec.rounds) * b K = judged-made s ∙ h in
      by-test (Ahead K f) (ltb (s.rec.rounds + 1) 10)
      (λ t. let c : s.rec.rounds + 1 < 10 = ltb-true (s.rec.rounds + 1) 10 t in
      record { place = replacing refl c (le_refl (b K)) (next-round (K.job.S - 1 + (K.job.C - 1) + suc s.rec.rounds) _ (judged K s).rec.made (b K) (omega arith) e); soon = omega arith })
      (λ t. let c : 10 ≤ s.rec.rounds + 1 = ltb-false (s.rec.rounds + 1) 10 t in
      record { place = reducing refl refl refl (same-rounds _ _ (judged K s).rec.made (b K) (omega arith) e); soon = omega arith })

  -- ---- closing a round, whatever the stage
  module _ (f : ℕ) (s : State) (L : s.rec.left ≡ 0) (A : Ahead K (suc f) s) (D : draws s.rec.stage ≡ true) where
    pub finish_ahead : Ahead K f (finish_round K s)
    finish_ahead = by A.place
      where
        at_end : (x : ℕ) → s.rec.made + s.rec.left ≡ x → s.rec.made ≡ x
        at_end x e = omega arith

        by : Placed K s → Ahead K f (finish_round K s)
        by (seeding k r l e) = unfold finish_round togo in rw stage0 (close_seeding-ahead f s r (at_end _ e) (rw stage0 at A.soon))
        by (growing k r l e) = unfold finish_round togo in rw stage1 (close_growing-ahead f s r (at_end _ e) (rw stage1 at A.soon))
        by (replacing k r l e) = unfold finish_round togo in rw stage2 (close_replacing-ahead f s r (at_end _ e) (rw stage2 at A.soon))
        by (reducing k r l e) = absurd (true≢false (sym D ∙ ap draws k))
        by (finishing k r l e) = unfold finish_round in rw stage4 (record { place = over (omega arith) (omega arith) refl refl (at_end _ e); soon = unfold togo beside in omega arith })
        by (over k past r l e) = absurd (true≢false (sym D ∙ quiet s.rec.stage k))

  -- ---- settling: with as much fuel as there are rounds to go, nothing is due in the end
  pub idle : (s : State) → Ahead K 0 s → draws s.rec.stage ≡ false
  idle s A = by A.place
    where
      by : Placed K s → draws s.rec.stage ≡ false
      by (seeding k r l e) = absurd (let n : K.job.S - 1 - s.rec.rounds + (K.job.C - 1) + 10 ≤ 0 = unfold togo in rw stage0 at A.soon in omega arith)
      by (growing k r l e) = absurd (let n : K.job.C - 1 - s.rec.rounds + 10 ≤ 0 = unfold togo in rw stage1 at A.soon in omega arith)
      by (replacing k r l e) = absurd (let n : 10 - s.rec.rounds ≤ 0 = unfold togo in rw stage2 at A.soon in omega arith)
      by (reducing k r l e) = ap draws k
      by (finishing k r l e) = absurd (let n : 1 ≤ 0 = unfold togo in rw stage4 at A.soon in omega arith)
      by (over k past r l e) = quiet s.rec.stage k

  pub settling : (f : ℕ) (s : State) → Ahead K f s → Rests K (whilst due (finish_round K) f s)
  unfolding whilst
  settling zero s A = record { place = A.place; done = ap (λ (t : Bool). t && eqb s.rec.left 0) (idle s A) }
  settling (suc f) s A = by-test (Rests K) (due s)
      (λ t. settling f (finish_round K s) (finish_ahead f s (eqb-true s.rec.left 0 (and_r (draws s.rec.stage) _ t)) A (and_l (draws s.rec.stage) _ t)))
      (λ t. record { place = A.place; done = t })

  pub enough : (s : State) → Placed K s → togo K s ≤ K.job.S + K.job.C + 20
  unfolding togo
  enough s (seeding k r l e) = rw stage0 (omega arith)
  enough s (growing k r l e) = rw stage1 (omega arith)
  enough s (replacing k r l e) = rw stage2 (omega arith)
  enough s (reducing k r l e) = rw k (unfold beside in omega arith)
  enough s (finishing k r l e) = rw stage4 (omega arith)
  enough s (over k past r l e) = rw stage-past (omega arith)

  pub settle-rests : (s : State) → Placed K s → Rests K (settle K s)
  unfolding settle
  settle-rests s p = settling _ s (record { place = p; soon = enough s p })

  -- ---- a draw, a step, an advance
  pub draw-place : (s : State) → Rests K s → draws s.rec.stage ≡ true → Placed K (draw K s)
  draw-place s R D = by R.place
    where
      by : Placed K s → Placed K (draw K s)
      by (seeding k r l e) = unfold draw draw_with in seeding k r (omega arith) (omega (arith, some_left K s R D))
      by (growing k r l e) = unfold draw draw_with in growing k r (omega arith) (omega (arith, some_left K s R D))
      by (replacing k r l e) = unfold draw draw_with in replacing k r (omega arith) (omega (arith, some_left K s R D))
      by (reducing k r l e) = absurd (true≢false (sym D ∙ ap draws k))
      by (finishing k r l e) = unfold draw draw_with in finishing k r (omega arith) (omega (arith, some_left K s R D))
      by (over k past r l e) = absurd (true≢false (sym D ∙ quiet s.rec.stage k))

  pub step-rests : (s : State) → Rests K s → draws s.rec.stage ≡ true → Rests K (step K s)
  unfolding step
  step-rests s R D = settle-rests (draw K s) (draw-place s R D)

  pub advance-rests : (a : ℕ) (s : State) → Rests K s → Rests K (advance K a s)
  advance-rests a s R = whilst_keeps going (step K) (Rests K) step-rests a s R

  -- ---- the start, and a hand-in at a stop
  pub first-placed : (seed : ℕ) (hints : List ℕ) → Placed K (cond (ltb 1 K.job.S) (open_seeding K 0 0 (fresh K seed hints)) (enter_growing K (fresh K seed hints)))
  first-placed seed hints = by-test (Placed K) (ltb 1 K.job.S)
      (λ t. let c : 1 < K.job.S = ltb-true 1 K.job.S t in unfold open_seeding fresh in seeding refl (omega arith) (le_refl (b K)) (omega arith))
      (λ t. let c : K.job.S ≤ 1 = ltb-false 1 K.job.S t in
      (enter_growing-ahead (K.job.C - 1 + 10) (fresh K seed hints) (unfold fresh in same-rounds 0 _ 0 (b K) (omega arith) (omega arith)) (le_refl _)).place)

  pub start-rests : (seed : ℕ) (hints : List ℕ) → Rests K (start K seed hints)
  unfolding start
  start-rests seed hints = settle-rests _ (first-placed seed hints)

  pub final_placed : (s : State) → s.rec.made ≡ (K.job.S + K.job.C + 8) * b K → Placed K (at s 4 0 (10 * b K))
  final_placed s e = finishing refl refl (le_refl _) (rw (e, ← add-mul (K.job.S + K.job.C + 8) 10 (b K)) (ap (λ (x : ℕ). x * b K) (omega arith)))

  pub hand_in-rests : (h : List Float) (s : State) → Rests K s → draws s.rec.stage ≡ false → s.rec.stage ≤ 6 → Rests K (hand_in K h s)
  hand_in-rests h s R D Z = by R.place
    where
      drawn : {k : ℕ} → s.rec.stage ≡ k → draws k ≡ true → Rests K (hand_in K h s)
      drawn k t = absurd (true≢false (sym t ∙ sym (ap draws k) ∙ D))

      by : Placed K s → Rests K (hand_in K h s)
      by (seeding k r l e) = drawn k refl
      by (growing k r l e) = drawn k refl
      by (replacing k r l e) = drawn k refl
      by (reducing k r l e) = unfold hand_in in rw (eq-eqb s.rec.stage 3 k) (settle-rests _ (final_placed (painted s s.hints h) e))
      by (finishing k r l e) = drawn k refl
      by (over k past r l e) = unfold hand_in refined_once noticed in
          rw (ne_eqb s.rec.stage 3 (λ (q : s.rec.stage ≡ 3). omega arith))
          (both (Rests K) (eqb s.rec.stage 5) (record { place = over (omega arith) (omega arith) refl refl e; done = refl }) (record { place = over (omega arith) (omega arith) refl refl e; done = refl }))

  -- ---- what a run has made at its stops
  pub made-at_3 : (s : State) → Placed K s → s.rec.stage ≡ 3 → s.rec.made ≡ (K.job.S + K.job.C + 8) * b K
  made-at_3 s (seeding k r l e) q = absurd (omega arith)
  made-at_3 s (growing k r l e) q = absurd (omega arith)
  made-at_3 s (replacing k r l e) q = absurd (omega arith)
  made-at_3 s (reducing k r l e) q = e
  made-at_3 s (finishing k r l e) q = absurd (omega arith)
  made-at_3 s (over k past r l e) q = absurd (omega arith)

  pub made-at_end : (s : State) → Placed K s → 5 ≤ s.rec.stage → s.rec.made ≡ (K.job.S + K.job.C + 18) * b K
  made-at_end s (seeding k r l e) q = absurd (omega arith)
  made-at_end s (growing k r l e) q = absurd (omega arith)
  made-at_end s (replacing k r l e) q = absurd (omega arith)
  made-at_end s (reducing k r l e) q = absurd (omega arith)
  made-at_end s (finishing k r l e) q = absurd (omega arith)
  made-at_end s (over k past r l e) q = e

-- Whatever the hints of a state: all else that a step, a start and a hand-in leave is the same. No definition reads a hint. Assumes nothing.
use mathlib.Core.Path.{◌≡◌, refl, sym, ap, ◌∙◌}
use mathlib.Core.Bool.{Bool, true, false, cond}
use mathlib.Core.List.{List, [], ◌∷◌}
use Prim.Native.Nat.{ℕ, zero, suc, ◌+◌, ◌-◌, ◌*◌}
use lib.Dec.{ltb, eqb}
use lib.Ieee.{Float, binary32, lt, of_bits}
use Rattle.quantizer.specs.Course.{Course, b}
use Rattle.run_stages.specs.Whilst.{whilst, times}
use Rattle.run_stages.specs.State.{State, at, painted, beside}
use Rattle.run_stages.specs.Stages.{noticed, open_seeding, open_growing, open_replacing, error_of, keep, judged, enter_replacing, enter_growing, enter_reducing, close_seeding, close_growing, close_replacing, finish_round, due}
use Rattle.run_stages.specs.Stages.{settle, subs_of, have_of, alpha_of, draw, draw_with, going, step, advance, draws_of, fresh, start, refined_once, hand_in}
use Rattle.run_stages.specs.History.{sample_at, sampled}

-- a state without its hints
abbrev pub hintless : State → State
hintless s = painted s [] s.palette

-- states that differ in their hints alone
pub record Alike (s z : State) : Type 0 where
  pub rest : hintless s ≡ hintless z

by_cond : (t : Bool) {x y u v : State} → Alike x u → Alike y v → Alike (cond t x y) (cond t u v)
by_cond true p q = p
by_cond false p q = q

-- a function that leaves the same of a state without its hints
lift : (f : State → State) → ((s : State) → Alike (f s) (f (hintless s))) → (s z : State) → Alike s z → Alike (f s) (f z)
lift f h s z e = record { rest = (h s).rest ∙ ap (λ (x : State). hintless (f x)) e.rest ∙ sym (h z).rest }

-- ---- a loop whose test reads no hint
module _ (t : State → Bool) (f : State → State) (tests : (s z : State) → Alike s z → t s ≡ t z) (alike : (s z : State) → Alike s z → Alike (f s) (f z)) where
  pub whilst_alike : (n : ℕ) (s z : State) → Alike s z → Alike (whilst t f n s) (whilst t f n z)
  unfolding whilst
  whilst_alike zero s z e = e
  whilst_alike (suc n) s z e =
      let branch : Alike (cond (t z) (whilst t f n (f s)) s) (cond (t z) (whilst t f n (f z)) z) = by_cond (t z) (whilst_alike n (f s) (f z) (alike s z e)) e in
      record { rest = ap (λ (c : Bool). hintless (cond c (whilst t f n (f s)) s)) (tests s z e) ∙ branch.rest }

  pub times-alike : (n : ℕ) (s z : State) → Alike s z → times t f n s ≡ times t f n z
  unfolding times
  times-alike zero s z e = refl
  times-alike (suc n) s z e =
      ap (λ (c : Bool). cond c (suc (times t f n (f s))) 0) (tests s z e)
      ∙ ap (λ (k : ℕ). cond (t z) (suc k) 0) (times-alike n (f s) (f z) (alike s z e))

module _ (K : Course) where
  -- ---- rounds
  enter_growing-alike : (s z : State) → Alike s z → Alike (enter_growing K s) (enter_growing K z)
  unfolding enter_growing open_growing enter_replacing open_replacing keep noticed error_of
  enter_growing-alike = lift (enter_growing K) (λ s. by_cond (ltb 1 K.job.C) (record { rest = refl }) (record { rest = refl }))

  close_seeding-alike : (s z : State) → Alike s z → Alike (close_seeding K s) (close_seeding K z)
  close_seeding-alike = lift (close_seeding K) (λ s.
      unfold close_seeding open_seeding noticed in
      by_cond (ltb (s.rec.rounds + 1) (K.job.S - 1)) (record { rest = refl }) (enter_growing-alike (noticed K (s.rec.rounds + 2) 1 s) (noticed K (s.rec.rounds + 2) 1 (hintless s)) (record { rest = refl })))

  close_growing-alike : (s z : State) → Alike s z → Alike (close_growing K s) (close_growing K z)
  unfolding close_growing open_growing enter_replacing open_replacing keep noticed error_of
  close_growing-alike = lift (close_growing K) (λ s. by_cond (ltb (s.rec.rounds + 1) (K.job.C - 1)) (record { rest = refl }) (record { rest = refl }))

  judged-alike : (s z : State) → Alike s z → Alike (judged K s) (judged K z)
  unfolding judged keep noticed error_of
  judged-alike = lift (judged K) (λ s. by_cond (lt (error_of K s) (of_bits binary32 s.rec.error)) (record { rest = refl }) (record { rest = refl }))

  open_replacing-alike : (r : ℕ) (s z : State) → Alike s z → Alike (open_replacing K r s) (open_replacing K r z)
  unfolding open_replacing
  open_replacing-alike r = lift (open_replacing K r) (λ s. record { rest = refl })

  enter_reducing-alike : (s z : State) → Alike s z → Alike (enter_reducing K s) (enter_reducing K z)
  unfolding enter_reducing
  enter_reducing-alike = lift (enter_reducing K) (λ s. record { rest = refl })

  close_replacing-alike : (s z : State) → Alike s z → Alike (close_replacing K s) (close_replacing K z)
  unfolding close_replacing
  close_replacing-alike = lift (close_replacing K) (λ s.
      let j = judged-alike s (hintless s) (record { rest = refl }) in
      by_cond (ltb (s.rec.rounds + 1) 10) (open_replacing-alike (s.rec.rounds + 1) (judged K s) (judged K (hintless s)) j) (enter_reducing-alike (judged K s) (judged K (hintless s)) j))

  finish_alike : (s z : State) → Alike s z → Alike (finish_round K s) (finish_round K z)
  unfolding finish_round beside
  finish_alike = lift (finish_round K) (λ s.
      by_cond (eqb s.rec.stage 0) (close_seeding-alike s (hintless s) (record { rest = refl })) (by_cond (eqb s.rec.stage 1) (close_growing-alike s (hintless s) (record { rest = refl }))
      (by_cond (eqb s.rec.stage 2) (close_replacing-alike s (hintless s) (record { rest = refl })) (by_cond (eqb s.rec.stage 4) (record { rest = refl }) (record { rest = refl })))))

  settle-alike : (s z : State) → Alike s z → Alike (settle K s) (settle K z)
  unfolding settle
  settle-alike = whilst_alike due (finish_round K) (λ s z e. ap due e.rest) finish_alike (K.job.S + K.job.C + 20)

  -- ---- draws
  pub sample-alike : (s z : State) → Alike s z → sample_at s ≡ sample_at z
  sample-alike s z e = ap sample_at e.rest

  step-alike : (s z : State) → Alike s z → Alike (step K s) (step K z)
  step-alike s z e = unfold step in settle-alike (draw K s) (draw K z) (drawn s z e)
    where
      drawn : (s z : State) → Alike s z → Alike (draw K s) (draw K z)
      drawn = unfold draw draw_with subs_of have_of alpha_of in lift (draw K) (λ s. record { rest = refl })

  going-alike : (s z : State) → Alike s z → going s ≡ going z
  going-alike s z e = ap going e.rest

  pub advance-alike : (a : ℕ) (s z : State) → Alike s z → Alike (advance K a s) (advance K a z)
  advance-alike = whilst_alike going (step K) going-alike step-alike

  pub draws-alike : (a : ℕ) (s z : State) → Alike s z → draws_of K a s ≡ draws_of K a z
  draws-alike = times-alike going (step K) going-alike step-alike

  pub sampled-alike : (a : ℕ) (s z : State) → Alike s z → sampled K a s ≡ sampled K a z
  unfolding sampled
  sampled-alike zero s z e = refl
  sampled-alike (suc a) s z e =
      ap (λ (c : Bool). cond c (sample_at s ∷ sampled K a (step K s)) []) (going-alike s z e)
      ∙ ap (λ (i : ℕ). cond (going z) (i ∷ sampled K a (step K s)) []) (sample-alike s z e)
      ∙ ap (λ (is : List ℕ). cond (going z) (sample_at z ∷ is) []) (sampled-alike a (step K s) (step K z) (step-alike s z e))

  -- ---- a start and a hand-in
  pub start-alike : (seed : ℕ) (h k : List ℕ) → Alike (start K seed h) (start K seed k)
  unfolding start
  start-alike seed h k =
      settle-alike _ _ (by_cond (ltb 1 K.job.S) (unfold open_seeding fresh in record { rest = refl }) (enter_growing-alike (fresh K seed h) (fresh K seed k) (unfold fresh in record { rest = refl })))

  pub hand_in-alike : (reduced : List Float) (s z : State) → Alike s z → Alike (hand_in K reduced s) (hand_in K reduced z)
  unfolding hand_in refined_once
  hand_in-alike reduced = lift (hand_in K reduced) (λ s.
      by_cond (eqb s.rec.stage 3) (settle-alike (at (painted s s.hints reduced) 4 0 (10 * b K)) (at (painted (hintless s) [] reduced) 4 0 (10 * b K)) (record { rest = refl }))
      (by_cond (eqb s.rec.stage 5) (record { rest = refl }) (record { rest = refl })))

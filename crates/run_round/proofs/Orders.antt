-- The closing of a round, and a run's first one, pass the order and the samples by: what holds without them holds with any. Assumes nothing.
use Prim.Native.Nat.{ℕ, ◌+◌, ◌-◌}
use mathlib.Core.Path.{◌≡◌, refl, sym, ap, ◌∙◌}
use mathlib.Core.Bool.{Bool, true, false, cond}
use mathlib.Core.List.{List, []}
use lib.Dec.{ltb}
use lib.Ieee.{binary32, lt, of_bits}
use Rattle.quantizer.specs.Course.{Course, course}
use Rattle.quantizer.specs.Seeding.{worst_of}
use Rattle.run_stages.specs.State.{State, state_with, at}
use Rattle.run_stages.specs.Stages.{noticed, open_seeding, open_growing, open_replacing, error_of, keep, judged, enter_replacing, enter_growing, enter_reducing, close_seeding, close_growing, close_replacing}
use Rattle.run_round.specs.First.{first_round}

-- the state with another order
abbrev pub ordered : List ℕ → State → State
ordered o s =
    state_with o s.hints s.palette s.least s.rec

both_sides : (f : State → State) (t : Bool) (x y : State) → f (cond t x y) ≡ cond t (f x) (f y)
both_sides f true x y = refl
both_sides f false x y = refl

module _ (K : Course) (o : List ℕ) (s : State) where
  judged_ordered : ordered o (judged K s) ≡ judged K (ordered o s)
  unfolding judged keep noticed error_of
  judged_ordered = both_sides (ordered o) (lt (error_of K s) (of_bits binary32 s.rec.error)) (keep K s) (noticed K K.job.S K.job.C s)

  replacing_ordered : ordered o (close_replacing K s) ≡ close_replacing K (ordered o s)
  unfolding close_replacing open_replacing enter_reducing
  replacing_ordered =
      both_sides (ordered o) (ltb (s.rec.rounds + 1) 10) (open_replacing K (s.rec.rounds + 1) (judged K s)) (enter_reducing K (judged K s))
      ∙ ap (λ (z : State). cond (ltb (s.rec.rounds + 1) 10) (open_replacing K (s.rec.rounds + 1) z) (enter_reducing K z)) judged_ordered

  growing_ordered : ordered o (close_growing K s) ≡ close_growing K (ordered o s)
  unfolding close_growing open_growing enter_replacing open_replacing keep noticed error_of
  growing_ordered = both_sides (ordered o) (ltb (s.rec.rounds + 1) (K.job.C - 1)) (open_growing K (s.rec.rounds + 1) s) (enter_replacing K s)

  entry_ordered : ordered o (enter_growing K s) ≡ enter_growing K (ordered o s)
  unfolding enter_growing open_growing enter_replacing open_replacing keep noticed error_of
  entry_ordered = both_sides (ordered o) (ltb 1 K.job.C) (open_growing K 0 s) (enter_replacing K s)

seeding_ordered : (K : Course) (o : List ℕ) (s : State) → ordered o (close_seeding K s) ≡ close_seeding K (ordered o s)
unfolding close_seeding open_seeding noticed
seeding_ordered K o s =
    let x = open_seeding K (s.rec.rounds + 1) (worst_of K.job s.palette (s.rec.rounds + 2)) (noticed K (s.rec.rounds + 2) 1 s) in
    both_sides (ordered o) (ltb (s.rec.rounds + 1) (K.job.S - 1)) x (enter_growing K (noticed K (s.rec.rounds + 2) 1 s))
    ∙ ap (cond (ltb (s.rec.rounds + 1) (K.job.S - 1)) (ordered o x)) (entry_ordered K o (noticed K (s.rec.rounds + 2) 1 s))

first_ordered : (K : Course) (o : List ℕ) (s : State) → ordered o (first_round K s) ≡ first_round K (ordered o s)
unfolding first_round open_seeding
first_ordered K o s =
    both_sides (ordered o) (ltb 1 K.job.S) (open_seeding K 0 0 s) (enter_growing K s)
    ∙ ap (cond (ltb 1 K.job.S) (ordered o (open_seeding K 0 0 s))) (entry_ordered K o s)

module _ (K : Course) (s : State) where
  seeding-same : close_seeding (course K.job K.n []) s ≡ close_seeding K s
  unfolding close_seeding open_seeding noticed enter_growing open_growing enter_replacing open_replacing keep error_of
  seeding-same = refl

  growing-same : close_growing (course K.job K.n []) s ≡ close_growing K s
  unfolding close_growing open_growing enter_replacing open_replacing keep noticed error_of
  growing-same = refl

  replacing-same : close_replacing (course K.job K.n []) s ≡ close_replacing K s
  unfolding close_replacing open_replacing enter_reducing judged keep noticed error_of
  replacing-same = refl

  first-same : first_round (course K.job K.n []) s ≡ first_round K s
  unfolding first_round open_seeding enter_growing open_growing enter_replacing open_replacing keep noticed error_of
  first-same = refl

module _ (K : Course) (s x : State) (same : x.order ≡ s.order) where
  back : ordered s.order (ordered [] x) ≡ x
  back = ap (λ (o : List ℕ). ordered o x) (sym same)

  pub seeding_any : ordered [] x ≡ close_seeding (course K.job K.n []) (ordered [] s) → x ≡ close_seeding K s
  seeding_any e = sym back ∙ ap (ordered s.order) (e ∙ seeding-same K (ordered [] s)) ∙ seeding_ordered K s.order (ordered [] s)

  pub growing_any : ordered [] x ≡ close_growing (course K.job K.n []) (ordered [] s) → x ≡ close_growing K s
  growing_any e = sym back ∙ ap (ordered s.order) (e ∙ growing-same K (ordered [] s)) ∙ growing_ordered K s.order (ordered [] s)

  pub replacing_any : ordered [] x ≡ close_replacing (course K.job K.n []) (ordered [] s) → x ≡ close_replacing K s
  replacing_any e = sym back ∙ ap (ordered s.order) (e ∙ replacing-same K (ordered [] s)) ∙ replacing_ordered K s.order (ordered [] s)

  pub final_any : ordered [] x ≡ at (ordered [] s) 5 0 0 → x ≡ at s 5 0 0
  final_any e = sym back ∙ ap (ordered s.order) e

  -- a run's first round
  pub first_any : ordered [] x ≡ first_round (course K.job K.n []) (ordered [] s) → x ≡ first_round K s
  first_any e = sym back ∙ ap (ordered s.order) (e ∙ first-same K (ordered [] s)) ∙ first_ordered K s.order (ordered [] s)

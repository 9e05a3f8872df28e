-- The round that the definitions open at a start, and when another is closed, is the next in the count. Assumes nothing.
use Prim.Native.Nat.{ℕ, ◌+◌, ◌-◌, ◌≤◌, ◌<◌}
use mathlib.Core.Path.{◌≡◌, refl, ap, ◌∙◌}
use mathlib.Core.Logic.{◌⊎◌, inl, inr}
use mathlib.Core.Bool.{cond}
use native.Mathlib.Omega.{arith}
use lib.Dec.{ltb}
use borrow.Author.Tests.{lt-ltb, le-ltb, ne_eqb}
use Rattle.lists.proofs.Runs.{lt_or_ge}
use Rattle.quantizer.specs.Course.{Course}
use Rattle.quantizer.specs.Seeding.{worst_of}
use Rattle.run_stages.specs.State.{State}
use Rattle.run_stages.specs.Stages.{noticed, open_seeding, enter_replacing, enter_growing, close_seeding, close_growing, close_replacing, judged}
use Rattle.run_keeping.specs.Keeping.{keeps, seen}
use Rattle.run_turns.specs.Rounds.{replace_on, grow_on, open_turn}

module _ (K : Course) (s : State) where
  first-replaced : replace_on K 0 s ≡ enter_replacing K s
  unfolding replace_on enter_replacing seen keeps
  first-replaced = refl

  later_seen : (round : ℕ) → seen K (round + 1) s ≡ judged K s
  unfolding seen keeps judged
  later_seen round = rw (ne_eqb (round + 1) 0 (λ (e : round + 1 ≡ 0). omega arith))

  entered : 1 ≤ K.job.C → grow_on K 0 s ≡ enter_growing K s
  unfolding grow_on enter_growing
  entered some = by (lt_or_ge 1 K.job.C)
    where
      by : (1 < K.job.C) ⊎ (K.job.C ≤ 1) → grow_on K 0 s ≡ enter_growing K s
      by (inl t) = rw (lt-ltb 1 K.job.C t, lt-ltb 0 (K.job.C - 1) (omega arith))
      by (inr t) =
          let none : 0 - (K.job.C - 1) ≡ 0 = omega arith in
          rw (le-ltb 1 K.job.C t, le-ltb 0 (K.job.C - 1) (omega arith)) (ap (λ (k : ℕ). replace_on K k s) none ∙ first-replaced)

  grown-after : s.rec.rounds + 1 ≤ K.job.C - 1 → grow_on K (s.rec.rounds + 1) s ≡ close_growing K s
  unfolding grow_on close_growing
  grown-after few = by (lt_or_ge (s.rec.rounds + 1) (K.job.C - 1))
    where
      by : (s.rec.rounds + 1 < K.job.C - 1) ⊎ (K.job.C - 1 ≤ s.rec.rounds + 1) → grow_on K (s.rec.rounds + 1) s ≡ close_growing K s
      by (inl t) = rw (lt-ltb (s.rec.rounds + 1) (K.job.C - 1) t)
      by (inr t) =
          let none : (s.rec.rounds + 1) - (K.job.C - 1) ≡ 0 = omega arith in
          rw (le-ltb (s.rec.rounds + 1) (K.job.C - 1) t) (ap (λ (k : ℕ). replace_on K k s) none ∙ first-replaced)

  replaced-after : 1 ≤ K.job.C → grow_on K (K.job.C + s.rec.rounds) s ≡ close_replacing K s
  unfolding grow_on replace_on close_replacing
  replaced-after some =
      let next : (K.job.C + s.rec.rounds) - (K.job.C - 1) ≡ s.rec.rounds + 1 = omega arith in
      rw (le-ltb (K.job.C + s.rec.rounds) (K.job.C - 1) (omega arith), next, later_seen s.rec.rounds)

-- ---- what follows each round
pub first-turn : (K : Course) (s : State) → 1 ≤ K.job.S → 1 ≤ K.job.C → open_turn K 0 0 s ≡ cond (ltb 1 K.job.S) (open_seeding K 0 0 s) (enter_growing K s)
unfolding open_turn
first-turn K s subs some = by (lt_or_ge 1 K.job.S)
  where
    by : (1 < K.job.S) ⊎ (K.job.S ≤ 1) → open_turn K 0 0 s ≡ cond (ltb 1 K.job.S) (open_seeding K 0 0 s) (enter_growing K s)
    by (inl t) = rw (lt-ltb 1 K.job.S t, lt-ltb 0 (K.job.S - 1) (omega arith))
    by (inr t) =
        let none : 0 - (K.job.S - 1) ≡ 0 = omega arith in
        rw (le-ltb 1 K.job.S t, le-ltb 0 (K.job.S - 1) (omega arith)) (ap (λ (k : ℕ). grow_on K k s) none ∙ entered K s some)

pub seeded_on : (K : Course) (s x : State) → x ≡ noticed K (s.rec.rounds + 2) 1 s → s.rec.rounds + 2 ≤ K.job.S → 1 ≤ K.job.C → open_turn K (s.rec.rounds + 1) (worst_of K.job s.palette (s.rec.rounds + 2)) x ≡ close_seeding K s
unfolding open_turn close_seeding
seeded_on K s x e few some = by (lt_or_ge (s.rec.rounds + 1) (K.job.S - 1))
  where
    from : ℕ
    from = worst_of K.job s.palette (s.rec.rounds + 2)

    by : (s.rec.rounds + 1 < K.job.S - 1) ⊎ (K.job.S - 1 ≤ s.rec.rounds + 1) → open_turn K (s.rec.rounds + 1) from x ≡ close_seeding K s
    by (inl t) = rw (lt-ltb (s.rec.rounds + 1) (K.job.S - 1) t) (ap (open_seeding K (s.rec.rounds + 1) from) e)
    by (inr t) =
        let none : (s.rec.rounds + 1) - (K.job.S - 1) ≡ 0 = omega arith in
        rw (le-ltb (s.rec.rounds + 1) (K.job.S - 1) t) (ap (λ (k : ℕ). grow_on K k x) none ∙ entered K x some ∙ ap (enter_growing K) e)

module _ (K : Course) (s : State) (from : ℕ) (subs : 1 ≤ K.job.S) where
  past : (turn later : ℕ) → turn - (K.job.S - 1) ≡ later → K.job.S - 1 ≤ turn → open_turn K turn from s ≡ grow_on K later s
  unfolding open_turn
  past turn later e t = rw (le-ltb turn (K.job.S - 1) t, e)

  pub grown_on : s.rec.rounds + 2 ≤ K.job.C → open_turn K (K.job.S + s.rec.rounds) from s ≡ close_growing K s
  grown_on few = past (K.job.S + s.rec.rounds) (s.rec.rounds + 1) (omega arith) (omega arith) ∙ grown-after K s (omega arith)

  pub replaced_on : 1 ≤ K.job.C → open_turn K (K.job.S + K.job.C + s.rec.rounds - 1) from s ≡ close_replacing K s
  replaced_on some = past (K.job.S + K.job.C + s.rec.rounds - 1) (K.job.C + s.rec.rounds) (omega arith) (omega arith) ∙ replaced-after K s some

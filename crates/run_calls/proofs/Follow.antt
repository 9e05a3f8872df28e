-- The run's own draws are the cycle's: whatever the division into calls, after t draws each sample has been drawn t / n times, rounded down or up, and
-- none waits past 2 · n - 1 draws. Assumes nothing.
use mathlib.Core.Path.{◌≡◌, refl, sym, ap, subst⁻¹, ◌∙◌}
use mathlib.Core.Bool.{Bool, cond}
use mathlib.Core.Logic.{inl, inr}
use mathlib.Core.List.{List, [], ◌∷◌, ◌++◌, append_assoc, append-nil}
use Prim.Native.Nat.{ℕ, zero, suc, ◌+◌, ◌-◌, ◌*◌, ◌≤◌, ◌<◌}
use native.Mathlib.Numerals.{add-one}
use native.Mathlib.Decide.{ℕ_discrete}
use native.Mathlib.Omega.{arith}
use lib.ListN.{length, get_or, get_or-append}
use lib.Seq.{get_or-append-add}
use lib.Dec.{eqb, ltb}
use lib.Ieee.{Float}
use Rattle.lists.specs.Count.{count}
use Rattle.lists.specs.Firsts.{firsts, hits}
use Rattle.lists.proofs.Hits.{length-firsts}
use Rattle.prng.specs.Shuffle.{deck}
use Rattle.cycle.specs.Cycle.{cycle, draw_one, after, draw_at}
use Rattle.cycle.proofs.Follow.{follow_sample, follow_next}
use Rattle.cycle.specs.Even.{Even}
use Rattle.cycle.proofs.Even.{even, waits}
use Rattle.quantizer.specs.Course.{Course, b}
use Rattle.run_stages.specs.State.{State, at, painted}
use Rattle.run_stages.specs.Stages.{open_seeding, enter_growing, settle, cycle_of, draw, draw_with, going, step, advance, fresh, start, refined_once, hand_in}
use Rattle.run_stages.specs.Calls.{Memory, state_of}
use Rattle.run_stages.specs.History.{sample_at, sampled, Run, started, advanced, handed_in}
use Rattle.run_calls.proofs.Cases.{both, decide}
use Rattle.run_calls.proofs.Whilsts.{whilst_keeps, whilst_zero, whilst_step, whilst_stop}
use Rattle.run_calls.proofs.Made.{Same, same-cycle, same-made, settle-same, start-same, hand_in-same, step-made, start-made, hand_in-made}
use Rattle.run_calls.specs.Accepted.{Accepted}
use Rattle.run_calls.proofs.Next.{started-state, advanced-state, handed_state, start_leaves, advance_leaves, hand_in_leaves, accepted-made-at_end}

-- ---- a state at its place in the cycle of a seed
pub record Follows (K : Course) (seed : ℕ) (s : State) : Type 0 where
  pub cycle : cycle_of s.order s.rec ≡ after K.n seed s.rec.made

-- a first value, by its place
first-at : (f : ℕ → ℕ) (t i : ℕ) → i < t → get_or (firsts f t) i 0 ≡ f i
unfolding firsts
first-at f zero i l = absurd (none l)
  where
    none : i < 0 → ⊥
    none l = omega arith
first-at f (suc t) i l = by (ℕ_discrete i t) (λ k. first-at f t i k)
  where
    by : Dec (i ≡ t) → (i < t → get_or (firsts f t) i 0 ≡ f i) → get_or (firsts f t ++ (f t ∷ [])) i 0 ≡ f i
    by (yes e) ih = ap (λ (k : ℕ). get_or (firsts f t ++ (f t ∷ [])) k 0) (e ∙ last) ∙ get_or-append-add (firsts f t) (f t ∷ []) 0 0 ∙ sym (ap f e)
      where
        last : t ≡ length (firsts f t) + 0
        last = omega (arith, length-firsts f t)
    by (no n) ih = get_or-append (firsts f t) (f t ∷ []) 0 i (omega (arith, n, length-firsts f t)) ∙ ih (omega (arith, n))

module _ (K : Course) (seed : ℕ) where
  same_follows : (s z : State) → Same s z → Follows K seed s → Follows K seed z
  same_follows s z e F =
      record { cycle = same-cycle s z e ∙ F.cycle ∙ sym (ap (after K.n seed) (same-made s z e)) }

  -- the next sample is the cycle's
  pub sample_follows : (s : State) → Follows K seed s → sample_at s ≡ draw_at K.n seed s.rec.made
  sample_follows s F = follow_sample K.n seed s.rec.made (sample_at s) (cycle_of s.order s.rec) (draw_one (cycle_of s.order s.rec)).next F.cycle refl

  draw_follows : (s : State) → Follows K seed s → Follows K seed (draw K s)
  unfolding draw draw_with draw_one
  draw_follows s F =
      record {
        cycle = follow_next K.n seed s.rec.made (sample_at s) (cycle_of s.order s.rec) (draw_one (cycle_of s.order s.rec)).next F.cycle refl
            ∙ sym (ap (after K.n seed) (add-one s.rec.made));
      }

  pub step_follows : (s : State) → Follows K seed s → Follows K seed (step K s)
  unfolding step
  step_follows s F = same_follows (draw K s) (settle K (draw K s)) (settle-same K (draw K s)) (draw_follows s F)

  pub advance_follows : (a : ℕ) (s : State) → Follows K seed s → Follows K seed (advance K a s)
  advance_follows a s F = whilst_keeps going (step K) (Follows K seed) (λ z G _. step_follows z G) a s F

  pub start_follows : (hints : List ℕ) → Follows K seed (start K seed hints)
  start_follows hints = same_follows (fresh K seed hints) (start K seed hints) (start-same K seed hints) begun
    where
      begun : Follows K seed (fresh K seed hints)
      begun = unfold fresh after in record { cycle = refl }

  pub hand_in_follows : (reduced : List Float) (s : State) → Follows K seed s → Follows K seed (hand_in K reduced s)
  hand_in_follows reduced s F = same_follows s (hand_in K reduced s) (hand_in-same K reduced s) F

  -- ---- the samples of one advance go on where the draws made end
  pub advance-samples : (a : ℕ) (s : State) → Follows K seed s → firsts (draw_at K.n seed) s.rec.made ++ sampled K a s ≡ firsts (draw_at K.n seed) (advance K a s).rec.made
  unfolding sampled
  advance-samples zero s F = append-nil (firsts (draw_at K.n seed) s.rec.made) ∙ sym (ap (λ (z : State). firsts (draw_at K.n seed) z.rec.made) (whilst_zero going (step K) s))
  advance-samples (suc a) s F = elim (decide (going s)) [
    | inl d ↦
        ap (λ (t : Bool). done_so_far ++ cond t (sample_at s ∷ sampled K a (step K s)) []) d
        ∙ sym (append_assoc done_so_far (sample_at s ∷ []) (sampled K a (step K s)))
        ∙ ap (λ (l : List ℕ). l ++ sampled K a (step K s)) one_more
        ∙ advance-samples a (step K s) (step_follows s F)
        ∙ sym (ap (λ (z : State). firsts (draw_at K.n seed) z.rec.made) (whilst_step going (step K) a s d))
    | inr d ↦
        ap (λ (t : Bool). done_so_far ++ cond t (sample_at s ∷ sampled K a (step K s)) []) d
        ∙ append-nil done_so_far
        ∙ sym (ap (λ (z : State). firsts (draw_at K.n seed) z.rec.made) (whilst_stop going (step K) (suc a) s d))
  ]
    where
      done_so_far : List ℕ
      done_so_far = firsts (draw_at K.n seed) s.rec.made

      one_more : done_so_far ++ (sample_at s ∷ []) ≡ firsts (draw_at K.n seed) (step K s).rec.made
      one_more =
          unfold firsts in
          ap (λ (x : ℕ). firsts (draw_at K.n seed) s.rec.made ++ (x ∷ [])) (sample_follows s F)
          ∙ sym (ap (firsts (draw_at K.n seed)) (step-made K s ∙ add-one s.rec.made))

-- ---- all calls since the start
pub record Followed (K : Course) (seed : ℕ) (m : Memory) (ds : List ℕ) : Type 0 where
  pub follows : Follows K seed (state_of m)
  pub samples : ds ≡ firsts (draw_at K.n seed) (state_of m).rec.made

module _ (K : Course) (seed : ℕ) where
  pub run_follows : {m : Memory} {ds : List ℕ} → Run K seed m ds → Followed K seed m ds
  run_follows (started m h) =
      let e = started-state K m seed h in
      record {
        follows = subst⁻¹ (Follows K seed) e (start_follows K seed m.hints);
        samples = unfold firsts in sym (ap (firsts (draw_at K.n seed)) (ap (λ (z : State). z.rec.made) e ∙ start-made K seed m.hints));
      }
  run_follows (advanced {m} {ds} r a h) =
      let F = run_follows r in
      let e = advanced-state K m a h in
      record {
        follows = subst⁻¹ (Follows K seed) e (advance_follows K seed a (state_of m) F.follows);
        samples = ap (λ (l : List ℕ). l ++ sampled K a (state_of m)) F.samples ∙ advance-samples K seed a (state_of m) F.follows ∙ sym (ap (λ (z : State). firsts (draw_at K.n seed) z.rec.made) e);
      }
  run_follows (handed_in {m} {ds} r reduced h) =
      let F = run_follows r in
      let e = handed_state K m reduced h in
      record {
        follows = subst⁻¹ (Follows K seed) e (hand_in_follows K seed reduced (state_of m) F.follows);
        samples = F.samples ∙ sym (ap (firsts (draw_at K.n seed)) (ap (λ (z : State). z.rec.made) e ∙ hand_in-made K reduced (state_of m)));
      }

  -- as many as word 4 says
  pub run-made : {m : Memory} {ds : List ℕ} → Run K seed m ds → length ds ≡ get_or m.words 4 0
  unfolding state_of
  run-made {m} {ds} r = ap length (run_follows r).samples ∙ length-firsts (draw_at K.n seed) (get_or m.words 4 0)

  pub run-samples : {m : Memory} {ds : List ℕ} → Run K seed m ds → ds ≡ firsts (draw_at K.n seed) (length ds)
  run-samples {m} {ds} r = let F = run_follows r in F.samples ∙ sym (ap (firsts (draw_at K.n seed)) (ap length F.samples ∙ length-firsts (draw_at K.n seed) (state_of m).rec.made))

  -- each sample has been drawn t / n times, rounded down or up
  pub run-even : {m : Memory} {ds : List ℕ} → Run K seed m ds → (i : ℕ) → i < K.n → Even K.n (length ds) (count i ds)
  run-even {m} {ds} r i l = subst⁻¹ (λ (xs : List ℕ). Even K.n (length ds) (count i xs)) (run-samples r) (even K.n seed i (length ds) l)

  -- of any 2 · n - 1 of its draws in a row, from draw k on, one is i
  pub run-waits : {m : Memory} {ds : List ℕ} → Run K seed m ds → (i k : ℕ) → i < K.n → k + (2 * K.n - 1) ≤ length ds
      → (j : ℕ) × (k ≤ j) × (j < k + (2 * K.n - 1)) × (get_or ds j 0 ≡ i)
  run-waits {m} {ds} r i k l h =
      let w = waits K.n seed i k l in
      (w.0, w.1, w.2, ap (λ (xs : List ℕ). get_or xs w.0 0) (run-samples r) ∙ first-at (draw_at K.n seed) (length ds) w.0 (omega (arith, w.2)) ∙ w.3)

-- ---- what the next call may count on
module _ (K : Course) (seed : ℕ) where
  -- whatever a run's calls left, every check accepts it, the moment's apart
  pub run-accepted : {m : Memory} {ds : List ℕ} → Run K seed m ds → Accepted K m
  run-accepted (started m h) = start_leaves K m seed h
  run-accepted (advanced {m} r a h) = advance_leaves K m a h
  run-accepted (handed_in {m} r reduced h) = hand_in_leaves K m reduced h

  -- a run past its last draw has made (S + C + 18) · b
  pub run_end : {m : Memory} {ds : List ℕ} → Run K seed m ds → 5 ≤ get_or m.words 1 0 → length ds ≡ (K.job.S + K.job.C + 18) * b K
  run_end {m} {ds} r l = run-made K seed r ∙ accepted-made-at_end K m (run-accepted r) l

-- how often a sample was drawn, by the cycle's own count
pub run-hits : (K : Course) (seed : ℕ) {m : Memory} {ds : List ℕ} → Run K seed m ds → (i : ℕ) → count i ds ≡ hits (draw_at K.n seed) i (length ds)
run-hits K seed r i = ap (count i) (run-samples K seed r)

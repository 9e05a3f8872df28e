-- The samples that a run draws, over any division into calls: the draws of one advance, and those of all calls since the start. Definitions only. Assumes nothing.
use Rattle.std.specs.Prelude.{ℕ, zero, suc, ◌≡◌, cond, List, [], ◌∷◌, ◌++◌, Float}
use Rattle.cycle.specs.Cycle.{draw_one}
use Rattle.quantizer.specs.Course.{Course}
use Rattle.run_stages.specs.State.{State}
use Rattle.run_stages.specs.Stages.{cycle_of, step, going}
use Rattle.run_stages.specs.Calls.{Memory, state_of, start_answer, advance_answer, hand_in_answer, start_call, advance_call, hand_in_call}

-- the sample that moves the palette at the next draw
abbrev pub sample_at : State → ℕ
sample_at s = (draw_one (cycle_of s.order s.rec)).sample

-- the samples that an advance by a draws, in their order
unfoldable pub sampled : Course → ℕ → State → List ℕ
sampled K zero s = []
sampled K (suc a) s = let rest = sampled K a (step K s) in cond (going s) (sample_at s ∷ rest) []

-- calls on one job since its start from a seed, each accepted: the memory that the last one left, and all samples drawn until then
pub data Run (K : Course) (seed : ℕ) : Memory → List ℕ → Type 0 where
  started : (m : Memory) → (start_answer K m).number ≡ 0 → Run K seed (start_call K m seed).after []
  advanced : {m : Memory} {ds : List ℕ} → Run K seed m ds → (a : ℕ) → (advance_answer K m).number ≡ 0
      → Run K seed (advance_call K m a).after (ds ++ sampled K a (state_of m))
  handed_in : {m : Memory} {ds : List ℕ} → Run K seed m ds → (reduced : List Float) → (hand_in_answer K m reduced).number ≡ 0
      → Run K seed (hand_in_call K m reduced).after ds

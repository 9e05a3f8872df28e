-- A job is started once and advanced in calls of any size. After t draws each sample was drawn t / n times, rounded down or up, and none waits past
-- 2 · n - 1 draws; a finished run made (S + C + 18) · b draws, b being n / 10 rounded down. Assumes nothing.
use Rattle.std.specs.Prelude.{ℕ, ◌+◌, ◌-◌, ◌*◌, ◌/◌, ◌≤◌, ◌<◌, ◌≡◌, true, List, [], ◌∷◌, length, get_or, take, Float}
use Rattle.lists.specs.Count.{count}
use Rattle.lists.specs.Firsts.{firsts}
use Rattle.answer.specs.Refusals.{nothing}
use Rattle.answer.specs.Outcome.{outcome}
use Rattle.cycle.specs.Cycle.{draw_at}
use Rattle.cycle.specs.Even.{Even}
use Rattle.cycle.specs.Tenth.{tenth}
use Rattle.quantizer.specs.Course.{Course, b}
use Rattle.run_stages.specs.State.{draws}
use Rattle.run_stages.specs.Stages.{advance}
use Rattle.run_stages.specs.Calls.{Memory, state_of, advanced as answered, start_answer, advance_answer, hand_in_answer, start_call, advance_call, hand_in_call}
use Rattle.run_stages.specs.History.{Run}
use Rattle.run_calls.specs.Accepted.{Accepted}

-- ds are all samples that the calls since the start from that seed drew, in their order, and m is the memory that the last call left
pub record Evenly (K : Course) (seed : ℕ) (m : Memory) (ds : List ℕ) : Type 0 where
  -- they are the defined ones: the first draws of the cycle from that seed
  pub defined : ds ≡ firsts (draw_at K.n seed) (length ds)
  -- as many as word 4 says
  pub made : length ds ≡ get_or m.words 4 0
  -- after any t of its draws
  pub even : (i t : ℕ) → i < K.n → t ≤ length ds → Even K.n t (count i (take t ds))
  -- of any 2 · n - 1 draws in a row, from draw k on, one is of sample i
  pub waits : (i k : ℕ) → i < K.n → k + (2 * K.n - 1) ≤ length ds → (j : ℕ) × (k ≤ j) × (j < k + (2 * K.n - 1)) × (get_or ds j 0 ≡ i)
  -- past the last draw, at stages 5, 6 and 7
  pub finished : 5 ≤ get_or m.words 1 0 → length ds ≡ (K.job.S + K.job.C + 18) * b K
  -- the next call accepts what the last one left
  pub resumes : Accepted K m

-- ---- any division into calls
-- accepted calls that lead from m to x: all colours handed in, in their order, and the number of all draws reported
pub data Row (K : Course) : Memory → List (List Float) → ℕ → Memory → Type 0 where
  none : {m : Memory} → Row K m [] 0 m
  advanced : {m x : Memory} {hs : List (List Float)} {d : ℕ} (a : ℕ) → (advance_answer K m).number ≡ 0
      → Row K (advance_call K m a).after hs d x → Row K m hs ((advance_call K m a).answer.draws + d) x
  handed_in : {m x : Memory} {hs : List (List Float)} {d : ℕ} (reduced : List Float) → (hand_in_answer K m reduced).number ≡ 0
      → Row K (hand_in_call K m reduced).after hs d x → Row K m (reduced ∷ hs) d x

-- from one memory the same hand-ins and as many draws in all lead to one memory
pub record AnyDivision (K : Course) : Type 0 where
  pub same : {m x y : Memory} {hs : List (List Float)} {d : ℕ} → Row K m hs d x → Row K m hs d y → x ≡ y

-- ---- the demand
pub record Third (K : Course) : Type 0 where
  -- whatever the division into calls
  pub evenly : (seed : ℕ) {m : Memory} {ds : List ℕ} → Run K seed m ds → Evenly K seed m ds
  pub any_division : AnyDivision K
  -- to advance by a and then by c, with no stop between, is to advance by a + c
  pub any_size : (m : Memory) (a c : ℕ) → (advance_answer K m).number ≡ 0 → draws (advance K a (state_of m)).rec.stage ≡ true
      → advance_call K m (a + c)
      ≡ outcome (answered nothing ((advance_call K m a).answer.draws + (advance_call K (advance_call K m a).after c).answer.draws)) (advance_call K (advance_call K m a).after c).after
  -- with fewer than ten samples there are no draws: the start goes straight to the first stop
  pub straight : b K ≡ 0 → (m : Memory) (seed : ℕ) → (start_answer K m).number ≡ 0 → get_or (start_call K m seed).after.words 1 0 ≡ 3
  -- the draws that a call reports are those that its record has more, in refused calls too
  pub reported : (m : Memory) (a : ℕ) → get_or (advance_call K m a).after.words 4 0 ≡ get_or m.words 4 0 + (advance_call K m a).answer.draws
  -- b is the Rust's f32 tenth, cut to a whole number
  pub tenths : (n : ℕ) → n ≤ 16384 → tenth n ≡ n / 10

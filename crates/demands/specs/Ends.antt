-- A run ends: each accepted advance by 1 or more and each accepted hand-in brings the finish nearer, and short of the finish one of the two is accepted.
-- (That one call ends is part of what the prover shows of every function, and the ten contracts ask nothing.) Assumes nothing.
use Rattle.std.specs.Prelude.{ℕ, suc, ◌+◌, ◌-◌, ◌*◌, ◌≤◌, ◌≡◌, true, false, ◌⊎◌, ◌≢◌, List, get_or, Float}
use Rattle.job.specs.Job.{two}
use Rattle.job.specs.Checks.{components_fit}
use Rattle.quantizer.specs.Course.{Course, b}
use Rattle.run_stages.specs.State.{draws}
use Rattle.run_stages.specs.Calls.{Memory, colours_room, start_answer, advance_answer, hand_in_answer, result_answer, advance_call, hand_in_call}
use Rattle.run_stages.specs.History.{Run}
use Rattle.run_calls.specs.HandIns.{hand_ins}
use Rattle.run_calls.specs.Accepted.{Accepted}
use Rattle.demands.specs.Third.{Row}

-- the draws and hand-ins to the finish
abbrev pub ahead : Course → Memory → ℕ
ahead K m = (K.job.S + K.job.C + 18) * b K - get_or m.words 4 0 + hand_ins (get_or m.words 1 0)

-- k accepted calls, each a hand-in or an advance by at least 1, lead from m to the memory that the last one left
pub data Calls (K : Course) (m : Memory) : ℕ → Memory → Type 0 where
  none : Calls K m 0 m
  advanced : {k : ℕ} {x : Memory} → Calls K m k x → (a : ℕ) → (advance_answer K x).number ≡ 0 → Calls K m (suc k) (advance_call K x (suc a)).after
  handed_in : {k : ℕ} {x : Memory} → Calls K m k x → (reduced : List Float) → (hand_in_answer K x reduced).number ≡ 0 → Calls K m (suc k) (hand_in_call K x reduced).after

-- from m a row of accepted calls to the finish
pub record Ending (K : Course) (m : Memory) : Type 0 where
  pub hand_ins : List (List Float)
  pub drawn : ℕ
  pub last : Memory
  pub row : Row K m hand_ins drawn last
  pub stage : get_or last.words 1 0 ≡ 7

-- a run from that seed that is finished: what its last call left, and all samples that it drew
pub record Finished (K : Course) (seed : ℕ) : Type 0 where
  pub last : Memory
  pub samples : List ℕ
  pub run : Run K seed last samples
  pub stage : get_or last.words 1 0 ≡ 7

pub record Ends (K : Course) : Type 0 where
  -- an advance brings the finish nearer by the draws that it reports, which are some where it has an allotment
  pub advance_nearer : (m : Memory) (a : ℕ) → (advance_answer K m).number ≡ 0 → ahead K (advance_call K m a).after + (advance_call K m a).answer.draws ≡ ahead K m
  pub advance_draws : (m : Memory) (a : ℕ) → (advance_answer K m).number ≡ 0 → 1 ≤ (advance_call K m (suc a)).answer.draws
  -- and where its allotment covers the draws that are missing it ends at a stop
  pub advance_stops : (m : Memory) (a : ℕ) → (advance_answer K m).number ≡ 0 → (K.job.S + K.job.C + 18) * b K ≤ get_or m.words 4 0 + a
      → draws (get_or (advance_call K m a).after.words 1 0) ≡ false
  -- a hand-in by one
  pub hand_in_nearer : (m : Memory) (reduced : List Float) → (hand_in_answer K m reduced).number ≡ 0 → suc (ahead K (hand_in_call K m reduced).after) ≡ ahead K m
  -- so no row of calls is longer than what was ahead
  pub row_ends : {m x : Memory} {k : ℕ} → Calls K m k x → k + ahead K x ≤ ahead K m
  pub few_calls : {m x : Memory} {k : ℕ} → Calls K m k x → k ≤ (K.job.S + K.job.C + 18) * b K + 3
  -- short of the finish a call is accepted, and at the finish the result is
  pub goes_on : (m : Memory) → Accepted K m → get_or m.words 1 0 ≢ 7
      → ((advance_answer K m).number ≡ 0) ⊎ ((reduced : List Float) → colours_room K reduced ≡ true → components_fit two reduced ≡ true → (hand_in_answer K m reduced).number ≡ 0)
  pub result_there : (m : Memory) → Accepted K m → get_or m.words 1 0 ≡ 7 → (out : List Float) → colours_room K out ≡ true → (result_answer K m out).number ≡ 0
  -- the finish is reached: from every accepted memory, and by a run from every accepted start
  pub reached : (m : Memory) → Accepted K m → Ending K m
  pub finished : (m : Memory) (seed : ℕ) → (start_answer K m).number ≡ 0 → Finished K seed

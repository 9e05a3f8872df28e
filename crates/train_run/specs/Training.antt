-- How `train` trains: a run from seed 0 that makes all its draws, and at each of its three stops is handed its own colours, cut to -2..2.
-- Definitions only. Assumes nothing.
use Rattle.std.specs.Prelude.{ℕ, zero, suc, cond, List, map, Float}
use Rattle.std.specs.Float.Ieee.{lt, neg}
use Rattle.job.specs.Job.{two}
use Rattle.quantizer.specs.Course.{Course}
use Rattle.run_stages.specs.State.{State}
use Rattle.run_stages.specs.Stages.{start, advance, hand_in}
use Rattle.run_stages.specs.Calls.{Memory, start_call, advance_call, hand_in_call}

-- ---- colours cut to -2..2
unfoldable pub cut_one : Float → Float
cut_one x = cond (lt two x) two (cond (lt x (neg two)) (neg two) x)

unfoldable pub cut : List Float → List Float
cut xs = map cut_one xs

-- ---- the run. The allotment is more than any run draws
abbrev pub all : ℕ
all = 0xffff_ffff_ffff_ffff

module _ (K : Course) where
  -- all draws up to the next stop
  unfoldable pub to_stop : State → State
  to_stop s = advance K all s

  -- a stop is passed
  unfoldable pub hand_cut : State → State
  hand_cut s = hand_in K (cut s.palette) s

  -- a turn: all draws up to the next stop, none where the run stands at one; and that stop is passed
  unfoldable pub turn : State → State
  turn s = hand_cut (to_stop s)

  -- the run finished, from these hints: one turn for each of its three stops
  unfoldable pub trained : List ℕ → State
  trained hints = turn (turn (turn (start K 0 hints)))

-- ---- the same by the public calls, over lent memory
module _ (K : Course) where
  abbrev pub go_call : Memory → Memory
  go_call m = (advance_call K m all).after

  abbrev pub stop_call : Memory → Memory
  stop_call m = (hand_in_call K m (cut m.palette)).after

  unfoldable pub turn_call : Memory → Memory
  turn_call m = stop_call (go_call m)

  -- so many turns
  unfoldable pub turn_calls : ℕ → Memory → Memory
  turn_calls zero m = m
  turn_calls (suc k) m = turn_call (turn_calls k m)

  -- a start and three turns
  abbrev pub train_calls : Memory → Memory
  train_calls m = turn_calls 3 (start_call K m 0).after

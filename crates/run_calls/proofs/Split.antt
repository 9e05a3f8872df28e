-- How an allotment is divided makes no difference. Nothing of a step is opened. Assumes nothing.
use mathlib.Core.Path.{◌≡◌}
use mathlib.Core.Bool.{false}
use Prim.Native.Nat.{ℕ, ◌+◌}
use Rattle.run_calls.proofs.Whilsts.{whilst_stop, whilst_add, times-add}
use Rattle.quantizer.specs.Course.{Course}
use Rattle.run_stages.specs.State.{State}
use Rattle.run_stages.specs.Stages.{due, finish_round, settle, going, step, advance, draws_of}

module _ (K : Course) where
  -- to advance by a and then by c is to advance by a + c, and the draws add up
  pub advance-add : (a c : ℕ) (s : State) → advance K (a + c) s ≡ advance K c (advance K a s)
  advance-add = whilst_add going (step K)

  pub draws-add : (a c : ℕ) (s : State) → draws_of K (a + c) s ≡ draws_of K a s + draws_of K c (advance K a s)
  draws-add = times-add going (step K)

  -- an advance need not settle first: where nothing is due, as at every record that passes, that changes nothing
  pub settle-idle : (s : State) → due s ≡ false → settle K s ≡ s
  unfolding settle
  settle-idle s h = whilst_stop due (finish_round K) _ s h

-- What the closing of a round and the settling of a run ask of its state. Definitions only. Assumes nothing.
use Rattle.std.specs.Prelude.{ℕ, ◌+◌, ◌-◌, ◌≤◌, ◌<◌, ◌≡◌, cond, List, eqb, Float}
use Rattle.job.specs.Job.{Job}
use Rattle.job.specs.Gives.{Ready}
use Rattle.quantizer.specs.Course.{Course}
use Rattle.run_stages.specs.State.{State}
use Rattle.run_stages.specs.declared.Record.{Record}
use Rattle.run_calls.specs.Place.{Placed}
use Rattle.run_calls.specs.Sound.{Sound}
use Rattle.run_keeping.specs.Closing.{RoomToKeep}

-- a job that passed, at a place of its record, with sound memory
pub record Standing (K : Course) (s : State) : Type 0 where
  pub ready : Ready K.job
  pub place : Placed K s
  pub sound : Sound K s

-- which round is to be closed
pub data Ripe (J : Job) (r : Record) : Type 0 where
  seeds : r.stage ≡ 0 → r.rounds + 2 ≤ J.S → Ripe J r
  grows : r.stage ≡ 1 → r.rounds + 2 ≤ J.C → Ripe J r
  replaces : r.stage ≡ 2 → r.error < 0x7f800000 → Ripe J r
  finishes : r.stage ≡ 4 → Ripe J r

-- a round to be closed, of few
pub record Closing (J : Job) (hints : List ℕ) (palette least : List Float) (r : Record) : Type 0 where
  pub lent : RoomToKeep J hints palette least
  pub ripe : Ripe J r
  pub few : r.rounds ≤ 16

-- the turn that follows a round
unfoldable pub turn_after : ℕ → ℕ → Record → ℕ
turn_after s c r = cond (eqb r.stage 0) (r.rounds + 1) (cond (eqb r.stage 1) (s + r.rounds) (s + c + r.rounds - 1))

-- The refinements after a stop, how the final draws begin, and what a hand-in asks of its state. Definitions only. Assumes nothing.
use Rattle.std.specs.Prelude.{ℕ, zero, suc, ◌*◌, ◌/◌, ◌≤◌, ◌≡◌, cond, List, eqb, Float, length}
use Rattle.color.specs.Color.{Bounded}
use Rattle.job.specs.Job.{Job}
use Rattle.job.specs.Gives.{Ready}
use Rattle.palette_tile.specs.Tiles.{hints_of}
use Rattle.quantizer.specs.Course.{Course}
use Rattle.quantizer.specs.Refining.{refined}
use Rattle.run_stages.specs.declared.Record.{Record}
use Rattle.run_stages.specs.State.{State, placed}
use Rattle.run_calls.specs.Place.{Placed}

module _ (J : Job) where
  open J use {S, C, T}

  -- the palette and the hints after as many refinements
  unfoldable pub refined_times : ℕ → List Float → List Float
  refined_times zero p = p
  refined_times (suc k) p = refined J (refined_times k p)

  unfoldable pub hints_times : ℕ → List Float → List ℕ → List ℕ
  hints_times zero p h = h
  hints_times (suc k) p h = hints_of J (refined_times k p) S C (hints_times k p h) T

  -- a palette of all its colours and a hint for each tile, of a job that passed
  pub record Refinable (h : List ℕ) (p : List Float) : Type 0 where
    pub ready : Ready J
    pub all : length p ≡ 3 * (S * C)
    pub bound : Bounded p 4
    pub each : length h ≡ T

-- the final draws of n samples begin; where there are none they are over
unfoldable pub final_draws : ℕ → Record → Record
final_draws n r = cond (eqb (10 * (n / 10)) 0) (placed r 5 0 0) (placed r 4 0 (10 * (n / 10)))

-- what a hand-in asks: that, and few samples, at a place of the record
pub record Handed (K : Course) (s : State) : Type 0 where
  pub refinable : Refinable K.job s.hints s.palette
  pub few : K.n ≤ 16384
  pub place : Placed K s

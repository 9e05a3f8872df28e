-- What is sought when a round of seeding is closed, and what that asks of the lent memory. Definitions only. Assumes nothing.
use Rattle.std.specs.Prelude.{ℕ, ◌+◌, ◌≤◌, ◌<◌, ◌≡◌, ◌≢◌, List, Float}
use Rattle.job.specs.Job.{Job}
use Rattle.palette_tile.specs.Tiles.{hints_of}
use Rattle.quantizer.specs.Seeding.{worst_of}
use Rattle.run_stages.specs.declared.Record.{Record}
use Rattle.run_keeping.specs.Closing.{Whole}

-- in a round of seeding a subpalette more than are there belongs to the job
pub record Seeking (J : Job) (hints : List ℕ) (palette : List Float) (r : Record) : Type 0 where
  pub whole : Whole J hints palette
  pub more : r.stage ≡ 0 → r.rounds + 2 ≤ J.S

-- what was found, and the hints that it left
pub record Sought (J : Job) (hints : List ℕ) (palette : List Float) (r : Record) (from : ℕ) (left : List ℕ) : Type 0 where
  pub found : r.stage ≡ 0 → from ≡ worst_of J palette (r.rounds + 2)
  pub hinted : r.stage ≡ 0 → left ≡ hints_of J palette (r.rounds + 2) 1 hints J.T
  pub idle : r.stage ≢ 0 → left ≡ hints
  pub source : from < J.S

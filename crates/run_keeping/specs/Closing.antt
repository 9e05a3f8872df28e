-- What the closing and the opening of a round ask of the lent memory. Definitions only. Assumes nothing.
use Rattle.std.specs.Prelude.{ℕ, ◌*◌, ◌<◌, ◌≡◌, ◌≢◌, List, Float, length}
use Rattle.job.specs.Job.{Job}
use Rattle.palette_tile.specs.Tiles.{Shown}
use Rattle.run_stages.specs.declared.Record.{Record}

-- a palette of all its colours, and a hint for each tile
pub record Whole (J : Job) (hints : List ℕ) (palette : List Float) : Type 0 where
  pub shown : Shown J palette J.S J.C
  pub each : length hints ≡ J.T

-- and the second palette's room
pub record RoomToKeep (J : Job) (hints : List ℕ) (palette least : List Float) : Type 0 where
  pub whole : Whole J hints palette
  pub room : length least ≡ 3 * (J.S * J.C)

-- and, past the first round, a record with an error
pub record Judging (J : Job) (hints : List ℕ) (palette least : List Float) (round : ℕ) (r : Record) : Type 0 where
  pub lent : RoomToKeep J hints palette least
  pub error : round ≢ 0 → r.error < 0x7f800000

-- both palettes have the job's size
pub record Ending (s c : ℕ) (palette least : List Float) : Type 0 where
  pub one : length palette ≡ 3 * (s * c)
  pub two : length least ≡ 3 * (s * c)

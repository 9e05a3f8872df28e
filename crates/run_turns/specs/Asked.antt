-- What the rounds ask of the lent memory. Definitions only. Assumes nothing.
use Rattle.std.specs.Prelude.{ℕ, ◌+◌, ◌-◌, ◌*◌, ◌≤◌, ◌<◌, ◌≡◌, List, Float, length}
use Rattle.job.specs.Job.{Job}
use Rattle.run_stages.specs.declared.Record.{Record}
use Rattle.quantizer_needs.specs.Asked.{Growing}
use Rattle.run_keeping.specs.Closing.{RoomToKeep}

-- room for a subpalette more than are there, and one to copy
pub record Doubling (s c : ℕ) (palette : List Float) (round from : ℕ) : Type 0 where
  pub size : length palette ≡ 3 * (s * c)
  pub some : 1 ≤ c
  pub few : s ≤ 16
  pub more : round + 1 < s
  pub source : from < s

-- a colour more than the round's number is there, and room for the next
pub record Opening (J : Job) (pal : List Float) (round : ℕ) (hints : List ℕ) : Type 0 where
  pub growing : Growing J pal (round + 1) hints
  pub few : round ≤ 16

-- a subpalette to copy; and in a round of replacing past the first, an error is kept
pub record Turning (J : Job) (hints : List ℕ) (palette least : List Float) (turn from : ℕ) (r : Record) : Type 0 where
  pub lent : RoomToKeep J hints palette least
  pub source : from < J.S
  pub error : (J.S - 1) + (J.C - 1) < turn → r.error < 0x7f800000

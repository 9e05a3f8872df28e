-- What is asked of an edition, and both have: its fields hold its number and all that its tile size allows, and are not wide. Definitions only. Assumes nothing.
use Rattle.std.specs.Prelude.{◌^◌, ◌≤◌, ◌<◌}
use Rattle.job.specs.Job.{most_tile_size}
use Rattle.sheet_format.specs.declared.Edition.{Edition}

pub record Proper (E : Edition) : Type 0 where
  pub numbered : E.number < 2 ^ 4
  -- a tile's number of colours, and a count less one
  pub many : E.size < 2 ^ E.many
  pub each : E.size ≤ 2 ^ E.each
  pub few : E.size ≤ most_tile_size
  pub narrow_many : E.many ≤ 9
  pub narrow_each : E.each ≤ 8
  pub wide_many : 7 ≤ E.many
  pub wide_each : 6 ≤ E.each

-- What a draw asks of a state. Definitions only. Assumes nothing.
use Rattle.std.specs.Prelude.{◌≤◌}
use Rattle.quantizer.specs.Course.{Course}
use Rattle.quantizer_draw.specs.Draws.{Going}
use Rattle.run_stages.specs.State.{State}
use Rattle.run_stages.specs.Stages.{cycle_of, subs_of, have_of}

-- a course that passed, with its palette, hints and order; few rounds finished, and a draw left
pub record Drawable (K : Course) (s : State) : Type 0 where
  pub going : Going K (cycle_of s.order s.rec) s.palette (subs_of K.job.S s.rec) (have_of K.job.C s.rec) s.hints
  pub few : s.rec.rounds ≤ 16
  pub left : 1 ≤ s.rec.left

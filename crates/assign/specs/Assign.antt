-- The call `assign` over a job's tiles: what it is answered, the subpalette of each tile, and the hints that it leaves.
-- Definitions only. Assumes nothing.
use Rattle.std.specs.Prelude.{List, Float, length}
use Rattle.answer.specs.Refusals.{Answered, nothing}
use Rattle.answer.specs.Outcome.{Outcome, outcome, decided}
use Rattle.job.specs.Job.{Job}
use Rattle.assign_check.specs.Answer.{answer_for}
unfoldable pub use Rattle.assign_check.specs.Answer.{room_for}
pub use Rattle.assign_tiles.specs.Tiles.{TileMemory, tile_memory, subpalettes, hint_of, assign_step, CanAssign, Turn}
unfoldable pub use Rattle.assign_tiles.specs.Tiles.{subpalette_of, assigned}

-- ---- the call: a refusal writes nothing
unfoldable pub assign_answer : Job → List Float → TileMemory → Answered
assign_answer J palette h = answer_for J palette (length h.hints) (length h.out)

unfoldable pub assign_def : Job → List Float → TileMemory → Outcome Answered TileMemory
assign_def J palette h =
    let e = assign_answer J palette h in
    decided e (outcome nothing (assigned J palette h J.T)) e h

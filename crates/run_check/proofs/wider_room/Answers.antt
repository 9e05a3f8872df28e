-- `run_check::wider_room` meets its contract, return by return. Assumes nothing.
use mathlib.Core.Bool.{not}
use mathlib.Core.Path.{ap}
use Rattle.run_check.proofs.Rooms.{memory_unlike, more-last}
use Rattle.run_check.proofs.wider_room.Goals as goal

pub returns-then-not-memory_room : goal.returns-then-not-memory_room
returns-then-not-memory_room c = memory_unlike _ _ _ _ c.memory_room.ensures _ (ap not c.if-not-memory_room.true)

pub returns : goal.returns
returns c = more-last _ _ _ _ c.memory_room.ensures _ (ap not c.if-not-memory_room.false) _ c.colours_room.ensures

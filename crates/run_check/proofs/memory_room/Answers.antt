-- `run_check::memory_room` meets its contract, return by return. Assumes nothing.
use mathlib.Core.Bool.{not}
use mathlib.Core.Path.{ap}
use Rattle.run_check.proofs.Rooms.{order_unlike, hints_unlike, palette_unlike, least_unlike, words_last}
use Rattle.run_check.proofs.memory_room.Goals as goal

pub returns-then-held-z : goal.returns-then-held-z
returns-then-held-z c = order_unlike _ _ _ _ _ _ c.if-held-z.true

pub returns-then-held-z-2 : goal.returns-then-held-z-2
returns-then-held-z-2 c = hints_unlike _ _ _ _ _ _ c.if-held-z.false c.if-held-z-2.true

pub returns-then-not-colours_room : goal.returns-then-not-colours_room
returns-then-not-colours_room c = palette_unlike _ _ _ _ _ _ c.if-held-z.false c.if-held-z-2.false _ c.colours_room.ensures (ap not c.if-not-colours_room.true)

pub returns-then-not-colours_room-2 : goal.returns-then-not-colours_room-2
returns-then-not-colours_room-2 c = least_unlike _ _ _ _ _ _ c.if-held-z.false c.if-held-z-2.false _ c.colours_room.ensures (ap not c.if-not-colours_room.false) _ c.colours_room-2.ensures (ap not c.if-not-colours_room-2.true)

pub returns : goal.returns
returns c = words_last _ _ _ _ _ _ c.if-held-z.false c.if-held-z-2.false _ c.colours_room.ensures (ap not c.if-not-colours_room.false) _ c.colours_room-2.ensures (ap not c.if-not-colours_room-2.false)

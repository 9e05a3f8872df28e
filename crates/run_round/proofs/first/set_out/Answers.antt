-- `first::set_out` meets its contract. Assumes nothing.
use mathlib.Core.Path.{refl}
use Rattle.run_round.proofs.FirstRound.{can_open, can_settle, settled}
use Rattle.run_round.proofs.first.set_out.Goals as goal

pub open_turn-first-requires : goal.open_turn-first-requires
open_turn-first-requires c = can_open _ _ c.requires

pub settle-requires : goal.settle-requires
settle-requires c = can_settle _ _ c.requires _ refl c.open_turn-first.ensures

pub returns : goal.returns
returns c = settled _ _ c.requires _ refl c.open_turn-first.ensures _ c.settle.ensures

-- `run_turns::open_growing` meets its contract. Assumes nothing.
use Rattle.run_turns.proofs.GrowingRounds.{opened_by}
use Rattle.run_turns.proofs.open_growing.Goals as goal

pub returns : goal.returns
returns c = opened_by _ _ _ c.args.r _ _ _ c.grow_palette.ensures.0 c.grow_palette.ensures.1 _ c.open_round.ensures

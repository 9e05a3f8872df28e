-- `replacing::open_replacing` meets its contract. Assumes nothing.
use Rattle.run_turns.proofs.ReplacingRounds.{opened_by}
use Rattle.run_turns.proofs.replacing.open_replacing.Goals as goal

pub returns : goal.returns
returns c = opened_by _ _ _ c.args.r _ _ _ c.replace_weakest.ensures.0 c.replace_weakest.ensures.1 _ c.open_round.ensures

-- `run_blank::blank` meets its contract. Assumes nothing.
use Rattle.run_blank.proofs.Laws.{can_seed, blanked}
use borrow.Author.Rules.{rules}
use Rattle.run_blank.proofs.blank.Goals as goal

pub seed-requires : goal.seed-requires
seed-requires c = can_seed _ _ _ c.requires _ (search rules)

pub returns : goal.returns
returns c = blanked _ _ _ c.requires _ c.zero.ensures _ c.zero-2.ensures _ c.seed.ensures

-- `run_blank::deal` meets its contract. Assumes nothing.
use Rattle.run_blank.proofs.Laws.{dealt_by}
use Rattle.run_blank.proofs.deal.Goals as goal

pub returns : goal.returns
returns c = dealt_by _ _ _ _ _ _ c.new-first.ensures _ c.sizes_word-sizes.ensures

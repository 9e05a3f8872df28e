-- `quantizer_grow::split_color` meets its contract: the choice is among the sums of the colours present. Assumes nothing.
use Rattle.quantizer_grow.proofs.Splits.{split_real, split_places}
use Rattle.quantizer_grow.proofs.split_color.Goals as goal

pub argmax-split-requires : goal.argmax-split-requires
argmax-split-requires c = split_real _ _ _ _ _ c.requires

pub duplicate_color-requires : goal.duplicate_color-requires
duplicate_color-requires c = split_places _ _ _ _ _ c.requires _ c.argmax-split.ensures

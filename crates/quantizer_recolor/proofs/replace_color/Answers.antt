-- `quantizer_recolor::replace_color` meets its contract: the choice is among the subpalette's own sums. Assumes nothing.
use Rattle.quantizer_recolor.proofs.Rows.{row_choosing, row-places, row_done}
use Rattle.quantizer_recolor.proofs.replace_color.Goals as goal

pub choose-swap-requires : goal.choose-swap-requires
choose-swap-requires c = row_choosing _ _ _ _ c.requires

pub swap_color-requires : goal.swap_color-requires
swap_color-requires c = row-places _ _ _ _ c.requires _ c.choose-swap.ensures

pub returns : goal.returns
returns c = row_done _ _ _ _ c.requires _ c.choose-swap.ensures _ c.swap_color.ensures

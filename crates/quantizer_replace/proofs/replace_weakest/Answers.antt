-- `quantizer_replace::replace_weakest` meets its contract: the hints left assign the tiles whose colours are summed. Assumes nothing.
use Rattle.quantizer_replace.proofs.Palettes.{left-owned, swap_room, all-replaced}
use Rattle.quantizer_replace.proofs.replace_weakest.Goals as goal

pub replace_colors-requires : goal.replace_colors-requires
replace_colors-requires c = left-owned _ _ c.requires.0 _ c.requires.1 _ c.weakest_palette-weakest.ensures.1

pub swap_subpalette-requires : goal.swap_subpalette-requires
swap_subpalette-requires c = swap_room _ _ c.requires.0 _ c.weakest_palette-weakest.ensures.0 _ c.replace_colors.ensures

pub returns : goal.returns
returns c = (
  all-replaced _ _ c.requires.0 _ c.weakest_palette-weakest.ensures.0 _ c.replace_colors.ensures _
      c.swap_subpalette.ensures,
  c.weakest_palette-weakest.ensures.1,
)

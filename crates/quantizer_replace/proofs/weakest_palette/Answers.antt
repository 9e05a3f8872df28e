-- `quantizer_replace::weakest_palette` meets its contract: the choice is among the sums of the subpalettes present. Assumes nothing.
use Rattle.quantizer_replace.proofs.Palettes.{one-palette, palettes_choosing, palettes_chosen}
use Rattle.quantizer_replace.proofs.weakest_palette.Goals as goal

pub returns-then-subs-eq1 : goal.returns-then-subs-eq1
returns-then-subs-eq1 c = one-palette _ _ c.requires.0 _ c.requires.1 c.if-subs-eq1.true

pub choose-requires : goal.choose-requires
choose-requires c = palettes_choosing _ _ c.requires.0 _ c.palette_sums-sums.ensures.0

pub returns : goal.returns
returns c = palettes_chosen _ _ c.requires.0 _ c.requires.1 _ c.palette_sums-sums.ensures.0 c.if-subs-eq1.false _ c.choose.ensures _ c.palette_sums-sums.ensures.1

-- `quantizer_recolor::replace_colors` meets its contract. The loop's invariant: a colour is replaced in each of the first i subpalettes. Assumes nothing.
use Rattle.quantizer_recolor.proofs.Colours.{one_colour_lem, recolouring_start, recolouring_row, recolouring_more, recolouring_end}
use Rattle.quantizer_recolor.proofs.replace_colors.Goals as goal

pub returns-then-job-eq1 : goal.returns-then-job-eq1
returns-then-job-eq1 c = one_colour_lem _ _ _ c.requires c.if-job-eq1.true

pub loop-i-init : goal.loop-i-init
loop-i-init c = recolouring_start _ _ _ c.requires _

pub replace_color-requires : goal.replace_color-requires
replace_color-requires c = recolouring_row _ _ _ c.requires _ c.color_sums-sums.ensures _ _ c.loop-i.invariant c.loop-i-test.true

pub loop-i-preserved : goal.loop-i-preserved
loop-i-preserved c = recolouring_more _ _ _ c.requires _ c.color_sums-sums.ensures _ _ c.loop-i.invariant c.loop-i-test.true _ c.replace_color.ensures

pub returns : goal.returns
returns c = recolouring_end _ _ _ c.requires _ c.color_sums-sums.ensures _ _ c.loop-i.invariant c.if-job-eq1.false c.loop-i-test.false

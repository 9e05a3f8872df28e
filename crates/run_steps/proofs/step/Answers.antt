-- `run_steps::step` meets its contract: what is asked and left is a law of proofs/Steps.antt. Assumes nothing.
use Rattle.run_steps.proofs.Steps.{draw_asks, settle_asks, stepped}
use Rattle.run_steps.proofs.step.Goals as goal

pub draw-drawn-requires : goal.draw-drawn-requires
draw-drawn-requires c = draw_asks _ _ _ _ _ c.args.r c.requires

pub settle-requires : goal.settle-requires
settle-requires c = settle_asks _ _ _ _ _ c.args.r _ _ _ c.draw-drawn.result c.draw-drawn.ensures c.requires

pub returns : goal.returns
returns c = stepped _ _ _ _ c.args.least.now c.args.r _ _ _ c.draw-drawn.result c.draw-drawn.ensures _ c.settle.ensures

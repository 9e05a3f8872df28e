-- `run_refine::refine_four` meets its contract. The invariant: so many refinements are made as the loop has counted. Assumes nothing.
use Rattle.run_refine.proofs.Laws.{begun, again, ended, shown_of}
use Rattle.run_refine.proofs.refine_four.Goals as goal

pub loop-init : goal.loop-init
loop-init c = begun _ _ _ c.requires

pub refine-requires : goal.refine-requires
refine-requires c = let inv = c.loop.invariant in (shown_of _ _ _ inv.refinable, inv.refinable.each)

pub loop-preserved : goal.loop-preserved
loop-preserved c = again _ _ _ _ _ _ c.loop.invariant c.loop-test.true _ _ c.refine.ensures.0 c.refine.ensures.1

pub returns : goal.returns
returns c = ended _ _ _ _ _ _ c.loop.invariant c.loop-test.false

-- `run_steps::advance_work` meets its contract: the draws made so far are a beginning of the advance, and the rest of it is still to come. Assumes nothing.
use native.Mathlib.Omega.{arith}
use mir.Facts.{Fits-le}
use Rattle.run_steps.proofs.Advances.{begun, ongoing, allotted, drawn-more, order-kept, hints-kept, palette-kept, least_kept, worked}
use Rattle.run_steps.proofs.advance_work.Goals as goal

pub record_of-r-requires : goal.record_of-r-requires
record_of-r-requires c = c.requires.1

pub loop-order-init : goal.loop-order-init
loop-order-init c = begun _ _ _ _ _ _ c.args.words.now _ c.record_of-r.ensures c.requires.0

pub step-r-requires : goal.step-r-requires
step-r-requires c = ongoing c.loop-order.invariant _ c.goes_on.ensures c.loop-order-test.true

pub overflow_add-drawn : goal.overflow_add-drawn
overflow_add-drawn c = Fits-le (omega (arith, allotted c.loop-order.invariant _ c.goes_on.ensures c.loop-order-test.true)) c.ranges.allotment

pub loop-order-smaller : goal.loop-order-smaller
loop-order-smaller c = omega (arith, allotted c.loop-order.invariant _ c.goes_on.ensures c.loop-order-test.true)

pub loop-order-preserved : goal.loop-order-preserved
loop-order-preserved c = drawn-more c.loop-order.invariant _ c.goes_on.ensures c.loop-order-test.true _ c.step-r.ensures

pub write_record-requires : goal.write_record-requires
write_record-requires c = c.requires.1

pub shape_of-order : goal.shape_of-order
shape_of-order c = order-kept c.loop-order.invariant

pub shape_of-hints : goal.shape_of-hints
shape_of-hints c = hints-kept c.loop-order.invariant

pub shape_of-palette : goal.shape_of-palette
shape_of-palette c = palette-kept c.loop-order.invariant

pub shape_of-least : goal.shape_of-least
shape_of-least c = least_kept c.loop-order.invariant

pub returns : goal.returns
returns c =
    worked _ _ _ _ _ _ c.args.words.now _ c.record_of-r.ensures _ _ _ _ _ c.loop-order.r c.loop-order.invariant _
    c.goes_on.ensures c.loop-order-test.false _ c.write_record.ensures

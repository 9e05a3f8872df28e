-- `run_draw::draw` meets its contract: what is asked and left is a law of proofs/Steps.antt. Its job is written out, since finding
-- it means comparing all that is lent. Assumes nothing.
use Rattle.quantizer.specs.Course.{course_in}
use Rattle.run_draw.proofs.Steps.{going_by, drawn_by}
use Rattle.run_draw.proofs.draw.Goals as goal

pub draw-requires : goal.draw-requires
draw-requires c =
    let a = c.args in
    going_by (course_in a.course.now) a.order.now a.hints.now
    a.palette.now a.r _ _ c.subs_of-subs.ensures c.have_of-have.ensures _ _ c.cycle_of-at.ensures c.requires.going

pub count_draw-requires : goal.count_draw-requires
count_draw-requires c = c.requires.left

pub returns : goal.returns
returns c =
    let a = c.args in
    drawn_by (course_in a.course.now) a.order.now a.hints.now
    a.palette.now a.r _ _ c.subs_of-subs.ensures c.have_of-have.ensures _ _ c.cycle_of-at.ensures _
    c.alpha_of-alpha.ensures _ _ _ _ _ c.draw.ensures.0 c.draw.ensures.1.0 c.draw.ensures.1.1 _
    c.count_draw.ensures

-- `dunkafeto_start` tells what `run_start::start` ensures, and its index is small enough to be packed. Assumes nothing.
use Rattle.dunkafeto.proofs.Forwards.{start-told, start_fits}
use Rattle.dunkafeto.proofs.dunkafeto_start.Goals as goal

pub word_of_call-requires : goal.word_of_call-requires
word_of_call-requires c = start_fits _ _ _ _ _ c.start-answer.ensures

pub shape_of-order : goal.shape_of-order
shape_of-order c = c.start-answer.auto.order

pub shape_of-hints : goal.shape_of-hints
shape_of-hints c = c.start-answer.auto.hints

pub shape_of-palette : goal.shape_of-palette
shape_of-palette c = c.start-answer.auto.palette

pub shape_of-least : goal.shape_of-least
shape_of-least c = c.start-answer.auto.least

pub shape_of-words : goal.shape_of-words
shape_of-words c = c.start-answer.auto.words

pub returns : goal.returns
returns c = start-told _ _ c.lent_course-course.ensures _ _ _ _ c.start-answer.ensures _ c.word_of_call.ensures

-- `dunkafeto_advance` tells what `run_advance::advance` ensures, and its draws and its index are small enough to be packed. Assumes nothing.
use Rattle.dunkafeto.proofs.Forwards.{advance-told, advance-fits}
use Rattle.dunkafeto.proofs.dunkafeto_advance.Goals as goal

pub word-requires : goal.word-requires
word-requires c = advance-fits _ _ _ _ _ c.advance-answer.ensures

pub shape_of-order : goal.shape_of-order
shape_of-order c = c.advance-answer.auto.order

pub shape_of-hints : goal.shape_of-hints
shape_of-hints c = c.advance-answer.auto.hints

pub shape_of-palette : goal.shape_of-palette
shape_of-palette c = c.advance-answer.auto.palette

pub shape_of-least : goal.shape_of-least
shape_of-least c = c.advance-answer.auto.least

pub shape_of-words : goal.shape_of-words
shape_of-words c = c.advance-answer.auto.words

pub returns : goal.returns
returns c = advance-told _ _ c.lent_course-course.ensures _ _ _ _ c.advance-answer.ensures _ c.word.ensures

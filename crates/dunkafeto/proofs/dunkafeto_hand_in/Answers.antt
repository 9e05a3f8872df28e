-- `dunkafeto_hand_in` tells what `run_hand_in::hand_in` ensures, and its index is small enough to be packed. Assumes nothing.
use Rattle.dunkafeto.proofs.Forwards.{hand_in-told, hand_in-fits}
use Rattle.dunkafeto.proofs.dunkafeto_hand_in.Goals as goal

pub word_of_call-requires : goal.word_of_call-requires
word_of_call-requires c = hand_in-fits _ _ _ _ _ c.hand_in-answer.ensures

pub shape_of-hints : goal.shape_of-hints
shape_of-hints c = c.hand_in-answer.auto.hints

pub shape_of-palette : goal.shape_of-palette
shape_of-palette c = c.hand_in-answer.auto.palette

pub shape_of-words : goal.shape_of-words
shape_of-words c = c.hand_in-answer.auto.words

pub returns : goal.returns
returns c = hand_in-told _ _ c.lent_course-course.ensures _ _ _ _ c.hand_in-answer.ensures _ c.word_of_call.ensures

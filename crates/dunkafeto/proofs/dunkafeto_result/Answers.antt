-- `dunkafeto_result` tells what `run_result::result` ensures, and its index is small enough to be packed. Assumes nothing.
use Rattle.dunkafeto.proofs.Forwards.{result-told, result_fits}
use Rattle.dunkafeto.proofs.dunkafeto_result.Goals as goal

pub word_of_call-requires : goal.word_of_call-requires
word_of_call-requires c = result_fits _ _ _ _ _ c.result-answer.ensures

pub shape_of-out : goal.shape_of-out
shape_of-out c = c.result-answer.auto.out

pub returns : goal.returns
returns c = result-told _ _ c.lent_course-course.ensures _ _ _ _ c.result-answer.ensures _ c.word_of_call.ensures

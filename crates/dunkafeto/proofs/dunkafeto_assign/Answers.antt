-- `dunkafeto_assign` tells what `assign::assign` ensures, and its index is small enough to be packed. Assumes nothing.
use Rattle.dunkafeto.proofs.Forwards.{assign-told, assign-fits}
use Rattle.dunkafeto.proofs.dunkafeto_assign.Goals as goal

pub word_of_call-requires : goal.word_of_call-requires
word_of_call-requires c = assign-fits _ _ _ _ _ c.assign-answer.ensures

pub shape_of-hints : goal.shape_of-hints
shape_of-hints c = c.assign-answer.auto.hints

pub shape_of-out : goal.shape_of-out
shape_of-out c = c.assign-answer.auto.out

pub returns : goal.returns
returns c = assign-told _ _ c.lent_job-job.ensures.lent _ _ _ _ c.assign-answer.ensures _ c.word_of_call.ensures

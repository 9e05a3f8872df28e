-- The ten public functions, the five for hosts (`dunkafeto`) and the text functions of both programs, as the prover has them. Assumes nothing.
use Rattle.contracts.specs.Keeps.{Keeps, Sees, Determines}
use Rattle.contracts.specs.Start as start
use Rattle.contracts.specs.Advance as advance
use Rattle.contracts.specs.HandIn as hand_in
use Rattle.contracts.specs.Result as result
use Rattle.contracts.specs.SingleFit as single_fit
use Rattle.contracts.specs.BestTwo as best_two
use Rattle.contracts.specs.Assign as assign
use Rattle.contracts.specs.Group as grouping
use Rattle.contracts.specs.Read as read
use Rattle.contracts.specs.Write as write
use Rattle.contracts.specs.FitText as fit
use Rattle.contracts.specs.TrainText as train

-- the contract of each, word for word: it asks nothing, and its caller sees the definition's outcome
pub record Contracts : Type 2 where
  pub start : Sees start.compiled start.defined
  pub advance : Sees advance.compiled advance.defined
  pub hand_in : Sees hand_in.compiled hand_in.defined
  pub result : Sees result.compiled result.defined
  pub single_fit : Sees single_fit.compiled single_fit.defined
  pub best_two : Sees best_two.compiled best_two.defined
  pub assign : Sees assign.compiled assign.defined
  pub grouping : Sees grouping.compiled grouping.defined
  pub read : Sees read.compiled read.defined
  pub write : Sees write.compiled write.defined

-- what a caller sees of each is a number and an index where it refuses, and is of one result alone: so one result meets the contract
pub record Determined : Type 0 where
  pub start : Determines start.compiled
  pub advance : Determines advance.compiled
  pub hand_in : Determines hand_in.compiled
  pub result : Determines result.compiled
  pub single_fit : Determines single_fit.compiled
  pub best_two : Determines best_two.compiled
  pub assign : Determines assign.compiled
  pub grouping : Determines grouping.compiled
  pub read : Determines read.compiled
  pub write : Determines write.compiled

-- that of each that `dunkafeto_c` exports: the answer word and the memory are what is told of the definition's outcome
pub record Exports : Type 2 where
  pub start : Sees start.exported start.export_defined
  pub advance : Sees advance.exported advance.export_defined
  pub hand_in : Sees hand_in.exported hand_in.export_defined
  pub result : Sees result.exported result.export_defined
  pub assign : Sees assign.exported assign.export_defined

-- that of what each program writes
pub record Texts : Type 2 where
  pub fit : Keeps fit.compiled fit.writes
  pub train : Keeps train.compiled train.writes

-- so each public function keeps the first demand
pub record FirstKept : Type 2 where
  pub start : Keeps start.compiled start.answers
  pub advance : Keeps advance.compiled advance.answers
  pub hand_in : Keeps hand_in.compiled hand_in.answers
  pub result : Keeps result.compiled result.answers
  pub single_fit : Keeps single_fit.compiled single_fit.answers
  pub best_two : Keeps best_two.compiled best_two.answers
  pub assign : Keeps assign.compiled assign.answers
  pub grouping : Keeps grouping.compiled grouping.answers
  pub read : Keeps read.compiled read.answers
  pub write : Keeps write.compiled write.answers

-- and each export
pub record FirstTold : Type 2 where
  pub start : Keeps start.exported start.ExportAnswers
  pub advance : Keeps advance.exported advance.ExportAnswers
  pub hand_in : Keeps hand_in.exported hand_in.ExportAnswers
  pub result : Keeps result.exported result.ExportAnswers
  pub assign : Keeps assign.exported assign.ExportAnswers

-- and those that choose or draw the second
pub record SecondKept : Type 2 where
  pub single_fit : Keeps single_fit.compiled single_fit.chooses
  pub best_two : Keeps best_two.compiled best_two.chooses
  pub assign : Keeps assign.compiled assign.chooses
  pub advance : Keeps advance.compiled advance.draws

-- and an advance, of the third, that it reports the draws that its record has more
pub record Reported : Type 2 where
  pub called : Keeps advance.compiled advance.Reports
  pub told : Keeps advance.exported advance.ExportReports

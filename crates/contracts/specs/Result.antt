-- result and its export: what they are given, what a caller sees, what is defined of it, and what the first demand says of that. Definitions only. Assumes nothing.
use Rattle.std.specs.Prelude.{ℕ, List, Float}
use contract.Lifetimes.{Lfts}
use denote.Triple.Entry.{Args, Res}
use denote.Triple.Clauses.{AtExit}
use Rattle.job.specs.Job.{sizes_of}
use Rattle.answer.specs.Refusals.{Answered, refusal_of}
use Rattle.answer.specs.Outcome.{Outcome, outcome}
use Rattle.answer.specs.Rules.{answer}
use Rattle.quantizer.specs.Course.{Course, course_of, course_in}
use Rattle.run_check.specs.Reads.{memory_in}
use Rattle.run_stages.specs.Calls.{Memory, memory, result_rules, result_call}
use Rattle.demands.specs.First.{itself}
use Rattle.answer.specs.Words.{told}
use Rattle.run_result.specs.contracts.result as function
use Rattle.run_result.proofs.result.Symbol as symbol
use Rattle.dunkafeto.specs.contracts.dunkafeto_result as export
use Rattle.dunkafeto.proofs.dunkafeto_result.Symbol as export-symbol
use Rattle.contracts.specs.Answers.{Answers, Tells}
use Rattle.contracts.specs.Keeps.{Compiled}

module _ (κs : Lfts (function.signature).lifetimes) (a : Args function.signature κs) where
  -- the course, then the memory and the room for the colours
  abbrev pub course_given : Course
  course_given = course_in a.0.now

  abbrev pub memory_lent : Memory
  memory_lent = memory_in a.1.0.now

  abbrev pub out_lent : List Float
  out_lent = a.1.1.0.now

  abbrev pub out_left : AtExit function.ended κs → List Float
  out_left e = e.1.1.0.now

  abbrev pub seen : Res function.signature κs → AtExit function.ended κs → Outcome Answered (List Float)
  seen r e = outcome (refusal_of r) (out_left e)

  abbrev pub defined : Outcome Answered (List Float)
  defined = result_call course_given memory_lent out_lent

  abbrev pub answers : Outcome Answered (List Float) → Type 0
  answers = Answers itself (answer (result_rules course_given memory_lent out_lent)) itself out_lent

-- its export takes the tile size, S, C, T, n and the weight by themselves, and the slices one by one
module _ (κs : Lfts (export.signature).lifetimes) (a : Args export.signature κs) where
  abbrev pub export_course : Course
  export_course =
      let j = a.1.1.1.1.1.1 in
      course_of (sizes_of a.0 a.1.0 a.1.1.0 a.1.1.1.0 a.1.1.1.1.0 a.1.1.1.1.1.0) j.0.now j.1.0.now j.1.1.0.now j.1.1.1.0.now

  abbrev pub export_memory : Memory
  export_memory =
      let m = a.1.1.1.1.1.1.1.1.1.1 in
      memory m.0.now m.1.0.now m.1.1.0.now m.1.1.1.0.now m.1.1.1.1.0.now

  abbrev pub export_out : List Float
  export_out = a.1.1.1.1.1.1.1.1.1.1.1.1.1.1.1.0.now

  abbrev pub export_seen : Res export.signature κs → AtExit export.ended κs → Outcome ℕ (List Float)
  export_seen r e = outcome r e.1.1.1.1.1.1.1.1.1.1.1.1.1.1.1.0.now

  abbrev pub export_defined : Outcome ℕ (List Float)
  export_defined = told (result_call export_course export_memory export_out)

  abbrev pub ExportAnswers : Outcome ℕ (List Float) → Type 0
  ExportAnswers = Tells (answer (result_rules export_course export_memory export_out)) export_out

abbrev pub compiled : Compiled (Outcome Answered (List Float))
compiled = record { ended = function.ended; seen = seen; name = symbol.name; code = symbol.code }

abbrev pub exported : Compiled (Outcome ℕ (List Float))
exported = record { ended = export.ended; seen = export_seen; name = export-symbol.name; code = export-symbol.code }

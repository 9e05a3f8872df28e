-- start and its export: what they are given, what a caller sees, what is defined of it, and what the first demand says of that. Definitions only. Assumes nothing.
use Rattle.std.specs.Prelude.{ℕ}
use contract.Lifetimes.{Lfts}
use denote.Triple.Entry.{Args, Res}
use denote.Triple.Clauses.{AtExit}
use Rattle.job.specs.Job.{sizes_of}
use Rattle.answer.specs.Refusals.{Answered, refusal_of}
use Rattle.answer.specs.Outcome.{Outcome, outcome}
use Rattle.answer.specs.Rules.{answer}
use Rattle.quantizer.specs.Course.{Course, course_of, course_in}
use Rattle.run_stages.specs.Calls.{Memory, memory, start_rules, start_call}
use Rattle.demands.specs.First.{itself}
use Rattle.answer.specs.Words.{told}
use Rattle.run_start.specs.contracts.start as function
use Rattle.run_start.proofs.start.Symbol as symbol
use Rattle.dunkafeto.specs.contracts.dunkafeto_start as export
use Rattle.dunkafeto.proofs.dunkafeto_start.Symbol as export-symbol
use Rattle.contracts.specs.Answers.{Answers, Tells}
use Rattle.contracts.specs.Keeps.{Compiled}

module _ (κs : Lfts (function.signature).lifetimes) (a : Args function.signature κs) where
  -- the course and the seed, then the memory
  abbrev pub course_given : Course
  course_given = course_in a.0.now

  abbrev pub seed_given : ℕ
  seed_given = a.1.0

  abbrev pub memory_lent : Memory
  memory_lent =
      let m = a.1.1 in
      memory m.0.now m.1.0.now m.1.1.0.now m.1.1.1.0.now m.1.1.1.1.0.now

  abbrev pub memory_left : AtExit function.ended κs → Memory
  memory_left e =
      let m = e.1.1 in
      memory m.0.now m.1.0.now m.1.1.0.now m.1.1.1.0.now m.1.1.1.1.0.now

  abbrev pub seen : Res function.signature κs → AtExit function.ended κs → Outcome Answered Memory
  seen r e = outcome (refusal_of r) (memory_left e)

  abbrev pub defined : Outcome Answered Memory
  defined = start_call course_given memory_lent seed_given

  abbrev pub answers : Outcome Answered Memory → Type 0
  answers = Answers itself (answer (start_rules course_given memory_lent)) itself memory_lent

-- its export takes the tile size, S, C, T, n and the weight by themselves, and the slices one by one
module _ (κs : Lfts (export.signature).lifetimes) (a : Args export.signature κs) where
  abbrev pub export_course : Course
  export_course =
      let j = a.1.1.1.1.1.1.1 in
      course_of (sizes_of a.0 a.1.0 a.1.1.0 a.1.1.1.0 a.1.1.1.1.0 a.1.1.1.1.1.0) j.0.now j.1.0.now j.1.1.0.now j.1.1.1.0.now

  abbrev pub export_seed : ℕ
  export_seed = a.1.1.1.1.1.1.0

  abbrev pub export_memory : Memory
  export_memory =
      let m = a.1.1.1.1.1.1.1.1.1.1.1 in
      memory m.0.now m.1.0.now m.1.1.0.now m.1.1.1.0.now m.1.1.1.1.0.now

  abbrev pub export_seen : Res export.signature κs → AtExit export.ended κs → Outcome ℕ Memory
  export_seen r e =
      let m = e.1.1.1.1.1.1.1.1.1.1.1 in
      outcome r (memory m.0.now m.1.0.now m.1.1.0.now m.1.1.1.0.now m.1.1.1.1.0.now)

  abbrev pub export_defined : Outcome ℕ Memory
  export_defined = told (start_call export_course export_memory export_seed)

  abbrev pub ExportAnswers : Outcome ℕ Memory → Type 0
  ExportAnswers = Tells (answer (start_rules export_course export_memory)) export_memory

abbrev pub compiled : Compiled (Outcome Answered Memory)
compiled = record { ended = function.ended; seen = seen; name = symbol.name; code = symbol.code }

abbrev pub exported : Compiled (Outcome ℕ Memory)
exported = record { ended = export.ended; seen = export_seen; name = export-symbol.name; code = export-symbol.code }

-- advance and its export: what they are given, what a caller sees, what is defined of it, and what the demands say of that. Definitions only. Assumes nothing.
use Rattle.std.specs.Prelude.{ℕ, ◌+◌, ◌/◌, ◌%◌, ◌≡◌, get_or}
use contract.Lifetimes.{Lfts}
use denote.Triple.Entry.{Args, Res}
use denote.Triple.Clauses.{AtExit}
use Rattle.job.specs.Job.{sizes_of}
use Rattle.answer.specs.Outcome.{Outcome, outcome}
use Rattle.answer.specs.Rules.{answer}
use Rattle.quantizer.specs.Course.{Course, course_of, course_in}
use Rattle.run_stages.specs.Calls.{Memory, memory, state_of, Advanced, advanced, advanced_as, advance_rules, advance_call}
use Rattle.run_stages.specs.History.{sampled}
use Rattle.demands.specs.Second.{Draws}
use Rattle.dunkafeto.specs.Told.{told_advance}
use Rattle.run_advance.specs.contracts.advance as function
use Rattle.run_advance.proofs.advance.Symbol as symbol
use Rattle.dunkafeto.specs.contracts.dunkafeto_advance as export
use Rattle.dunkafeto.proofs.dunkafeto_advance.Symbol as export-symbol
use Rattle.contracts.specs.Answers.{Answers, Tells}
use Rattle.contracts.specs.Keeps.{Compiled}

module _ (κs : Lfts (function.signature).lifetimes) (a : Args function.signature κs) where
  -- the course, then the memory and the allotment
  abbrev pub course_given : Course
  course_given = course_in a.0.now

  abbrev pub memory_lent : Memory
  memory_lent =
      let m = a.1 in
      memory m.0.now m.1.0.now m.1.1.0.now m.1.1.1.0.now m.1.1.1.1.0.now

  abbrev pub allotment_given : ℕ
  allotment_given = a.1.1.1.1.1.1.0

  abbrev pub memory_left : AtExit function.ended κs → Memory
  memory_left e =
      let m = e.1 in
      memory m.0.now m.1.0.now m.1.1.0.now m.1.1.1.0.now m.1.1.1.1.0.now

  abbrev pub seen : Res function.signature κs → AtExit function.ended κs → Outcome Advanced Memory
  seen r e = outcome (advanced_as r) (memory_left e)

  abbrev pub defined : Outcome Advanced Memory
  defined = advance_call course_given memory_lent allotment_given

  abbrev pub answers : Outcome Advanced Memory → Type 0
  answers = Answers (λ y. y.refusal) (answer (advance_rules course_given memory_lent)) (λ e. advanced e 0) memory_lent

  -- the second demand: where it answers 0, its caller sees memory that the defined draws lead to
  abbrev pub draws : Outcome Advanced Memory → Type 0
  draws x = x.answer.refusal.number ≡ 0 → Draws course_given (state_of memory_lent) (sampled course_given allotment_given (state_of memory_lent)) (state_of x.after)

  -- of the third: it reports the draws that the record has more, refused or not
  abbrev pub Reports : Outcome Advanced Memory → Type 0
  Reports x = get_or x.after.words 4 0 ≡ get_or memory_lent.words 4 0 + x.answer.draws

-- its export takes the tile size, S, C, T, n and the weight by themselves, and the slices one by one
module _ (κs : Lfts (export.signature).lifetimes) (a : Args export.signature κs) where
  abbrev pub export_course : Course
  export_course =
      let j = a.1.1.1.1.1.1 in
      course_of (sizes_of a.0 a.1.0 a.1.1.0 a.1.1.1.0 a.1.1.1.1.0 a.1.1.1.1.1.0) j.0.now j.1.0.now j.1.1.0.now j.1.1.1.0.now

  abbrev pub export_memory : Memory
  export_memory =
      let m = a.1.1.1.1.1.1.1.1.1.1 in
      memory m.0.now m.1.0.now m.1.1.0.now m.1.1.1.0.now m.1.1.1.1.0.now

  abbrev pub export_allotment : ℕ
  export_allotment = a.1.1.1.1.1.1.1.1.1.1.1.1.1.1.1.0

  abbrev pub export_seen : Res export.signature κs → AtExit export.ended κs → Outcome ℕ Memory
  export_seen r e =
      let m = e.1.1.1.1.1.1.1.1.1.1 in
      outcome r (memory m.0.now m.1.0.now m.1.1.0.now m.1.1.1.0.now m.1.1.1.1.0.now)

  abbrev pub export_defined : Outcome ℕ Memory
  export_defined = told_advance (advance_call export_course export_memory export_allotment)

  abbrev pub ExportAnswers : Outcome ℕ Memory → Type 0
  ExportAnswers = Tells (answer (advance_rules export_course export_memory)) export_memory

  -- where it answers 0, what a host takes for the draws, the quotient by 256, is what the record has more
  abbrev pub ExportReports : Outcome ℕ Memory → Type 0
  ExportReports x = x.answer % 256 ≡ 0 → get_or x.after.words 4 0 ≡ get_or export_memory.words 4 0 + x.answer / 256

abbrev pub compiled : Compiled (Outcome Advanced Memory)
compiled = record { ended = function.ended; seen = seen; name = symbol.name; code = symbol.code }

abbrev pub exported : Compiled (Outcome ℕ Memory)
exported = record { ended = export.ended; seen = export_seen; name = export-symbol.name; code = export-symbol.code }

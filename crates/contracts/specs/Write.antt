-- The sheet's writer: what it is given, what its caller sees, what is defined of it, and what the first demand says of that. Definitions only. Assumes nothing.
use Rattle.std.specs.Prelude.{ℕ, List, Float, Result, Err}
use contract.Lifetimes.{Lfts}
use denote.Triple.Entry.{Args, Res}
use denote.Triple.Clauses.{AtExit}
use Rattle.job.specs.Job.{Job, job_in}
use Rattle.answer.specs.Refusals.{Answered, answer_in, by_number}
use Rattle.answer.specs.Outcome.{Outcome, outcome}
use Rattle.answer.specs.Rules.{answer}
use Rattle.sheet.specs.Sheets.{write_def}
use Rattle.demands.specs.First.{write_rules}
use Rattle.sheet.specs.contracts.write as function
use Rattle.sheet.proofs.write.Symbol as symbol
use Rattle.contracts.specs.Answers.{Answers}
use Rattle.contracts.specs.Keeps.{Compiled}

module _ (κs : Lfts (function.signature).lifetimes) (a : Args function.signature κs) where
  -- the job and the palette, then the room for the bytes
  abbrev pub job_given : Job
  job_given = job_in a.0.now

  abbrev pub palette_given : List Float
  palette_given = a.1.0.now

  abbrev pub bytes_lent : List ℕ
  bytes_lent = a.1.1.0.now

  abbrev pub seen : Res function.signature κs → AtExit function.ended κs → Outcome (Result ℕ Answered) (List ℕ)
  seen r e = outcome (by_number r) e.1.1.0.now

  abbrev pub defined : Outcome (Result ℕ Answered) (List ℕ)
  defined = write_def job_given palette_given bytes_lent

  abbrev pub answers : Outcome (Result ℕ Answered) (List ℕ) → Type 0
  answers = Answers answer_in (answer (write_rules job_given palette_given bytes_lent)) Err bytes_lent

abbrev pub compiled : Compiled (Outcome (Result ℕ Answered) (List ℕ))
compiled = record { ended = function.ended; seen = seen; name = symbol.name; code = symbol.code }

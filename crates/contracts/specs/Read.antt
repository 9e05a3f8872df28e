-- The sheet's reader: what it is given, what its caller sees, what is defined of it, and what the first demand says of that. Definitions only. Assumes nothing.
use Rattle.std.specs.Prelude.{ℕ, List, Result, Err}
use contract.Lifetimes.{Lfts}
use denote.Triple.Entry.{Args, Res}
use denote.Triple.Clauses.{AtExit}
use Rattle.job.specs.declared.Sizes.{Sizes}
use Rattle.answer.specs.Refusals.{Answered, answer_in, by_number}
use Rattle.answer.specs.Outcome.{Outcome, outcome}
use Rattle.sheet.specs.Sheets.{Room, room, found, read_def}
use Rattle.demands.specs.First.{refusal_in}
use Rattle.sheet.specs.contracts.read as function
use Rattle.sheet.proofs.read.Symbol as symbol
use Rattle.contracts.specs.Answers.{Answers}
use Rattle.contracts.specs.Keeps.{Compiled}

module _ (κs : Lfts (function.signature).lifetimes) (a : Args function.signature κs) where
  abbrev pub size_given : ℕ
  size_given = a.0

  abbrev pub bytes_given : List ℕ
  bytes_given = a.1.0.now

  abbrev pub room_lent : Room
  room_lent = room a.1.1.0.now a.1.1.1.0.now a.1.1.1.1.0.now a.1.1.1.1.1.0.now

  abbrev pub seen : Res function.signature κs → AtExit function.ended κs → Outcome (Result Sizes Answered) Room
  seen r e = outcome (by_number r) (room e.1.1.0.now e.1.1.1.0.now e.1.1.1.1.0.now e.1.1.1.1.1.0.now)

  abbrev pub defined : Outcome (Result Sizes Answered) Room
  defined = read_def size_given bytes_given room_lent

  abbrev pub answers : Outcome (Result Sizes Answered) Room → Type 0
  answers = Answers answer_in (refusal_in (found size_given bytes_given room_lent)) Err room_lent

abbrev pub compiled : Compiled (Outcome (Result Sizes Answered) Room)
compiled = record { ended = function.ended; seen = seen; name = symbol.name; code = symbol.code }
